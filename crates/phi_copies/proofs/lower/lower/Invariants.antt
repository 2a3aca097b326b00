use Rattle.std.proofs.Common.{drop}
use Rattle.phi_copies.proofs.EntryNumbers.{SoFar}
use Rattle.phi_copies.proofs.lower.lower.Given as goal

abbrev pub invariant-loop-block : goal.invariant-loop-block
invariant-loop-block l = SoFar l.func l.endings.items l.edges.items (drop l.block-index l.block-items) l.block-index
