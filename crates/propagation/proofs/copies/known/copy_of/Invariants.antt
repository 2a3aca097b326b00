use Rattle.std.proofs.Common.{◌≡◌, drop}
use Rattle.propagation.specs.Copied.{copy_of}
use Rattle.propagation.proofs.copies.known.copy_of.Given as goal

abbrev pub invariant-loop-pair : goal.invariant-loop-pair
invariant-loop-pair l = copy_of (drop l.pair-index l.known) l.register ≡ copy_of l.known l.register
