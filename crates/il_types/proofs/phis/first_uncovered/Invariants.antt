use Rattle.std.proofs.Common.{◌≡◌, drop}
use Rattle.il_types.specs.Prelude.{NothingNamed, first_uncovered_by}
use Rattle.il_types.proofs.phis.first_uncovered.Given as goal

abbrev pub invariant-loop-phi : goal.invariant-loop-phi
invariant-loop-phi l =
    (first_uncovered_by l.predecessors (drop l.phi-index l.phis) ≡ first_uncovered_by l.predecessors l.phis) × NothingNamed l.tally.items
