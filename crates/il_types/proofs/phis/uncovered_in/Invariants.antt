use Rattle.std.proofs.Common.{◌≡◌, drop}
use Rattle.il_types.specs.Prelude.{first, NothingNamed, uncovered_by}
use Rattle.il_types.proofs.phis.uncovered_in.Given as goal

abbrev pub invariant-loop-block : goal.invariant-loop-block
invariant-loop-block l =
    (first (uncovered_by l.rows) (drop l.block-index l.blocks) ≡ first (uncovered_by l.rows) l.blocks)
    × (NothingNamed l.tally.items × NothingNamed l.leading.items)
