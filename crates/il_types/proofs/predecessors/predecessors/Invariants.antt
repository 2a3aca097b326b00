use Rattle.std.proofs.Common.{◌≡◌, ℕ, take}
use Rattle.il_types.specs.Prelude.{row, predecessors_of}
use Rattle.il_types.proofs.predecessors.predecessors.Given as goal

abbrev pub invariant-loop-block : goal.invariant-loop-block
invariant-loop-block l = (j : ℕ) → row l.rows.items j ≡ predecessors_of j (take l.block-index l.blocks)
