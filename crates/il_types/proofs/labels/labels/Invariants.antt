use Rattle.std.proofs.Common.{◌≡◌, ℕ, take}
use Rattle.il_types.specs.Prelude.{marked, is_label}
use Rattle.il_types.proofs.labels.labels.Given as goal

abbrev pub invariant-loop-block : goal.invariant-loop-block
invariant-loop-block l = (n : ℕ) → marked l.marks.items n ≡ is_label (take l.block-index l.blocks) n
