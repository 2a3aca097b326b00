use Rattle.std.proofs.Common.{◌≡◌, ℕ, take}
use Rattle.il_types.specs.Prelude.{marked, is_given}
use Rattle.il_types.proofs.marks.given.Given as goal

abbrev pub invariant-loop-definer : goal.invariant-loop-definer
invariant-loop-definer l = (t : ℕ) → marked l.marks.items t ≡ is_given l.class t (take l.definer-index l.definers)
