-- Words compare as their extensions do.
use Rattle.std.proofs.Common.{◌≡◌, ℕ, ◌^◌, ◌<◌, ◌∙◌, ap, arith, not, nat_eq, nat_lt, nat_le, int_lt, int_le}
use Rattle.std.specs.Int.{cast_signed, w32, w64}
use Rattle.std.proofs.lemmas.Int.{ints}
use Rattle.std.proofs.lemmas.Bool.Decides.{nat_tests}
use Rattle.bits.specs.Words.{sign_extended}
use Rattle.il_ast.specs.declared.operation.Class.TheVariants.{W, L}
use Rattle.il_ast.specs.declared.operation.Condition.{Condition}
use Rattle.il_ast.specs.declared.operation.Condition.TheVariants.{Equal, NotEqual, SignedLessEqual, SignedLess, SignedGreaterEqual, SignedGreater, UnsignedLessEqual, UnsignedLess, UnsignedGreaterEqual, UnsignedGreater}
use Rattle.il_ast.specs.Prelude.{holds}

signed_word : (m : ℕ) → m < 2 ^ 32 → cast_signed w64 (sign_extended m) ≡ cast_signed w32 m
signed_word m h = grind (arith, ints)

equal_words : (m n : ℕ) → m < 2 ^ 32 → n < 2 ^ 32 → nat_eq (sign_extended m) (sign_extended n) ≡ nat_eq m n
equal_words m n h k = grind (arith, ints, nat_tests)

below_words : (m n : ℕ) → m < 2 ^ 32 → n < 2 ^ 32 → nat_lt (sign_extended m) (sign_extended n) ≡ nat_lt m n
below_words m n h k = grind (arith, ints, nat_tests)

at_most_words : (m n : ℕ) → m < 2 ^ 32 → n < 2 ^ 32 → nat_le (sign_extended m) (sign_extended n) ≡ nat_le m n
at_most_words m n h k = grind (arith, ints, nat_tests)

pub holds_extended : (on : Condition) (m n : ℕ) → m < 2 ^ 32 → n < 2 ^ 32 → holds on L (sign_extended m) (sign_extended n) ≡ holds on W m n
holds_extended Equal m n h k = equal_words m n h k
holds_extended NotEqual m n h k = ap not (equal_words m n h k)
holds_extended SignedLess m n h k = ap (λ x. int_lt x (cast_signed w64 (sign_extended n))) (signed_word m h) ∙ ap (int_lt (cast_signed w32 m)) (signed_word n k)
holds_extended SignedGreater m n h k = ap (λ x. int_lt x (cast_signed w64 (sign_extended m))) (signed_word n k) ∙ ap (int_lt (cast_signed w32 n)) (signed_word m h)
holds_extended SignedLessEqual m n h k = ap (λ x. int_le x (cast_signed w64 (sign_extended n))) (signed_word m h) ∙ ap (int_le (cast_signed w32 m)) (signed_word n k)
holds_extended SignedGreaterEqual m n h k = ap (λ x. int_le x (cast_signed w64 (sign_extended m))) (signed_word n k) ∙ ap (int_le (cast_signed w32 n)) (signed_word m h)
holds_extended UnsignedLess m n h k = below_words m n h k
holds_extended UnsignedGreater m n h k = below_words n m k h
holds_extended UnsignedLessEqual m n h k = at_most_words m n h k
holds_extended UnsignedGreaterEqual m n h k = at_most_words n m k h
