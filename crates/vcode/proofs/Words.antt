-- A word that is sign-extended keeps its low 32 bits.
use Rattle.std.proofs.Common.{◌≡◌, ℕ, ◌%◌, ◌^◌, ◌<◌, refl, ap, arith, Some}
use Rattle.std.proofs.lemmas.Int.{ints}
use Rattle.bits.specs.Words.{sign_extended}
use Rattle.il_ast.specs.declared.operation.Class.TheVariants.{W, L}
use Rattle.il_ast.specs.declared.value.Value.TheVariants.{Integer, Pointer, Function}
use Rattle.vcode.specs.Prelude.{WordsAreRead}

low_bits : (n : ℕ) → n < 2 ^ 32 → sign_extended n % 2 ^ 32 ≡ n
low_bits n h = grind (arith, ints)

pub words_are_read : WordsAreRead
words_are_read W (Integer n) = ap (λ k. Some (Integer k)) (low_bits (n % 2 ^ 32) (omega arith))
words_are_read W (Pointer b o) = refl
words_are_read W (Function f) = refl
words_are_read L v = refl
