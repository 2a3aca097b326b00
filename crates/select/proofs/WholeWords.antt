-- Operations on all bits of two words that stand sign-extended give a word that stands so.
use Rattle.std.proofs.Common.{◌≡◌, ℕ, ◌-◌, ◌/◌, ◌%◌, ◌^◌, ◌<◌, ◌≤◌, Bool, true, false, nat_lt, ◌⊎◌, inl, inr, refl, ◌∙◌, ap, arith, bit_and, bit_or, bit_xor}
use Rattle.std.proofs.lemmas.Bool.Decides.{nat_tests}
use Rattle.std.proofs.lemmas.Int.{ints}
use Rattle.std.proofs.lemmas.Nat.{and_shr, or_shr, xor_shr}
use Rattle.bits.specs.Words.{sign_extended}
use Rattle.rv_isa.specs.declared.instruction.RegOp.{RegOp}
use Rattle.rv_isa.specs.declared.instruction.RegOp.TheVariants.{Xor as XorReg, Or as OrReg, And as AndReg}
use Rattle.rv_isa.specs.Prelude.{reg_value}

pub extended_low : (n : ℕ) → n < 2 ^ 32 → sign_extended n % 2 ^ 32 ≡ n
extended_low n h = grind (arith, ints)

-- the high 33 bits are all 0 or all 1
abbrev IsUniform : ℕ → Type 0
IsUniform n = (n / 2 ^ 31 ≡ 0) ⊎ (n / 2 ^ 31 ≡ 2 ^ 33 - 1)

low_is : (m : ℕ) → m < 2 ^ 31 → sign_extended m / 2 ^ 31 ≡ 0
low_is m h = grind (arith, ints)

high_is : (m : ℕ) → 2 ^ 31 ≤ m → m < 2 ^ 32 → sign_extended m / 2 ^ 31 ≡ 2 ^ 33 - 1
high_is m h k = grind (arith, ints)

extended_uniform : (m : ℕ) → m < 2 ^ 32 → IsUniform (sign_extended m)
extended_uniform m h = by (nat_lt m (2 ^ 31)) refl
  where
    by : (b : Bool) → nat_lt m (2 ^ 31) ≡ b → IsUniform (sign_extended m)
    by true e = inl (low_is m (let lt : m < 2 ^ 31 = grind (arith, nat_tests) in lt))
    by false e = inr (high_is m (let le : 2 ^ 31 ≤ m = grind (arith, nat_tests) in le) h)

uniform_extended : (n : ℕ) → IsUniform n → sign_extended (n % 2 ^ 32) ≡ n
uniform_extended n (inl e) = grind (arith, ints)
uniform_extended n (inr e) = grind (arith, ints)

and_uniform : (a b : ℕ) → IsUniform a → IsUniform b → IsUniform (bit_and a b)
and_uniform a b (inl e) (inl f) = inl (and_shr a b 31 ∙ ap (λ x. bit_and x (b / 2 ^ 31)) e ∙ ap (bit_and 0) f)
and_uniform a b (inl e) (inr f) = inl (and_shr a b 31 ∙ ap (λ x. bit_and x (b / 2 ^ 31)) e ∙ ap (bit_and 0) f)
and_uniform a b (inr e) (inl f) = inl (and_shr a b 31 ∙ ap (λ x. bit_and x (b / 2 ^ 31)) e ∙ ap (bit_and (2 ^ 33 - 1)) f)
and_uniform a b (inr e) (inr f) = inr (and_shr a b 31 ∙ ap (λ x. bit_and x (b / 2 ^ 31)) e ∙ ap (bit_and (2 ^ 33 - 1)) f)

or_uniform : (a b : ℕ) → IsUniform a → IsUniform b → IsUniform (bit_or a b)
or_uniform a b (inl e) (inl f) = inl (or_shr a b 31 ∙ ap (λ x. bit_or x (b / 2 ^ 31)) e ∙ ap (bit_or 0) f)
or_uniform a b (inl e) (inr f) = inr (or_shr a b 31 ∙ ap (λ x. bit_or x (b / 2 ^ 31)) e ∙ ap (bit_or 0) f)
or_uniform a b (inr e) (inl f) = inr (or_shr a b 31 ∙ ap (λ x. bit_or x (b / 2 ^ 31)) e ∙ ap (bit_or (2 ^ 33 - 1)) f)
or_uniform a b (inr e) (inr f) = inr (or_shr a b 31 ∙ ap (λ x. bit_or x (b / 2 ^ 31)) e ∙ ap (bit_or (2 ^ 33 - 1)) f)

xor_uniform : (a b : ℕ) → IsUniform a → IsUniform b → IsUniform (bit_xor a b)
xor_uniform a b (inl e) (inl f) = inl (xor_shr a b 31 ∙ ap (λ x. bit_xor x (b / 2 ^ 31)) e ∙ ap (bit_xor 0) f)
xor_uniform a b (inl e) (inr f) = inr (xor_shr a b 31 ∙ ap (λ x. bit_xor x (b / 2 ^ 31)) e ∙ ap (bit_xor 0) f)
xor_uniform a b (inr e) (inl f) = inr (xor_shr a b 31 ∙ ap (λ x. bit_xor x (b / 2 ^ 31)) e ∙ ap (bit_xor (2 ^ 33 - 1)) f)
xor_uniform a b (inr e) (inr f) = inl (xor_shr a b 31 ∙ ap (λ x. bit_xor x (b / 2 ^ 31)) e ∙ ap (bit_xor (2 ^ 33 - 1)) f)

-- the result is the extension of its low 32 bits
abbrev pub BitsStay : RegOp → Type 0
BitsStay op =
    (m n : ℕ) → m < 2 ^ 32 → n < 2 ^ 32 → sign_extended (reg_value op (sign_extended m) (sign_extended n) % 2 ^ 32) ≡ reg_value op (sign_extended m) (sign_extended n)

pub and_stays : BitsStay AndReg
and_stays m n h k = uniform_extended (bit_and (sign_extended m) (sign_extended n)) (and_uniform (sign_extended m) (sign_extended n) (extended_uniform m h) (extended_uniform n k))

pub or_stays : BitsStay OrReg
or_stays m n h k = uniform_extended (bit_or (sign_extended m) (sign_extended n)) (or_uniform (sign_extended m) (sign_extended n) (extended_uniform m h) (extended_uniform n k))

pub xor_stays : BitsStay XorReg
xor_stays m n h k = uniform_extended (bit_xor (sign_extended m) (sign_extended n)) (xor_uniform (sign_extended m) (sign_extended n) (extended_uniform m h) (extended_uniform n k))
