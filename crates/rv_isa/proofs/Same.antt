-- Two operands with the same number are the same, whatever the proofs of their ranges.
use Rattle.std.proofs.Common.{◌≡◌, ◌%◌, ◌^◌, ◌<◌, ap, subst, pos, negsuc, ℤ, ◌≤ℤ◌, ◌<ℤ◌, unsigned_abs}
use Rattle.std.proofs.Props.{props}
use Rattle.std.proofs.Math.Bridge.{le_prop}
use Rattle.bits.specs.Words.{Fits12}
use Rattle.rv_isa.specs.Prelude.{Register, Immediate, BranchOffset, JumpOffset, UpperField, Amount, WordAmount}

-- one proof at most: a function from numbers with a fact to values depends on the number alone
same : {A B : Type 0} (F : A → Type 0) (make : (a : A) → F a → B) → ((a : A) → (p q : F a) → p ≡ q)
    → (a b : A) (p : F a) (q : F b) → a ≡ b → make a p ≡ make b q
same {A} F make prop a b p q e =
    let P : A → Type 0 = λ x. (r : F x) → make a p ≡ make x r in
    subst P e (λ r. ap (make a) (prop a p r)) q

pub same_register : (a b : Register) → a.number ≡ b.number → a ≡ b
same_register a b e =
    same (λ n. n < 32) (λ n p. record { number = n; in_range = p }) (λ n p q. le_prop p q) a.number b.number a.in_range b.in_range e

pub same_immediate : (a b : Immediate) → a.value ≡ b.value → a ≡ b
same_immediate a b e =
    same Fits12 (λ n p. record { value = n; in_range = p }) (λ n. hlevel props) a.value b.value a.in_range b.in_range e

pub same_upper : (a b : UpperField) → a.value ≡ b.value → a ≡ b
same_upper a b e =
    same (λ n. n < 2 ^ 20) (λ n p. record { value = n; in_range = p }) (λ n p q. le_prop p q) a.value b.value a.in_range b.in_range e

pub same_amount : (a b : Amount) → a.value ≡ b.value → a ≡ b
same_amount a b e =
    same (λ n. n < 64) (λ n p. record { value = n; in_range = p }) (λ n p q. le_prop p q) a.value b.value a.in_range b.in_range e

pub same_word_amount : (a b : WordAmount) → a.value ≡ b.value → a ≡ b
same_word_amount a b e =
    same (λ n. n < 32) (λ n p. record { value = n; in_range = p }) (λ n p q. le_prop p q) a.value b.value a.in_range b.in_range e

BranchRange : ℤ → Type 0
BranchRange z = (negsuc 4095 ≤ℤ z) × (z <ℤ pos 4096) × (unsigned_abs z % 2 ≡ 0)

pub same_branch_offset : (a b : BranchOffset) → a.value ≡ b.value → a ≡ b
unfolding BranchRange
same_branch_offset a b e =
    same BranchRange (λ n p. record { value = n; at_least = p.0; at_most = p.1; even = p.2 }) (λ n. hlevel props)
    a.value b.value (a.at_least, a.at_most, a.even) (b.at_least, b.at_most, b.even) e

JumpRange : ℤ → Type 0
JumpRange z = (negsuc 1048575 ≤ℤ z) × (z <ℤ pos 1048576) × (unsigned_abs z % 2 ≡ 0)

pub same_jump_offset : (a b : JumpOffset) → a.value ≡ b.value → a ≡ b
unfolding JumpRange
same_jump_offset a b e =
    same JumpRange (λ n p. record { value = n; at_least = p.0; at_most = p.1; even = p.2 }) (λ n. hlevel props)
    a.value b.value (a.at_least, a.at_most, a.even) (b.at_least, b.at_most, b.even) e
