-- What tests and their conjunctions, disjunctions and negations say.
use Rattle.std.proofs.Common.{◌≡◌, ℕ, suc, ◌<◌, Bool, true, false, not, nat_eq, ◌&&◌, ◌||◌, refl, sym, arith}
use Rattle.std.proofs.lemmas.Bool.Decides.{nat_tests}
use Rattle.std.proofs.lemmas.Bool.{and_parts, both_ways}

-- ---- numbers

pub equals_itself : (n : ℕ) → nat_eq n n ≡ true
equals_itself n = grind (arith, nat_tests)

pub equal_turned : (a b : ℕ) → nat_eq a b ≡ nat_eq b a
equal_turned a b = grind (arith, nat_tests)

pub less_differs : (a b : ℕ) → a < b → nat_eq a b ≡ false
less_differs a b h = grind (arith, nat_tests)

pub same_tests : (a b : Bool) → (a ≡ true → b ≡ true) → (b ≡ true → a ≡ true) → a ≡ b
same_tests true b f g = sym (f refl)
same_tests false true f g = g refl
same_tests false false f g = refl

pub eq_zero_suc : (n : ℕ) → nat_eq 0 (suc n) ≡ false
eq_zero_suc n = grind (arith, nat_tests)

pub eq_suc_zero : (n : ℕ) → nat_eq (suc n) 0 ≡ false
eq_suc_zero n = grind (arith, nat_tests)

pub eq_suc_suc : (a b : ℕ) → nat_eq (suc a) (suc b) ≡ nat_eq a b
eq_suc_suc a b = same_tests (nat_eq (suc a) (suc b)) (nat_eq a b) (λ h. grind (arith, nat_tests)) (λ h. grind (arith, nat_tests))

-- ---- conjunctions, disjunctions and negations

pub not_both : (b : Bool) → b ≡ true → b ≡ false → ⊥
not_both b h k = both_ways b k h

pub and_first : (a b : Bool) → (a && b) ≡ true → a ≡ true
and_first a b h = (and_parts a b h).0

pub and_second : (a b : Bool) → (a && b) ≡ true → b ≡ true
and_second a b h = (and_parts a b h).1

pub and_assoc : (a b c : Bool) → ((a && b) && c) ≡ (a && (b && c))
and_assoc true b c = refl
and_assoc false b c = refl

pub and_true : (b : Bool) → (b && true) ≡ b
and_true true = refl
and_true false = refl

pub and_false : (b : Bool) → (b && false) ≡ false
and_false true = refl
and_false false = refl

pub neither_holds : (a b : Bool) → not (a || b) ≡ true → (a ≡ false) × (not b ≡ true)
neither_holds true b h = absurd (let no : ⊥ = cc in no)
neither_holds false b h = (refl, h)

pub not_not : (b : Bool) → not (not b) ≡ b
not_not true = refl
not_not false = refl
