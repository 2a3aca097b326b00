-- Numbers: the value that is counted digit by digit is that of all digits.
use Rattle.std.proofs.Common.{◌≡◌, ℕ, ◌+◌, ◌-◌, ◌*◌, ◌^◌, ◌<◌, ◌≤◌, ltb, List, [], ◌∷◌, Option, Some, None, refl, sym, ap, ◌∙◌, arith, fold}
use Rattle.std.proofs.lemmas.Bool.Decides.{nat_tests, Decides-ltb}
use Rattle.il_lex.specs.Next.{decimal}
use Rattle.il_lex.specs.Scan.{number_from}
use Rattle.il_lex.proofs.Runs.{cond_cases}

-- the value of digits behind digits of value n
abbrev pub more : ℕ → List ℕ → ℕ
more n ds = fold (λ n d. 10 * n + (d - 48)) n ds

pub more-le : (n : ℕ) (ds : List ℕ) → n ≤ more n ds
more-le n [] = omega arith
more-le n (d ∷ ds) = omega (arith, more-le (10 * n + (d - 48)) ds)

-- what an answer of number_from says
abbrev Valued : ℕ → List ℕ → Option ℕ → Type 0
Valued n ds None = 2 ^ 64 ≤ more n ds
Valued n ds (Some v) = (v ≡ more n ds) × (v < 2 ^ 64)

pub number_valued : (n : ℕ) (ds : List ℕ) → n < 2 ^ 64 → Valued n ds (number_from n ds)
number_valued n [] h = (refl, h)
number_valued n (d ∷ ds) h =
    cond_cases (Valued n (d ∷ ds)) (ltb (10 * n + (d - 48)) (2 ^ 64)) (number_from (10 * n + (d - 48)) ds) None
    (λ t. number_valued (10 * n + (d - 48)) ds ((Decides-ltb (10 * n + (d - 48)) (2 ^ 64)).0 t))
    (λ f. let bound : 2 ^ 64 ≤ 10 * n + (d - 48) = grind (arith, nat_tests) in
    omega (arith, more-le (10 * n + (d - 48)) ds, bound))

some_valued : (n : ℕ) (ds : List ℕ) (v : ℕ) (o : Option ℕ) → Valued n ds o → o ≡ Some v → (v ≡ more n ds) × (v < 2 ^ 64)
some_valued n ds v None h e = absurd (cc)
some_valued n ds v (Some w) h e = let same : w ≡ v = cc in (sym same ∙ h.0, rw (← same) h.1)

pub number_sound : (ds : List ℕ) (v : ℕ) → number_from 0 ds ≡ Some v → (v ≡ decimal ds) × (v < 2 ^ 64)
number_sound ds v e = some_valued 0 ds v (number_from 0 ds) (number_valued 0 ds (omega arith)) e

fits_valued : (n : ℕ) (ds : List ℕ) (o : Option ℕ) → Valued n ds o → more n ds < 2 ^ 64 → o ≡ Some (more n ds)
fits_valued n ds None h l = absurd (omega arith)
fits_valued n ds (Some w) h l = ap Some h.0

pub number_complete : (ds : List ℕ) → decimal ds < 2 ^ 64 → number_from 0 ds ≡ Some (decimal ds)
number_complete ds l = fits_valued 0 ds (number_from 0 ds) (number_valued 0 ds (omega arith)) l
