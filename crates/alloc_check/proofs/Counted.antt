-- Points only grow.
use Rattle.std.proofs.Common.{◌≡◌, ℕ, ◌≤◌, Bool, true, false, nat_le, nat_eq, Some, None, refl, ap, arith, if◌then◌else◌}
use Rattle.std.proofs.lemmas.Bool.Decides.{nat_tests}
use Rattle.alloc_check.specs.Prelude.{bounded}

pub beyond : (limit p q : ℕ) → bounded limit p ≡ None → p ≤ q → bounded limit q ≡ None
beyond limit p q h low =
    let no : nat_le p limit ≡ false = past (nat_le p limit) h in
    let never : nat_le q limit ≡ false = grind (arith, nat_tests) in
    ap (λ b. if b then Some q else None) never
  where
    past : (b : Bool) → (if b then Some p else None) ≡ None → b ≡ false
    past true e = cc
    past false e = refl

pub within : (limit p q : ℕ) → bounded limit p ≡ Some q → (q ≡ p) × (p ≤ limit)
within limit p q h = by (nat_le p limit) refl h
  where
    by : (b : Bool) → nat_le p limit ≡ b → (if b then Some p else None) ≡ Some q → (q ≡ p) × (p ≤ limit)
    by true e f = (cc, grind (arith, nat_tests))
    by false e f = cc

pub none_there : (count p : ℕ) → bounded count p ≡ None → nat_eq p count ≡ false
none_there count p h = by (nat_le p count) refl h
  where
    by : (b : Bool) → nat_le p count ≡ b → (if b then Some p else None) ≡ None → nat_eq p count ≡ false
    by true e f = cc
    by false e f = grind (arith, nat_tests)
