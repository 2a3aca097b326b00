-- Marks of the registers that code writes.
use Rattle.std.proofs.Common.{◌≡◌, ◌<◌, ◌∙◌, ℕ, zero, suc, Bool, true, false, List, [], ◌∷◌, if◌then◌else◌, length, replicate, refl, subst, sym, ap, arith, nat_lt, filter}
use Rattle.abi_frames.proofs.Shared.{Location, Code, list_all, and_parts, nat_tests}
use Rattle.abi_frames.specs.Performs.{is_written, written_of, callee_saved, is_marked}

below : (r : ℕ) → nat_lt r 32 ≡ true → r < 32
below r e = grind (arith, nat_tests)

-- the marked ones of these registers are those that the code writes
pub marked_are_written : (c : Code Location) (marks : List Bool) → ((n : ℕ) → n < 32 → is_marked marks n ≡ is_written c n)
    → (rs : List ℕ) → list_all (λ r. nat_lt r 32) rs ≡ true → filter (is_marked marks) rs ≡ written_of c rs
marked_are_written c marks same [] low = refl
marked_are_written c marks same (r ∷ rs) low =
    let parts = and_parts (nat_lt r 32) (list_all (λ n. nat_lt n 32) rs) low in
    ap (λ (b : Bool). if b then r ∷ filter (is_marked marks) rs else filter (is_marked marks) rs) (same r (below r parts.0))
    ∙ ap (λ (xs : List ℕ). if is_written c r then r ∷ xs else xs) (marked_are_written c marks same rs parts.1)

-- the same, by marks that were made in a list of 32
pub marked_from : (c : Code Location) (marks old : List Bool) → length old ≡ 32 → ((n : ℕ) → n < length old → is_marked marks n ≡ is_written c n)
    → (rs : List ℕ) → rs ≡ callee_saved → filter (is_marked marks) rs ≡ written_of c callee_saved
marked_from c marks old long same rs saved =
    ap (filter (is_marked marks)) saved
    ∙ marked_are_written c marks (λ n low. same n (subst (λ (k : ℕ). n < k) (sym long) low)) callee_saved refl

-- no register is marked at first
pub unmarked : (k n : ℕ) → is_marked (replicate k false) n ≡ false
unmarked zero n = refl
unmarked (suc k) zero = refl
unmarked (suc k) (suc n) = unmarked k n
