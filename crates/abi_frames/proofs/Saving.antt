-- The registers that a function saves: those of a callee that its code writes.
use Rattle.std.proofs.Common.{◌≡◌, ℕ, suc, ◌≤◌, Bool, true, false, List, [], ◌∷◌, ◌++◌, refl, sym, ◌∙◌, ap, arith, ◌||◌, nat_eq, if◌then◌else◌, length, slice_get, Some}
use Rattle.abi_frames.proofs.Shared.{Location, InRegister, Slot, Destination, Line, Block, Code, list_all, list_any, and_parts, and_from, eqb-true, equals_itself, not_both, nat_tests, is_place}
use Rattle.abi_frames.specs.Performs.{is_kept, is_register, writes, block_writes, is_written, written_of, callee_saved, is_call, block_calls, makes_call, saved_registers}
use Rattle.abi_frames.proofs.Activations.{can_save, is_held, is_among, place_is, MayWrite}
use Rattle.il_ast.proofs.Listed.{any_at}

-- ---- those of a list that the code writes

written_all : (test : ℕ → Bool) (f : Code Location) (rs : List ℕ) → list_all test rs ≡ true → list_all test (written_of f rs) ≡ true
written_all test f [] h = refl
written_all test f (r ∷ rs) h =
    let parts = and_parts (test r) (list_all test rs) h in
    by_test parts.0 (written_all test f rs parts.1) (is_written f r)
  where
    by_test : test r ≡ true → list_all test (written_of f rs) ≡ true → (b : Bool)
        → list_all test (if b then r ∷ written_of f rs else written_of f rs) ≡ true
    by_test one more true = and_from (test r) (list_all test (written_of f rs)) one more
    by_test one more false = more

few_written : (f : Code Location) (rs : List ℕ) → length (written_of f rs) ≤ length rs
few_written f [] = omega arith
few_written f (r ∷ rs) = by_test (few_written f rs) (is_written f r)
  where
    by_test : length (written_of f rs) ≤ length rs → (b : Bool) → length (if b then r ∷ written_of f rs else written_of f rs) ≤ suc (length rs)
    by_test rest true = omega (arith, rest)
    by_test rest false = omega (arith, rest)

written_among : (f : Code Location) (n : ℕ) (rs : List ℕ) → is_written f n ≡ true → is_among n rs ≡ true → is_among n (written_of f rs) ≡ true
written_among f n [] is h = absurd (let no : ⊥ = cc in no)
written_among f n (r ∷ rs) is h = by_test (λ k. written_among f n rs is k) (nat_eq n r) refl (is_written f r) refl h
  where
    first : (t : Bool) → t ≡ true → (t || is_among n (written_of f rs)) ≡ true
    first true e = refl
    first false e = absurd (let no : ⊥ = cc in no)

    later : (t : Bool) → is_among n (written_of f rs) ≡ true → (t || is_among n (written_of f rs)) ≡ true
    later true e = refl
    later false e = e

    by_test : (is_among n rs ≡ true → is_among n (written_of f rs) ≡ true) → (t : Bool) → nat_eq n r ≡ t → (b : Bool) → is_written f r ≡ b
        → (t || is_among n rs) ≡ true → is_among n (if b then r ∷ written_of f rs else written_of f rs) ≡ true
    by_test rest true e true d k = first (nat_eq n r) e
    by_test rest true e false d k = absurd (not_both (is_written f r) (ap (is_written f) (sym (eqb-true n r e)) ∙ is) d)
    by_test rest false e true d k = later (nat_eq n r) (rest k)
    by_test rest false e false d k = rest k

-- ---- the saved registers

all_saved : (test : ℕ → Bool) (f : Code Location) → test 1 ≡ true → list_all test callee_saved ≡ true → list_all test (saved_registers f) ≡ true
unfolding saved_registers
all_saved test f address all = by_test (makes_call f) (written_all test f callee_saved all)
  where
    by_test : (b : Bool) → list_all test (written_of f callee_saved) ≡ true → list_all test ((if b then 1 ∷ [] else []) ++ written_of f callee_saved) ≡ true
    by_test true e = and_from (test 1) (list_all test (written_of f callee_saved)) address e
    by_test false e = e

pub can_save_all : (f : Code Location) → list_all can_save (saved_registers f) ≡ true
can_save_all f = all_saved can_save f refl refl

pub held_all : (f : Code Location) → list_all is_held (saved_registers f) ≡ true
held_all f = all_saved is_held f refl refl

pub few_saved_registers : (f : Code Location) → length (saved_registers f) ≤ 13
unfolding saved_registers
few_saved_registers f = by_test (makes_call f) (few_written f callee_saved)
  where
    by_test : (b : Bool) → length (written_of f callee_saved) ≤ 12 → length ((if b then 1 ∷ [] else []) ++ written_of f callee_saved) ≤ 13
    by_test true h = omega (arith, h)
    by_test false h = omega (arith, h)

return_is_saved : (f : Code Location) → makes_call f ≡ true → is_among 1 (saved_registers f) ≡ true
unfolding saved_registers
return_is_saved f e = ap (λ (b : Bool). is_among 1 ((if b then 1 ∷ [] else []) ++ written_of f callee_saved)) e

among_callee_saved : (r : ℕ) → 5 ≤ r → is_kept r ≡ true → is_among r callee_saved ≡ true
among_callee_saved r from kept = grind (arith, nat_tests)

-- a written register that a callee keeps is saved
written_saved : (f : Code Location) (r : ℕ) → 5 ≤ r → is_written f r ≡ true → is_kept r ≡ true → is_among r (saved_registers f) ≡ true
unfolding saved_registers
written_saved f r from is kept = by_test (makes_call f) (written_among f r callee_saved is (among_callee_saved r from kept))
  where
    later : (t : Bool) → is_among r (written_of f callee_saved) ≡ true → (t || is_among r (written_of f callee_saved)) ≡ true
    later true e = refl
    later false e = e

    by_test : (b : Bool) → is_among r (written_of f callee_saved) ≡ true → is_among r ((if b then 1 ∷ [] else []) ++ written_of f callee_saved) ≡ true
    by_test true e = later (nat_eq r 1) e
    by_test false e = e

-- ---- destinations

or_right : (a b : Bool) → b ≡ true → (a || b) ≡ true
or_right true b e = refl
or_right false b e = e

or_left : (a b : Bool) → a ≡ true → (a || b) ≡ true
or_left true b e = refl
or_left false b e = absurd (let no : ⊥ = cc in no)

abbrev is_place_of : ℕ → Destination Location → Bool
is_place_of n d = is_register n d.place

-- the return address is saved where a line is a call
pub call_saves : (f : Code Location) (i j : ℕ) (b : Block Location) (l : Line Location) → slice_get f.blocks i ≡ Some b → slice_get b.lines j ≡ Some l
    → is_call l ≡ true → is_among 1 (saved_registers f) ≡ true
call_saves f i j b l in_code in_block calls = return_is_saved f (any_at block_calls f.blocks i b in_code (any_at is_call b.lines j l in_block calls))

-- the destination of a line may be written
pub line_may : (f : Code Location) (slots i j : ℕ) (b : Block Location) (l : Line Location) → slice_get f.blocks i ≡ Some b → slice_get b.lines j ≡ Some l
    → (to : Location) → is_place slots to ≡ true → ((n : ℕ) → is_register n to ≡ writes n l) → MayWrite (saved_registers f) to
line_may f slots i j b l in_code in_block (Slot k) good it = tt
line_may f slots i j b l in_code in_block (InRegister r) good it =
    let here : writes r l ≡ true = sym (it r) ∙ equals_itself r in
    let block : block_writes r b ≡ true = any_at (writes r) b.lines j l in_block here in
    let code = any_at (block_writes r) f.blocks i b in_code block in
    written_saved f r (place_is slots r good).from_5 (or_right (list_any (is_place_of r) f.params) (list_any (block_writes r) f.blocks) code)

-- the places of parameters may be written
abbrev pub AllMayWrite : List ℕ → List (Destination Location) → Type 0
AllMayWrite rs [] = Unit {0}
AllMayWrite rs (d ∷ ds) = MayWrite rs d.place × AllMayWrite rs ds

param_may : (f : Code Location) (slots : ℕ) (to : Location) → is_place slots to ≡ true → ((n : ℕ) → is_register n to ≡ true → is_written f n ≡ true)
    → MayWrite (saved_registers f) to
param_may f slots (Slot k) good it = tt
param_may f slots (InRegister r) good it = written_saved f r (place_is slots r good).from_5 (it r (equals_itself r))

params_may : (f : Code Location) (slots : ℕ) (ds : List (Destination Location)) → list_all (λ (d : Destination Location). is_place slots d.place) ds ≡ true
    → ((n : ℕ) → list_any (is_place_of n) ds ≡ true → is_written f n ≡ true) → AllMayWrite (saved_registers f) ds
params_may f slots [] good it = tt
params_may f slots (d ∷ ds) good it =
    let parts = and_parts (is_place slots d.place) (list_all (λ (e : Destination Location). is_place slots e.place) ds) good in (
      param_may f slots d.place parts.0 (λ n e. it n (or_left (is_place_of n d) (list_any (is_place_of n) ds) e)),
      params_may f slots ds parts.1 (λ n e. it n (or_right (is_place_of n d) (list_any (is_place_of n) ds) e)),
    )

pub all_params_may : (f : Code Location) (slots : ℕ) → list_all (λ (d : Destination Location). is_place slots d.place) f.params ≡ true
    → AllMayWrite (saved_registers f) f.params
all_params_may f slots good = params_may f slots f.params good (λ n e. or_left (list_any (is_place_of n) f.params) (list_any (block_writes n) f.blocks) e)
