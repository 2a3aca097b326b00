-- From which registers those in which arguments are passed take their values on entry.
use Rattle.std.proofs.Common.{◌≡◌, ◌≢◌, ℕ, zero, suc, ◌+◌, ◌-◌, ◌<◌, ◌≤◌, Bool, true, false, List, [], ◌∷◌, refl, sym, ◌∙◌, ap, arith, ◌&&◌, nat_lt, if◌then◌else◌, length, slice_get, Some}
use Rattle.abi_frames.proofs.Shared.{L, Location, InRegister, Slot, At, Argument, Destination, list_all, and_from, same_Some, nat_tests}
use Rattle.vcode.specs.declared.place.Extension.TheVariants.{Made}
use Rattle.abi_frames.specs.Performs.{is_register}
use Rattle.abi_frames.specs.Functions.{source_in, sources}
use Rattle.abi_frames.proofs.Passing.{in_place}

-- a register's value as an argument
abbrev pub source : ℕ → Argument Location
source r = record { class = L; value = At (InRegister r); extension = Made }

pub next_source : (n : ℕ) (ds : List (Destination Location)) → n < 8 → sources (8 - n) n ds ≡ source (source_in n 0 ds) ∷ sources (8 - (n + 1)) (n + 1) ds
next_source n ds few =
    let one : 8 - n ≡ suc (8 - (n + 1)) = omega (arith, few) in
    ap (λ m. sources m n ds) one

-- ---- all of them are registers in which arguments are passed

between : (slots r : ℕ) → 10 ≤ r → r < 18 → in_place slots (source r) ≡ true
between slots r lo hi = grind (arith, nat_tests)

source_between : (slots i k : ℕ) (ds : List (Destination Location)) → i < 8 → in_place slots (source (source_in i k ds)) ≡ true
source_between slots i k [] few = between slots (10 + i) (omega arith) (omega (arith, few))
source_between slots i k (d ∷ ds) few = by_test (nat_lt k 8) refl (is_register (10 + i) d.place) (source_between slots i (k + 1) ds few)
  where
    by_test : (p : Bool) → nat_lt k 8 ≡ p → (q : Bool) → in_place slots (source (source_in i (k + 1) ds)) ≡ true
        → in_place slots (source (if p && q then 10 + k else source_in i (k + 1) ds)) ≡ true
    by_test true e true rest = let low : k < 8 = grind (arith, nat_tests) in between slots (10 + k) (omega arith) (omega (arith, low))
    by_test true e false rest = rest
    by_test false e q rest = rest

pub sources_stand : (slots count i : ℕ) (ds : List (Destination Location)) → i + count ≤ 8 → list_all (in_place slots) (sources count i ds) ≡ true
sources_stand slots zero i ds fits = refl
sources_stand slots (suc n) i ds fits =
    and_from (in_place slots (source (source_in i 0 ds))) (list_all (in_place slots) (sources n (i + 1) ds)) (source_between slots i 0 ds (omega (arith, fits)))
    (sources_stand slots n (i + 1) ds (omega (arith, fits)))

pub sources_length : (count i : ℕ) (ds : List (Destination Location)) → length (sources count i ds) ≡ count
sources_length zero i ds = refl
sources_length (suc n) i ds = let rest = sources_length n (i + 1) ds in omega (arith, rest)

-- ---- which one it is

pub source_at : (count i k : ℕ) (ds : List (Destination Location)) → k < count → slice_get (sources count i ds) k ≡ Some (source (source_in (i + k) 0 ds))
source_at zero i k ds few = absurd (let no : ⊥ = omega (arith, few) in no)
source_at (suc n) i zero ds few =
    let here : i ≡ i + zero = omega arith in
    ap (λ m. Some (source (source_in m 0 ds))) here
source_at (suc n) i (suc k) ds few =
    let here : i + 1 + k ≡ i + suc k = omega arith in
    source_at n (i + 1) k ds (omega (arith, few)) ∙ ap (λ m. Some (source (source_in m 0 ds))) here

-- no two of these have one place
abbrev pub AllApart : List (Destination Location) → Type 0
AllApart ds = (i j : ℕ) (d e : Destination Location) → i ≢ j → slice_get ds i ≡ Some d → slice_get ds j ≡ Some e → d.place ≢ e.place

pub apart_more : (d : Destination Location) (ds : List (Destination Location)) → AllApart (d ∷ ds) → AllApart ds
apart_more d ds apart i j x y other is_x is_y = apart (suc i) (suc j) x y (λ e. absurd (let same : i ≡ j = omega (arith, e) in other same)) is_x is_y

register_is : (n : ℕ) (p : Location) → is_register n p ≡ true → p ≡ InRegister n
register_is n (InRegister r) h = let same : r ≡ n = grind (arith, nat_tests) in ap InRegister same
register_is n (Slot i) h = absurd (let no : ⊥ = cc in no)

is_itself : (n : ℕ) → is_register n (InRegister n) ≡ true
is_itself n = grind (arith, nat_tests)

pub source_is : (i k m : ℕ) (ds : List (Destination Location)) (d : Destination Location) → AllApart ds → slice_get ds m ≡ Some d → d.place ≡ InRegister (10 + i) → k + m < 8
    → source_in i k ds ≡ 10 + (k + m)
source_is i k m [] d apart is place few = absurd (let no : ⊥ = cc in no)
source_is i k zero (e ∷ ds) d apart is place few =
    let low : nat_lt k 8 ≡ true = grind (arith, nat_tests) in
    let same : e ≡ d = same_Some e d is in
    let it : is_register (10 + i) e.place ≡ true =
    ap (λ (x : Destination Location). is_register (10 + i) x.place) same ∙ (ap (is_register (10 + i)) place ∙ is_itself (10 + i)) in
    ap (λ t. if t then 10 + k else source_in i (k + 1) ds) (and_from (nat_lt k 8) (is_register (10 + i) e.place) low it) ∙ at_k
  where
    at_k : 10 + k ≡ 10 + (k + zero)
    at_k = omega arith
source_is i k (suc m) (e ∷ ds) d apart is place few =
    let here : 10 + (k + 1 + m) ≡ 10 + (k + suc m) = omega arith in
    by_test (nat_lt k 8) (is_register (10 + i) e.place) refl ∙ (source_is i (k + 1) m ds d (apart_more e ds apart) is place (omega (arith, few)) ∙ here)
  where
    first : e.place ≢ d.place
    first = apart zero (suc m) e d (λ g. absurd (let no : ⊥ = omega (arith, g) in no)) refl is

    by_test : (p q : Bool) → is_register (10 + i) e.place ≡ q → (if p && q then 10 + k else source_in i (k + 1) ds) ≡ source_in i (k + 1) ds
    by_test true true g = absurd (first (register_is (10 + i) e.place g ∙ sym place))
    by_test true false g = refl
    by_test false q g = refl
