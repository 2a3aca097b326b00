-- Load, store and copy, by the places that their pointers point to.
use Rattle.std.proofs.Common.{◌≡◌, ◌≢◌, ℕ, zero, suc, Bool, true, false, List, refl, ap, ◌∙◌, Some, None, MatchBool, option_and_then}
use Rattle.il_ast.specs.declared.value.Value.{Value}
use Rattle.il_ast.specs.declared.value.Value.TheVariants.{Integer, Pointer, Function}
use Rattle.il_ast.specs.declared.value.Cell.{Cell}
use Rattle.il_ast.specs.Prelude.{Memory, block_at, span, load, store, copy, cells_at, write_at, cells_for, value_of}
use Rattle.il_mem.specs.declared.memory.Place.{Place}
use Rattle.il_mem.specs.Changed.{place_in, copied_place, Gives}

pub load_at : (m : Memory) (n : ℕ) (at : Value) (p : Place) → place_in at ≡ Some p → load m n at ≡ option_and_then value_of (cells_at m p.block p.offset n)
unfolding load
load_at m n (Pointer b o) p h =
    let e : record { block = b; offset = o } ≡ p = cc in ap (λ (r : Place). option_and_then value_of (cells_at m r.block r.offset n)) e
load_at m n (Integer k) p h = cc
load_at m n (Function f) p h = cc

pub load_nowhere : (m : Memory) (n : ℕ) (at : Value) → place_in at ≡ None → load m n at ≡ None
unfolding load
load_nowhere m n (Pointer b o) h = cc
load_nowhere m n (Integer k) h = refl
load_nowhere m n (Function f) h = refl

-- a number where a pointer points to
pub load_here : (m : Memory) (n b o k : ℕ) (cells : List Cell) → block_at m b ≡ Some cells → option_and_then value_of (span o n cells) ≡ Some (Integer k) → load m n (Pointer b o) ≡ Some (Integer k)
unfolding load
load_here m n b o k cells e h = ap (λ c. option_and_then value_of (option_and_then (span o n) c)) e ∙ h

pub store_here : (m new : Memory) (n b o k : ℕ) (r : Bool) → Gives (option_and_then (write_at m b o) (cells_for n (Integer k))) m new r → MatchBool r (store m n (Pointer b o) (Integer k) ≡ Some new) (new ≡ m)
unfolding store
store_here m new n b o k true g = g.done refl
store_here m new n b o k false g = g.stays refl

pub store_at : (m : Memory) (n : ℕ) (at v : Value) (p : Place) → place_in at ≡ Some p → store m n at v ≡ option_and_then (write_at m p.block p.offset) (cells_for n v)
unfolding store
store_at m n (Pointer b o) v p h =
    let e : record { block = b; offset = o } ≡ p = cc in
    ap (λ (r : Place). option_and_then (write_at m r.block r.offset) (cells_for n v)) e
store_at m n (Integer k) v p h = cc
store_at m n (Function f) v p h = cc

pub store_nowhere : (m : Memory) (n : ℕ) (at v : Value) → place_in at ≡ None → store m n at v ≡ None
unfolding store
store_nowhere m n (Pointer b o) v h = cc
store_nowhere m n (Integer k) v h = refl
store_nowhere m n (Function f) v h = refl

pub copy_none : (m : Memory) (n : ℕ) (from to : Value) → n ≡ 0 → copy m n from to ≡ Some m
unfolding copy
copy_none m n from to e = ap (λ k. copy m k from to) e

copy_places : (m : Memory) (n : ℕ) (from to : Value) (p q : Place) → place_in from ≡ Some p → place_in to ≡ Some q → copy m (suc n) from to ≡ copied_place m (suc n) p.block p.offset q.block q.offset
unfolding copy
copy_places m n (Pointer a o) (Pointer b u) p q h k =
    let e : record { block = a; offset = o } ≡ p = cc in
    let d : record { block = b; offset = u } ≡ q = cc in
    ap (λ (r : Place). copied_place m (suc n) r.block r.offset b u) e
    ∙ ap (λ (r : Place). copied_place m (suc n) p.block p.offset r.block r.offset) d
copy_places m n (Pointer a o) (Integer i) p q h k = cc
copy_places m n (Pointer a o) (Function f) p q h k = cc
copy_places m n (Integer i) to p q h k = cc
copy_places m n (Function f) to p q h k = cc

pub copy_at : (m : Memory) (n : ℕ) (from to : Value) (p q : Place) → n ≢ 0 → place_in from ≡ Some p → place_in to ≡ Some q → copy m n from to ≡ copied_place m n p.block p.offset q.block q.offset
copy_at m zero from to p q ne h k = absurd (ne refl)
copy_at m (suc n) from to p q ne h k = copy_places m n from to p q h k

pub copy_from_nowhere : (m : Memory) (n : ℕ) (from to : Value) → n ≢ 0 → place_in from ≡ None → copy m n from to ≡ None
unfolding copy
copy_from_nowhere m zero from to ne h = absurd (ne refl)
copy_from_nowhere m (suc n) (Pointer a o) to ne h = cc
copy_from_nowhere m (suc n) (Integer i) (Pointer b u) ne h = refl
copy_from_nowhere m (suc n) (Integer i) (Integer j) ne h = refl
copy_from_nowhere m (suc n) (Integer i) (Function g) ne h = refl
copy_from_nowhere m (suc n) (Function f) (Pointer b u) ne h = refl
copy_from_nowhere m (suc n) (Function f) (Integer j) ne h = refl
copy_from_nowhere m (suc n) (Function f) (Function g) ne h = refl

pub copy_to_nowhere : (m : Memory) (n : ℕ) (from to : Value) → n ≢ 0 → place_in to ≡ None → copy m n from to ≡ None
unfolding copy
copy_to_nowhere m zero from to ne h = absurd (ne refl)
copy_to_nowhere m (suc n) from (Pointer b u) ne h = cc
copy_to_nowhere m (suc n) (Pointer a o) (Integer j) ne h = refl
copy_to_nowhere m (suc n) (Pointer a o) (Function g) ne h = refl
copy_to_nowhere m (suc n) (Integer i) (Integer j) ne h = refl
copy_to_nowhere m (suc n) (Integer i) (Function g) ne h = refl
copy_to_nowhere m (suc n) (Function f) (Integer j) ne h = refl
copy_to_nowhere m (suc n) (Function f) (Function g) ne h = refl
