-- Slots as the values that they hold.
use Rattle.std.proofs.Common.{◌≡◌, ℕ, zero, suc, ◌≤◌, List, [], ◌∷◌, length, map, refl, ap, arith, slice_set, replicate, Option, None}
use Rattle.il_ast.specs.declared.value.Value.{Value}
use Rattle.il_interp.specs.declared.slots.Slot.{Slot}
use Rattle.il_interp.specs.declared.slots.Slot.TheVariants.{Unassigned}
use Rattle.il_interp.specs.Slots.{value_in}

pub unassigned : (n : ℕ) → map value_in (replicate n Unassigned) ≡ replicate n None
unassigned zero = refl
unassigned (suc n) = ap (λ xs. None ∷ xs) (unassigned n)

pub put : (xs : List Slot) (i : ℕ) (x : Slot) → map value_in (slice_set xs i x) ≡ slice_set (map value_in xs) i (value_in x)
put [] i x = refl
put (y ∷ xs) zero x = refl
put (y ∷ xs) (suc i) x = ap (λ ys. value_in y ∷ ys) (put xs i x)

pub behind : (xs : List Slot) (i : ℕ) (v : Option Value) → length xs ≤ i → slice_set (map value_in xs) i v ≡ map value_in xs
behind [] i v le = refl
behind (y ∷ xs) zero v le = absurd (omega arith)
behind (y ∷ xs) (suc i) v le = ap (λ ys. value_in y ∷ ys) (behind xs i v (omega arith))
