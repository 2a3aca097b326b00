-- Writing cells one after another.
use Rattle.std.proofs.Common.{◌≡◌, ℕ, zero, suc, ◌+◌, ◌-◌, ◌/◌, ◌%◌, ◌<◌, List, ◌∷◌, map, drop, refl, ap, sym, ◌∙◌, arith, slice_get, slice_set, Some}
use Rattle.il_ast.specs.declared.value.Value.{Value}
use Rattle.il_ast.specs.declared.value.Cell.{Cell}
use Rattle.il_ast.specs.declared.value.Cell.TheVariants.{Plain, Part}
use Rattle.il_ast.specs.Prelude.{bytes_of, parts}
use Rattle.il_mem.specs.Written.{written}
use Rattle.il_ast.proofs.Listed.{drop_at}

-- one cell more of s is written
pub written_next : (to k : ℕ) (s cells new goal : List Cell) (x : Cell) → drop k s ≡ x ∷ drop (k + 1) s → new ≡ slice_set cells (to + k) x → written (to + k) (drop k s) cells ≡ goal → written (to + (k + 1)) (drop (k + 1) s) new ≡ goal
written_next to k s cells new goal x first set inv =
    let e : to + (k + 1) ≡ (to + k) + 1 = omega arith in
    ap (λ n. written n (drop (k + 1) s) new) e
    ∙ (ap (λ ys. written (to + k + 1) (drop (k + 1) s) ys) set
    ∙ (ap (λ ys. written (to + k) ys cells) (sym first) ∙ inv))

pub bytes_next : (count k n : ℕ) → k < count → bytes_of (count - k) n ≡ n % 256 ∷ bytes_of (count - (k + 1)) (n / 256)
bytes_next count k n lt = let e : count - k ≡ suc (count - (k + 1)) = omega arith in ap (λ j. bytes_of j n) e

pub written_byte : (to k count n : ℕ) (cells new goal : List Cell) → k < count → new ≡ slice_set cells (to + k) (Plain (n % 256)) → written (to + k) (map (λ (b : ℕ). Plain b) (bytes_of (count - k) n)) cells ≡ goal → written (to + (k + 1)) (map (λ (b : ℕ). Plain b) (bytes_of (count - (k + 1)) (n / 256))) new ≡ goal
written_byte to k count n cells new goal lt set inv =
    let e : to + (k + 1) ≡ (to + k) + 1 = omega arith in
    let rest : List Cell = map (λ (b : ℕ). Plain b) (bytes_of (count - (k + 1)) (n / 256)) in
    ap (λ j. written j rest new) e
    ∙ (ap (λ ys. written (to + k + 1) rest ys) set
    ∙ (ap (λ bs. written (to + k) (map (λ (b : ℕ). Plain b) bs) cells) (sym (bytes_next count k n lt)) ∙ inv))

get_parts : (v : Value) (k : ℕ) → k < 8 → slice_get (parts v) k ≡ Some (Part v k)
get_parts v zero lt = refl
get_parts v (suc zero) lt = refl
get_parts v (suc (suc zero)) lt = refl
get_parts v (suc (suc (suc zero))) lt = refl
get_parts v (suc (suc (suc (suc zero)))) lt = refl
get_parts v (suc (suc (suc (suc (suc zero))))) lt = refl
get_parts v (suc (suc (suc (suc (suc (suc zero)))))) lt = refl
get_parts v (suc (suc (suc (suc (suc (suc (suc zero))))))) lt = refl
get_parts v (suc (suc (suc (suc (suc (suc (suc (suc k)))))))) lt = absurd (omega arith)

pub parts_next : (v : Value) (k : ℕ) → k < 8 → drop k (parts v) ≡ Part v k ∷ drop (k + 1) (parts v)
parts_next v k lt = drop_at (parts v) k (Part v k) (get_parts v k lt)
