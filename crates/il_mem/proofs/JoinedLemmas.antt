-- How reading and writing marks and values reads and writes the cells.
use Rattle.std.proofs.Common.{◌≡◌, ℕ, zero, suc, ◌<◌, List, [], ◌∷◌, ◌++◌, length, get_or, refl, ap, sym, ◌∙◌, arith, slice_get, slice_set, replicate, Some}
use Rattle.il_ast.specs.declared.value.Value.{Value}
use Rattle.il_ast.specs.declared.value.Value.TheVariants.{Integer}
use Rattle.il_ast.specs.declared.value.Cell.{Cell}
use Rattle.il_ast.specs.declared.value.Cell.TheVariants.{Part as PartCell, Blank as BlankCell}
use Rattle.il_mem.specs.declared.block.Mark.{Mark}
use Rattle.il_mem.specs.declared.block.Mark.TheVariants.{Part, Blank}
use Rattle.il_mem.specs.Joined.{cell_of, joined, ShowsSame}

pub length-joined : (marks : List Mark) (values : List Value) → length (joined marks values) ≡ length marks
length-joined [] values = refl
length-joined (m ∷ marks) [] = ap suc (length-joined marks [])
length-joined (m ∷ marks) (v ∷ values) = ap suc (length-joined marks values)

pub joined-blank : (n : ℕ) (values : List Value) → joined (replicate n Blank) values ≡ replicate n BlankCell
joined-blank zero values = refl
joined-blank (suc n) [] = ap (λ cells. BlankCell ∷ cells) (joined-blank n [])
joined-blank (suc n) (v ∷ values) = ap (λ cells. BlankCell ∷ cells) (joined-blank n values)

pub get-joined : (marks : List Mark) (values : List Value) (at : ℕ) (d m : Mark) (v : Value) → at < length marks → get_or marks at d ≡ m → v ≡ get_or values at (Integer 0) → slice_get (joined marks values) at ≡ Some (cell_of m v)
get-joined [] values at d m v lt h k = absurd (omega arith)
get-joined (n ∷ marks) [] zero d m v lt h k = ap (λ x. Some (cell_of x (Integer 0))) h ∙ ap (λ w. Some (cell_of m w)) (sym k)
get-joined (n ∷ marks) (w ∷ values) zero d m v lt h k = ap (λ x. Some (cell_of x w)) h ∙ ap (λ u. Some (cell_of m u)) (sym k)
get-joined (n ∷ marks) [] (suc at) d m v lt h k = get-joined marks [] at d m v (omega arith) h k
get-joined (n ∷ marks) (w ∷ values) (suc at) d m v lt h k = get-joined marks values at d m v (omega arith) h k

-- a mark with no value
pub joined-set_mark : (marks : List Mark) (values : List Value) (at : ℕ) (m : Mark) (c : Cell) → ((v : Value) → cell_of m v ≡ c) → joined (slice_set marks at m) values ≡ slice_set (joined marks values) at c
joined-set_mark [] values at m c h = refl
joined-set_mark (n ∷ marks) [] zero m c h = ap (λ x. x ∷ joined marks []) (h (Integer 0))
joined-set_mark (n ∷ marks) (v ∷ values) zero m c h = ap (λ x. x ∷ joined marks values) (h v)
joined-set_mark (n ∷ marks) [] (suc at) m c h = ap (λ cells. cell_of n (Integer 0) ∷ cells) (joined-set_mark marks [] at m c h)
joined-set_mark (n ∷ marks) (v ∷ values) (suc at) m c h = ap (λ cells. cell_of n v ∷ cells) (joined-set_mark marks values at m c h)

-- a part, and the value beside it
pub joined-set_part : (marks : List Mark) (values : List Value) (at i : ℕ) (v : Value) → at < length values → joined (slice_set marks at (Part i)) (slice_set values at v) ≡ slice_set (joined marks values) at (PartCell v i)
joined-set_part [] values at i v lt = refl
joined-set_part (n ∷ marks) [] at i v lt = absurd (omega arith)
joined-set_part (n ∷ marks) (w ∷ values) zero i v lt = refl
joined-set_part (n ∷ marks) (w ∷ values) (suc at) i v lt =
    ap (λ cells. cell_of n w ∷ cells) (joined-set_part marks values at i v (omega arith))

-- one more value that nothing shows
pub ShowsSame-push : (values : List Value) → ShowsSame values (values ++ Integer 0 ∷ [])
ShowsSame-push values [] = refl
ShowsSame-push [] (m ∷ marks) = refl
ShowsSame-push (v ∷ values) (m ∷ marks) = ap (λ cells. cell_of m v ∷ cells) (ShowsSame-push values marks)

-- ---- writing

pub shown_mark : (marks : List Mark) (values : List Value) (cells : List Cell) (at : ℕ) (m : Mark) (c d : Cell) → joined marks values ≡ cells → d ≡ c → ((v : Value) → cell_of m v ≡ c) → joined (slice_set marks at m) values ≡ slice_set cells at d
shown_mark marks values cells at m c d e same h =
    joined-set_mark marks values at m c h ∙ (ap (λ xs. slice_set xs at c) e ∙ ap (λ x. slice_set cells at x) (sym same))

pub shown_part : (marks : List Mark) (old new : List Value) (cells : List Cell) (at i : ℕ) (v : Value) (d : Cell) → joined marks old ≡ cells → d ≡ PartCell v i → ShowsSame old new → at < length new → joined (slice_set marks at (Part i)) (slice_set new at v) ≡ slice_set cells at d
shown_part marks old new cells at i v d e same h lt =
    joined-set_part marks new at i v lt
    ∙ (ap (λ xs. slice_set xs at (PartCell v i)) (h marks ∙ e) ∙ ap (λ x. slice_set cells at x) (sym same))

-- ---- one more cell

joined-push_blank : (marks : List Mark) (values : List Value) → joined (marks ++ Blank ∷ []) values ≡ joined marks values ++ BlankCell ∷ []
joined-push_blank [] [] = refl
joined-push_blank [] (v ∷ values) = refl
joined-push_blank (m ∷ marks) [] = ap (λ cells. cell_of m (Integer 0) ∷ cells) (joined-push_blank marks [])
joined-push_blank (m ∷ marks) (v ∷ values) = ap (λ cells. cell_of m v ∷ cells) (joined-push_blank marks values)

pub pushed_blank : (marks new : List Mark) (values kept : List Value) (cells : List Cell) → new ≡ marks ++ Blank ∷ [] → kept ≡ values → joined marks values ≡ cells → joined new kept ≡ cells ++ BlankCell ∷ []
pushed_blank marks new values kept cells n k e =
    ap (λ xs. joined xs kept) n ∙ (ap (joined (marks ++ Blank ∷ [])) k ∙ (joined-push_blank marks values ∙ ap (λ xs. xs ++ BlankCell ∷ []) e))

pub set_last : {A : Type 0} (xs : List A) (x y : A) → slice_set (xs ++ x ∷ []) (length xs) y ≡ xs ++ y ∷ []
set_last [] x y = refl
set_last (z ∷ xs) x y = ap (λ ys. z ∷ ys) (set_last xs x y)
