-- Cells put into a block at once are those written one after another.
use Rattle.std.proofs.Common.{◌≡◌, ℕ, zero, suc, ◌+◌, ◌<◌, ◌≤◌, Bool, true, false, List, [], ◌∷◌, ◌++◌, map, length, take, drop, refl, ap, sym, ◌∙◌, arith, cond, ◌⊎◌, inl, inr, nat_eq, nat_le, ◌||◌, Option, Some, None, option_and_then, le-leb, eq-eqb}
use Rattle.std.proofs.lemmas.Bool.Decides.{nat_tests}
use Rattle.il_ast.specs.declared.value.Value.{Value}
use Rattle.il_ast.specs.declared.value.Value.TheVariants.{Integer, Pointer, Function}
use Rattle.il_ast.specs.declared.value.Cell.{Cell}
use Rattle.il_ast.specs.declared.value.Cell.TheVariants.{Plain}
use Rattle.il_ast.specs.Prelude.{bytes_of, parts, put, span}
use Rattle.il_mem.specs.Written.{written}
use Rattle.il_mem.specs.Changed.{integer_in, value_put, cells_put, within_put, ChangesBlock}
use Rattle.il_mem.proofs.Spans.{written_is, length_span}

pub le_false : (m n : ℕ) → n < m → nat_le m n ≡ false
le_false m n h = grind (arith, nat_tests)

pub inside_of : (m n : ℕ) (t : Bool) → t ≡ nat_le m n → t ≡ true → m ≤ n
inside_of m n t e h = let le : nat_le m n ≡ true = sym e ∙ h in grind (arith, nat_tests)

pub outside_of : (m n : ℕ) (t : Bool) → t ≡ nat_le m n → t ≡ false → n < m
outside_of m n t e h = let gt : nat_le m n ≡ false = sym e ∙ h in grind (arith, nat_tests)

pub put_inside : (o : ℕ) (new cells : List Cell) → o + length new ≤ length cells → put o new cells ≡ Some (written o new cells)
put_inside o new cells h =
    ap (λ b. cond b (Some (take o cells ++ (new ++ drop (o + length new) cells))) None) (le-leb (o + length new) (length cells) h)
    ∙ ap (λ xs. Some xs) (sym (written_is o new cells h))

pub put_outside : (o : ℕ) (new cells : List Cell) → length cells < o + length new → put o new cells ≡ None
put_outside o new cells h =
    ap (λ b. cond b (Some (take o cells ++ (new ++ drop (o + length new) cells))) None) (le_false (o + length new) (length cells) h)

pub length-bytes_of : (k n : ℕ) → length (map (λ (b : ℕ). Plain b) (bytes_of k n)) ≡ k
length-bytes_of zero n = refl
length-bytes_of (suc k) n = ap suc (length-bytes_of k _)

pub integer_inside : (o n k : ℕ) (v : Value) (cells : List Cell) → integer_in v ≡ Some k → o + n ≤ length cells → value_put o n v cells ≡ Some (written o (map (λ (b : ℕ). Plain b) (bytes_of n k)) cells)
integer_inside o n k (Integer j) cells e h =
    let same : j ≡ k = cc in
    let long : length (map (λ (b : ℕ). Plain b) (bytes_of n k)) ≡ n = length-bytes_of n k in
    ap (λ (i : ℕ). put o (map (λ (b : ℕ). Plain b) (bytes_of n i)) cells) same
    ∙ put_inside o (map (λ (b : ℕ). Plain b) (bytes_of n k)) cells (omega arith)
integer_inside o n k (Pointer b p) cells e h = cc
integer_inside o n k (Function f) cells e h = cc

pub integer_is : (v : Value) (k : ℕ) → integer_in v ≡ Some k → v ≡ Integer k
integer_is (Integer j) k e = let same : j ≡ k = cc in ap (λ (i : ℕ). Integer i) same
integer_is (Pointer b p) k e = cc
integer_is (Function f) k e = cc

eight : (n : ℕ) → n ≡ 8 → nat_eq n 8 ≡ true
eight n e = ap (λ m. nat_eq m 8) e

not_eight : (n : ℕ) → (n ≡ 8 → ⊥) → nat_eq n 8 ≡ false
not_eight n h = grind (arith, nat_tests)

pub parts_inside : (o n : ℕ) (v : Value) (cells : List Cell) → integer_in v ≡ None → n ≡ 8 → o + n ≤ length cells → value_put o n v cells ≡ Some (written o (parts v) cells)
parts_inside o n (Integer j) cells e is_8 h = cc
parts_inside o n (Pointer b p) cells e is_8 h =
    ap (λ t. option_and_then (λ new. put o new cells) (cond t (Some (parts (Pointer b p))) None)) (eight n is_8)
    ∙ put_inside o (parts (Pointer b p)) cells (omega arith)
parts_inside o n (Function f) cells e is_8 h =
    ap (λ t. option_and_then (λ new. put o new cells) (cond t (Some (parts (Function f))) None)) (eight n is_8)
    ∙ put_inside o (parts (Function f)) cells (omega arith)

pub no_cells : (o n : ℕ) (v : Value) (cells : List Cell) → integer_in v ≡ None → (n ≡ 8 → ⊥) → value_put o n v cells ≡ None
no_cells o n (Integer j) cells e h = cc
no_cells o n (Pointer b p) cells e h =
    ap (λ t. option_and_then (λ new. put o new cells) (cond t (Some (parts (Pointer b p))) None)) (not_eight n h)
no_cells o n (Function f) cells e h =
    ap (λ t. option_and_then (λ new. put o new cells) (cond t (Some (parts (Function f))) None)) (not_eight n h)

parts_outside : (o n : ℕ) (ps cells : List Cell) → length ps ≡ 8 → length cells < o + n → (t : Bool) → nat_eq n 8 ≡ t → option_and_then (λ new. put o new cells) (cond t (Some ps) None) ≡ None
parts_outside o n ps cells long h true e = let is_8 : n ≡ 8 = grind (arith, nat_tests) in put_outside o ps cells (omega arith)
parts_outside o n ps cells long h false e = refl

pub value_outside : (o n : ℕ) (v : Value) (cells : List Cell) → length cells < o + n → value_put o n v cells ≡ None
value_outside o n (Integer k) cells h =
    let long : length (map (λ (b : ℕ). Plain b) (bytes_of n k)) ≡ n = length-bytes_of n k in
    put_outside o (map (λ (b : ℕ). Plain b) (bytes_of n k)) cells (omega arith)
value_outside o n (Pointer b p) cells h = parts_outside o n (parts (Pointer b p)) cells refl h (nat_eq n 8) refl
value_outside o n (Function f) cells h = parts_outside o n (parts (Function f)) cells refl h (nat_eq n 8) refl

-- ---- copies

pub span_inside : (o n : ℕ) (cells : List Cell) → o + n ≤ length cells → span o n cells ≡ Some (take n (drop o cells))
span_inside o n cells h = ap (λ b. cond b (Some (take n (drop o cells))) None) (le-leb (o + n) (length cells) h)

span_outside : (o n : ℕ) (cells : List Cell) → length cells < o + n → span o n cells ≡ None
span_outside o n cells h = ap (λ b. cond b (Some (take n (drop o cells))) None) (le_false (o + n) (length cells) h)

pub pasted : (q o n : ℕ) (source cells : List Cell) → o + n ≤ length source → q + n ≤ length cells → cells_put q (span o n source) cells ≡ Some (written q (take n (drop o source)) cells)
pasted q o n source cells h k =
    let long : length (take n (drop o source)) ≡ n = length_span source o n h in
    ap (λ s. cells_put q s cells) (span_inside o n source h) ∙ put_inside q (take n (drop o source)) cells (omega arith)

pub not_read : (q o n : ℕ) (source cells : List Cell) → length source < o + n → cells_put q (span o n source) cells ≡ None
not_read q o n source cells h = ap (λ s. cells_put q s cells) (span_outside o n source h)

pub not_written : (q o n : ℕ) (source cells : List Cell) → o + n ≤ length source → length cells < q + n → cells_put q (span o n source) cells ≡ None
not_written q o n source cells h k =
    let long : length (take n (drop o source)) ≡ n = length_span source o n h in
    ap (λ s. cells_put q s cells) (span_inside o n source h) ∙ put_outside q (take n (drop o source)) cells (omega arith)

cond_none : (b : Bool) (o : Option (List Cell)) → o ≡ None → cond b o None ≡ None
cond_none true o h = h
cond_none false o h = refl

pub within_not_read : (q o n : ℕ) (cells : List Cell) → length cells < o + n → within_put q o n cells ≡ None
within_not_read q o n cells h = cond_none _ _ (not_read q o n cells cells h)

pub within_not_written : (q o n : ℕ) (cells : List Cell) → o + n ≤ length cells → length cells < q + n → within_put q o n cells ≡ None
within_not_written q o n cells h k = cond_none _ _ (not_written q o n cells cells h k)

same_false : (o q : ℕ) → (o ≡ q → ⊥) → nat_eq o q ≡ false
same_false o q h = grind (arith, nat_tests)

-- the cells of a span written where they stand
rejoined : (n : ℕ) (cells : List Cell) → n ≤ length cells → take n cells ++ drop n cells ≡ cells
rejoined zero cells h = refl
rejoined (suc n) [] h = refl
rejoined (suc n) (c ∷ cells) h = ap (λ xs. c ∷ xs) (rejoined n cells (omega arith))

written_same : (o n : ℕ) (cells : List Cell) → o + n ≤ length cells → take o cells ++ (take n (drop o cells) ++ drop (o + n) cells) ≡ cells
written_same zero n cells h =
    let e : 0 + n ≡ n = omega arith in rw e (rejoined n cells (omega arith))
written_same (suc o) n [] h = absurd (omega arith)
written_same (suc o) n (c ∷ cells) h =
    let e : suc o + n ≡ suc (o + n) = omega arith in rw e (ap (λ xs. c ∷ xs) (written_same o n cells (omega arith)))

pub within_same : (q o n : ℕ) (cells : List Cell) → o ≡ q → o + n ≤ length cells → within_put q o n cells ≡ Some cells
within_same q o n cells e h =
    let long : length (take n (drop o cells)) ≡ n = length_span cells o n h in
    ap (λ b. cond (b || (nat_le (o + n) q || nat_le (q + n) o)) (cells_put q (span o n cells) cells) None) (eq-eqb o q e)
    ∙ (ap (λ j. cells_put j (span o n cells) cells) (sym e)
    ∙ (pasted o o n cells cells h h
    ∙ ap (λ xs. Some xs)
    (written_is o (take n (drop o cells)) cells (omega arith)
    ∙ (ap (λ j. take o cells ++ (take n (drop o cells) ++ drop (o + j) cells)) long ∙ written_same o n cells h))))

pub within_apart : (q o n : ℕ) (cells : List Cell) (t : Bool) → (o ≡ q → ⊥) → t ≡ nat_le (o + n) q || nat_le (q + n) o → t ≡ true → o + n ≤ length cells → q + n ≤ length cells → within_put q o n cells ≡ Some (written q (take n (drop o cells)) cells)
within_apart q o n cells t ne e hit h k =
    ap (λ b. cond (b || (nat_le (o + n) q || nat_le (q + n) o)) (cells_put q (span o n cells) cells) None) (same_false o q ne)
    ∙ (ap (λ b. cond b (cells_put q (span o n cells) cells) None) (sym e ∙ hit) ∙ pasted q o n cells cells h k)

pub within_neither : (q o n : ℕ) (cells : List Cell) (t : Bool) → (o ≡ q → ⊥) → t ≡ nat_le (o + n) q || nat_le (q + n) o → t ≡ false → within_put q o n cells ≡ None
within_neither q o n cells t ne e miss =
    ap (λ b. cond (b || (nat_le (o + n) q || nat_le (q + n) o)) (cells_put q (span o n cells) cells) None) (same_false o q ne)
    ∙ ap (λ b. cond b (cells_put q (span o n cells) cells) None) (sym e ∙ miss)

pub apart_facts : (q o n : ℕ) (t : Bool) → t ≡ nat_le (o + n) q || nat_le (q + n) o → t ≡ true → (o + n ≤ q) ⊎ (q + n ≤ o)
apart_facts q o n t e hit = either (nat_le (o + n) q) (nat_le (q + n) o) refl refl (sym e ∙ hit)
  where
    either : (a b : Bool) → nat_le (o + n) q ≡ a → nat_le (q + n) o ≡ b → a || b ≡ true → (o + n ≤ q) ⊎ (q + n ≤ o)
    either true b ea eb h = inl (grind (arith, nat_tests))
    either false true ea eb h = inr (grind (arith, nat_tests))
    either false false ea eb h = cc

-- ---- the two answers

pub changes : (f : List Cell → Option (List Cell)) (old new : List Cell) → f old ≡ Some new → ChangesBlock f old new true
changes f old new e = record { done = λ _. e; nothing = λ h. absurd (true_false h); stays = λ h. absurd (true_false h) }
  where
    true_false : true ≡ false → ⊥
    true_false h = cc

pub changes_nothing : (f : List Cell → Option (List Cell)) (old : List Cell) → f old ≡ None → ChangesBlock f old old false
changes_nothing f old e = record { done = λ h. absurd (false_true h); nothing = λ _. e; stays = λ _. refl }
  where
    false_true : false ≡ true → ⊥
    false_true h = cc
