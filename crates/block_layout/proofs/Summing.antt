-- What blocks that an order names sum up to is at most what all do.
use Rattle.std.proofs.Common.{◌≡◌, ℕ, zero, suc, ◌+◌, ◌<◌, ◌≤◌, Bool, true, false, not, nat_eq, nat_lt, if◌then◌else◌, List, [], ◌∷◌, map, length, refl, sym, ◌∙◌, ap, arith}
use Rattle.std.specs.List.{list_all, sum_by}
use Rattle.std.proofs.lemmas.List.Sums.{sum_by-cons}
use Rattle.std.proofs.lemmas.Bool.{and_parts, ltb-true, or_parts, not-true}
use Rattle.vcode.specs.declared.code.Block.{Block}
use Rattle.block_layout.specs.Ordered.{Order, is_named, block_at, names_once}
use Rattle.il_ast.proofs.Truth.{equals_itself}

-- the sum of a number for each below n
abbrev total : (ℕ → ℕ) → ℕ → ℕ
total f zero = 0
total f (suc n) = f 0 + total (λ k. f (suc k)) n

total_less : (f g : ℕ → ℕ) → ((k : ℕ) → g k ≤ f k) → (n : ℕ) → total g n ≤ total f n
total_less f g less zero = omega arith
total_less f g less (suc n) =
    let here = less 0 in let rest = total_less (λ k. f (suc k)) (λ k. g (suc k)) (λ k. less (suc k)) n in omega arith

-- a number that is counted apart
total_apart : (f g : ℕ → ℕ) → ((k : ℕ) → g k ≤ f k) → (n j : ℕ) → g j ≡ 0 → j < n → f j + total g n ≤ total f n
total_apart f g less zero j none low = absurd (omega arith)
total_apart f g less (suc n) zero none low =
    let rest = total_less (λ k. f (suc k)) (λ k. g (suc k)) (λ k. less (suc k)) n in omega arith
total_apart f g less (suc n) (suc j) none low =
    let here = less 0 in
    let rest = total_apart (λ k. f (suc k)) (λ k. g (suc k)) (λ k. less (suc k)) n j none (omega arith) in
    omega arith

abbrev without : ℕ → (ℕ → ℕ) → ℕ → ℕ
without j f k = if nat_eq k j then 0 else f k

without_less : (j : ℕ) (f : ℕ → ℕ) (k : ℕ) → without j f k ≤ f k
without_less j f k = by (nat_eq k j)
  where
    by : (b : Bool) → (if b then 0 else f k) ≤ f k
    by true = omega arith
    by false = omega arith

sum_unnamed : (f : ℕ → ℕ) (j : ℕ) (order : Order) → is_named order j ≡ false → sum_by f order ≡ sum_by (without j f) order
sum_unnamed f j [] h = refl
sum_unnamed f j (k ∷ order) h =
    let s = or_parts (nat_eq k j) (is_named order j) h in
    sum_by-cons f k order ∙ ap (λ n. f k + n) (sum_unnamed f j order s.1)
    ∙ ap (λ (b : Bool). (if b then 0 else f k) + sum_by (without j f) order) (sym s.0) ∙ sym (sum_by-cons (without j f) k order)

sum_named : (n : ℕ) (order : Order) (f : ℕ → ℕ) → names_once order ≡ true → list_all (λ k. nat_lt k n) order ≡ true → sum_by f order ≤ total f n
sum_named n [] f once low = omega arith
sum_named n (j ∷ order) f once low =
    let s = and_parts (not (is_named order j)) (names_once order) once in
    let t = and_parts (nat_lt j n) (list_all (λ k. nat_lt k n) order) low in
    let first = sum_by-cons f j order in
    let unnamed = sum_unnamed f j order (not-true (is_named order j) s.0) in
    let rest = sum_named n order (without j f) s.1 t.1 in
    let apart = total_apart f (without j f) (without_less j f) n j (ap (λ (b : Bool). if b then 0 else f j) (equals_itself j)) (ltb-true j n t.0) in
    omega arith

total_blocks : (g : Block ℕ → ℕ) (blocks : List (Block ℕ)) → total (λ k. g (block_at blocks k)) (length blocks) ≡ sum_by g blocks
total_blocks g [] = refl
total_blocks g (b ∷ blocks) = ap (λ n. g b + n) (total_blocks g blocks) ∙ sym (sum_by-cons g b blocks)

sum_map : {X : Type 0} (g : X → ℕ) (h : ℕ → X) (order : Order) → sum_by g (map h order) ≡ sum_by (λ k. g (h k)) order
sum_map g h [] = refl
sum_map g h (k ∷ order) =
    sum_by-cons g (h k) (map h order) ∙ ap (λ n. g (h k) + n) (sum_map g h order) ∙ sym (sum_by-cons (λ k. g (h k)) k order)

pub sum_in_order : (g : Block ℕ → ℕ) (h : ℕ → Block ℕ) (blocks : List (Block ℕ)) (order : Order) → ((k : ℕ) → g (h k) ≡ g (block_at blocks k)) → names_once order ≡ true
    → list_all (λ k. nat_lt k (length blocks)) order ≡ true → sum_by g (map h order) ≤ sum_by g blocks
sum_in_order g h blocks order same once low =
    let picked : sum_by g (map h order) ≡ sum_by (λ k. g (h k)) order = sum_map g h order in
    let all = sum_named (length blocks) order (λ k. g (h k)) once low in
    let as_given = total_same (λ k. g (h k)) (λ k. g (block_at blocks k)) same (length blocks) in
    let whole = total_blocks g blocks in
    omega arith
  where
    total_same : (e f : ℕ → ℕ) → ((k : ℕ) → e k ≡ f k) → (n : ℕ) → total e n ≡ total f n
    total_same e f same zero = refl
    total_same e f same (suc n) = ap (λ m. m + total (λ k. e (suc k)) n) (same 0) ∙ ap (λ m. f 0 + m) (total_same (λ k. e (suc k)) (λ k. f (suc k)) (λ k. same (suc k)) n)
