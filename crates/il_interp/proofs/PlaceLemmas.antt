-- Tables of places for functions, one further.
use Rattle.std.proofs.Common.{◌≡◌, ℕ, zero, suc, ◌+◌, ◌<◌, Bool, true, false, cond, nat_eq, List, [], ◌∷◌, ◌++◌, length, map, take, get_or, refl, ap, sym, ◌∙◌, arith, slice_get, Option, Some, option_and_then, Bor}
use Rattle.std.proofs.lemmas.List.{take_more, length-take-le, length-map, map-append}
use Rattle.il_ast.specs.declared.function.Func.{Func}
use Rattle.il_ast.specs.declared.program.InText.{InText}
use Rattle.il_ast.specs.Prelude.{place_of}
use Rattle.il_types.specs.Prelude.{place_in}
use Rattle.obj_link.specs.Prelude.{shown}
use Rattle.il_interp.specs.Places.{placed, places_of}
use Rattle.il_ast.proofs.Truth.{eq_zero_suc, eq_suc_zero, eq_suc_suc}

get_push : {A : Type 0} (xs : List A) (x : A) (k : ℕ) → slice_get (xs ++ x ∷ []) k ≡ cond (nat_eq k (length xs)) (Some x) (slice_get xs k)
get_push [] x zero = refl
get_push {A} [] x (suc k) = ap (λ b. cond b (Some x) (slice_get (let none : List A = [] in none) (suc k))) (sym (eq_suc_zero k))
get_push (y ∷ xs) x zero = ap (λ b. cond b (Some x) (Some y)) (sym (eq_zero_suc (length xs)))
get_push (y ∷ xs) x (suc k) = get_push xs x k ∙ ap (λ b. cond b (Some x) (slice_get xs k)) (sym (eq_suc_suc k (length xs)))

placed_push : (tables : List (List (Option ℕ))) (t : List (Option ℕ)) (k j : ℕ) → placed (tables ++ t ∷ []) k j ≡ cond (nat_eq k (length tables)) (place_in t j) (placed tables k j)
placed_push tables t k j = ap (option_and_then (λ table. place_in table j)) (get_push tables t k) ∙ by (nat_eq k (length tables))
  where
    by : (b : Bool) → option_and_then (λ table. place_in table j) (cond b (Some t) (slice_get tables k)) ≡ cond b (place_in t j) (placed tables k j)
    by true = refl
    by false = refl

places_push : (fs : List (InText Func)) (f : InText Func) (k j : ℕ) → places_of (fs ++ f ∷ []) k j ≡ cond (nat_eq k (length fs)) (place_of f.item.blocks j) (places_of fs k j)
places_push fs f k j = ap (option_and_then (λ (x : InText Func). place_of x.item.blocks j)) (get_push fs f k) ∙ by (nat_eq k (length fs))
  where
    by : (b : Bool) → option_and_then (λ (x : InText Func). place_of x.item.blocks j) (cond b (Some f) (slice_get fs k)) ≡ cond b (place_of f.item.blocks j) (places_of fs k j)
    by true = refl
    by false = refl

pub tables_further : (fs : List (InText (Bor Func))) (i : ℕ) (f : InText (Bor Func)) (tables new : List (List (Option ℕ))) (t : List (Option ℕ)) → i < length fs → f ≡ get_or fs i f → length tables ≡ i → new ≡ tables ++ t ∷ [] → ((l : ℕ) → place_in t l ≡ place_of f.item.now.blocks l) → ((k j : ℕ) → placed tables k j ≡ places_of (map shown (take i fs)) k j) → (k j : ℕ) → placed new k j ≡ places_of (map shown (take (i + 1) fs)) k j
tables_further fs i f tables new t lt at long n h inv k j =
    let front : length (map shown (take i fs)) ≡ i = length-map (take i fs) shown ∙ length-take-le i fs (omega arith) in
    let next : map shown (take (i + 1) fs) ≡ map shown (take i fs) ++ shown f ∷ [] =
    ap (map shown) (take_more fs i f lt ∙ ap (λ x. take i fs ++ x ∷ []) (sym at)) ∙ map-append shown (take i fs) (f ∷ []) in
    ap (λ ts. placed ts k j) n
    ∙ (placed_push tables t k j
    ∙ (ap (λ m. cond (nat_eq k m) (place_in t j) (placed tables k j)) long
    ∙ (ap (λ o. cond (nat_eq k i) o (placed tables k j)) (h j)
    ∙ (ap (cond (nat_eq k i) (place_of f.item.now.blocks j)) (inv k j)
    ∙ sym (ap (λ xs. places_of xs k j) next
    ∙ (places_push (map shown (take i fs)) (shown f) k j
    ∙ ap (λ m. cond (nat_eq k m) (place_of f.item.now.blocks j) (places_of (map shown (take i fs)) k j)) front))))))
