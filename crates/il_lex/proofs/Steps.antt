-- One turn of the loops that go along items.
use Rattle.std.proofs.Common.{◌≡◌, ℕ, suc, ◌+◌, ◌-◌, ◌<◌, List, [], ◌∷◌, drop, Some, None, ap, ◌∙◌, arith}
use Rattle.std.specs.Option.{option_map_or}
use Rattle.il_lex.specs.Scan.{item, items_len, items}

less_one : (n i : ℕ) → i < n → n - i ≡ suc (n - (i + 1))
less_one n i h = omega arith

pub items_len-more : (n i : ℕ) (bytes : List ℕ) (x : ℕ × ℕ) → i < n → item bytes ≡ Some x → items_len (n - i) bytes ≡ x.1 + items_len (n - (i + 1)) (drop x.1 bytes)
items_len-more n i bytes x h e =
    ap (λ k. items_len k bytes) (less_one n i h)
    ∙ ap (λ o. option_map_or (λ x. x.1 + items_len (n - (i + 1)) (drop x.1 bytes)) o 0) e

pub items_len-stop : (n i : ℕ) (bytes : List ℕ) → i < n → item bytes ≡ None → items_len (n - i) bytes ≡ 0
items_len-stop n i bytes h e =
    ap (λ k. items_len k bytes) (less_one n i h)
    ∙ ap (λ o. option_map_or (λ x. x.1 + items_len (n - (i + 1)) (drop x.1 bytes)) o 0) e

pub items-more : (n i : ℕ) (bytes : List ℕ) (x : ℕ × ℕ) → i < n → item bytes ≡ Some x → items (n - i) bytes ≡ x.0 ∷ items (n - (i + 1)) (drop x.1 bytes)
items-more n i bytes x h e =
    ap (λ k. items k bytes) (less_one n i h)
    ∙ ap (λ o. option_map_or (λ x. x.0 ∷ items (n - (i + 1)) (drop x.1 bytes)) o []) e

pub items-stop : (n i : ℕ) (bytes : List ℕ) → i < n → item bytes ≡ None → items (n - i) bytes ≡ []
items-stop n i bytes h e =
    ap (λ k. items k bytes) (less_one n i h)
    ∙ ap (λ o. option_map_or (λ x. x.0 ∷ items (n - (i + 1)) (drop x.1 bytes)) o []) e
