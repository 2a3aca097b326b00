-- Addresses rise.
use Rattle.std.proofs.Common.{◌≡◌, ℕ, ◌+◌, ◌*◌, ◌<◌, ◌≤◌, List, [], ◌∷◌, ◌++◌, length, drop, map, get_or, ap, sym, ◌∙◌, append_assoc, arith, Bor}
use Rattle.std.proofs.lemmas.List.{drop_more}
use Rattle.il_ast.specs.declared.datum.DataDef.{DataDef}
use Rattle.il_ast.specs.declared.program.InText.{InText}
use Rattle.il_ast.specs.Prelude.{round_16}
use Rattle.rv_isa.specs.Prelude.{Words}
use Rattle.obj_link.specs.Prelude.{shown, object_size, function_addresses, functions_end, objects_end, object_addresses}

pub functions_rise : (at : ℕ) (codes : List Words) → at ≤ functions_end at codes
functions_rise at [] = omega arith
functions_rise at (c ∷ codes) = let rest = functions_rise (at + 4 * length c.words) codes in omega arith

pub objects_rise : (at : ℕ) (ds : List (InText DataDef)) → at ≤ objects_end at ds
objects_rise at [] = omega arith
objects_rise at (d ∷ ds) = let rest = objects_rise (at + round_16 (object_size d.item)) ds in omega arith

-- one object further
pub addresses_further : (at : ℕ) (xs : List (InText (Bor DataDef))) (i : ℕ) (d : InText (Bor DataDef)) → i < length xs
    → object_addresses at (map shown (drop i xs))
    ≡ at ∷ object_addresses (at + round_16 (object_size (get_or xs i d).item.now)) (map shown (drop (i + 1) xs))
addresses_further at xs i d lt = ap (λ ys. object_addresses at (map shown ys)) (drop_more xs i d lt)

pub end_further : (at : ℕ) (xs : List (InText (Bor DataDef))) (i : ℕ) (d : InText (Bor DataDef)) → i < length xs
    → objects_end at (map shown (drop i xs)) ≡ objects_end (at + round_16 (object_size (get_or xs i d).item.now)) (map shown (drop (i + 1) xs))
end_further at xs i d lt = ap (λ ys. objects_end at (map shown ys)) (drop_more xs i d lt)

-- the code at hand ends before the last one does
pub function_room : (at i end : ℕ) (codes : List Words) (c : Words) → i < length codes → c ≡ get_or codes i c
    → functions_end at (drop i codes) ≡ end → at + 4 * length c.words ≤ end
function_room at i end codes c lt is e =
    let more : functions_end at (drop i codes) ≡ functions_end (at + 4 * length (get_or codes i c).words) (drop (i + 1) codes) =
    ap (functions_end at) (drop_more codes i c lt) in
    let rise = functions_rise (at + 4 * length (get_or codes i c).words) (drop (i + 1) codes) in
    let same : length c.words ≡ length (get_or codes i c).words = ap (λ (x : Words). length x.words) is in
    omega arith

pub object_room : (at i end : ℕ) (xs : List (InText (Bor DataDef))) (d : InText (Bor DataDef)) → i < length xs → d ≡ get_or xs i d
    → objects_end at (map shown (drop i xs)) ≡ end → at + round_16 (object_size d.item.now) ≤ end
object_room at i end xs d lt is e =
    let more = end_further at xs i d lt in
    let size : ℕ = round_16 (object_size (get_or xs i d).item.now) in
    let rise = objects_rise (at + size) (map shown (drop (i + 1) xs)) in
    let same : round_16 (object_size d.item.now) ≡ size = ap (λ (x : InText (Bor DataDef)). round_16 (object_size x.item.now)) is in
    omega arith

-- the addresses before a function and its own, and those still to come, are all; and the last one ends where it did
pub functions_on : (at : ℕ) (xs : List Words) (i : ℕ) (x : Words) (ws found more all : List ℕ) (end : ℕ) → i < length xs → x ≡ get_or xs i x → ws ≡ x.words → more ≡ found ++ at ∷ []
    → (found ++ function_addresses at (drop i xs) ≡ all) × (functions_end at (drop i xs) ≡ end)
    → (more ++ function_addresses (at + 4 * length ws) (drop (i + 1) xs) ≡ all) × (functions_end (at + 4 * length ws) (drop (i + 1) xs) ≡ end)
functions_on at xs i x ws found more all end lt is are added whole =
    let next : drop i xs ≡ x ∷ drop (i + 1) xs = drop_more xs i x lt ∙ ap (λ y. y ∷ drop (i + 1) xs) (sym is) in
    let size : length x.words ≡ length ws = ap length (sym are) in
    let step : function_addresses at (drop i xs) ≡ at ∷ function_addresses (at + 4 * length ws) (drop (i + 1) xs) =
    ap (function_addresses at) next ∙ ap (λ n. at ∷ function_addresses (at + 4 * n) (drop (i + 1) xs)) size in
    let last : functions_end at (drop i xs) ≡ functions_end (at + 4 * length ws) (drop (i + 1) xs) =
    ap (functions_end at) next ∙ ap (λ n. functions_end (at + 4 * n) (drop (i + 1) xs)) size in (
      ap (λ ys. ys ++ function_addresses (at + 4 * length ws) (drop (i + 1) xs)) added
          ∙ (append_assoc found (at ∷ []) (function_addresses (at + 4 * length ws) (drop (i + 1) xs)) ∙ (ap (λ ys. found ++ ys) (sym step) ∙ whole.0)),
      sym last ∙ whole.1,
    )

-- the same of data
pub objects_on : (at : ℕ) (xs : List (InText (Bor DataDef))) (i : ℕ) (x : InText (Bor DataDef)) (size : ℕ) (found more all : List ℕ) (end : ℕ) → i < length xs → x ≡ get_or xs i x → size ≡ round_16 (object_size x.item.now) → more ≡ found ++ at ∷ []
    → (found ++ object_addresses at (map shown (drop i xs)) ≡ all) × (objects_end at (map shown (drop i xs)) ≡ end)
    → (more ++ object_addresses (at + size) (map shown (drop (i + 1) xs)) ≡ all) × (objects_end (at + size) (map shown (drop (i + 1) xs)) ≡ end)
objects_on at xs i x size found more all end lt is sized added whole =
    let rest : List (InText DataDef) = map shown (drop (i + 1) xs) in
    let next : map shown (drop i xs) ≡ shown x ∷ rest = ap (map shown) (drop_more xs i x lt) ∙ ap (λ (y : InText (Bor DataDef)). shown y ∷ rest) (sym is) in
    let step : object_addresses at (map shown (drop i xs)) ≡ at ∷ object_addresses (at + size) rest =
    ap (object_addresses at) next ∙ ap (λ n. at ∷ object_addresses (at + n) rest) (sym sized) in
    let last : objects_end at (map shown (drop i xs)) ≡ objects_end (at + size) rest = ap (objects_end at) next ∙ ap (λ n. objects_end (at + n) rest) (sym sized) in (
      ap (λ ys. ys ++ object_addresses (at + size) rest) added ∙ (append_assoc found (at ∷ []) (object_addresses (at + size) rest) ∙ (ap (λ ys. found ++ ys) (sym step) ∙ whole.0)),
      sym last ∙ whole.1,
    )
