-- What symbols mean, one further.
use Rattle.std.proofs.Common.{◌≡◌, ℕ, ◌+◌, ◌<◌, List, [], ◌∷◌, ◌++◌, length, drop, get_or, refl, ap, sym, ◌∙◌, append_assoc, Option, Some, None, slice_get, option_map, option_and_then}
use Rattle.std.proofs.lemmas.List.{drop_more, append-nil}
use Rattle.il_ast.specs.declared.program.Target.{Target}
use Rattle.il_types.specs.declared.checked.Checked.{Checked}
use Rattle.obj_link.specs.declared.linking.error.LinkError.{LinkError}
use Rattle.obj_link.specs.declared.linking.error.LinkError.TheVariants.{UnknownName, ExportedTwice, NoMain, Limit, Memory}
use Rattle.obj_link.specs.Prelude.{RefusesSymbols, RefusesNames, symbols_by, targets_by}
use Rattle.il_ast.proofs.Listed.{get_there}

-- what is found so far stands before what is still to be found
abbrev pub found_then : {A : Type 0} → List A → Option (List A) → Option (List A)
found_then found None = None
found_then found (Some rest) = Some (found ++ rest)

pub join : {A : Type 0} (found : List A) (x : A) (o : Option (List A)) → found_then found (option_map (λ rest. x ∷ rest) o) ≡ found_then (found ++ x ∷ []) o
join found x None = refl
join found x (Some rest) = ap Some (sym (append_assoc found (x ∷ []) rest))

pub found_whole : {A : Type 0} (found : List A) → found_then found (Some []) ≡ Some found
found_whole found = ap Some (append-nil found)

pub found_first : {A : Type 0} (o : Option (List A)) → o ≡ found_then [] o
found_first None = refl
found_first (Some rest) = refl

pub symbols_further : (meaning : ℕ → List ℕ → Option Target) (xs : List (List ℕ)) (i : ℕ) (x : List ℕ) (t : Target) (found : List Target) → i < length xs → x ≡ get_or xs i x → meaning i x ≡ Some t → found_then found (symbols_by meaning i (drop i xs)) ≡ found_then (found ++ t ∷ []) (symbols_by meaning (i + 1) (drop (i + 1) xs))
symbols_further meaning xs i x t found lt at m =
    ap (λ ys. found_then found (symbols_by meaning i ys)) (drop_more xs i x lt ∙ ap (λ y. y ∷ drop (i + 1) xs) (sym at))
    ∙ (ap (λ o. found_then found (option_and_then (λ y. option_map (λ ys. y ∷ ys) (symbols_by meaning (i + 1) (drop (i + 1) xs))) o)) m
    ∙ join found t (symbols_by meaning (i + 1) (drop (i + 1) xs)))

pub texts_further : (meaning : ℕ → ℕ → List ℕ → Option Target) (xs : List Checked) (i : ℕ) (x : Checked) (ts : List Target) (found : List (List Target)) → i < length xs → x ≡ get_or xs i x → symbols_by (meaning i) 0 x.text.symbols ≡ Some ts → found_then found (targets_by meaning i (drop i xs)) ≡ found_then (found ++ ts ∷ []) (targets_by meaning (i + 1) (drop (i + 1) xs))
texts_further meaning xs i x ts found lt at m =
    ap (λ ys. found_then found (targets_by meaning i ys)) (drop_more xs i x lt ∙ ap (λ y. y ∷ drop (i + 1) xs) (sym at))
    ∙ (ap (λ o. found_then found (option_and_then (λ y. option_map (λ ys. y ∷ ys) (targets_by meaning (i + 1) (drop (i + 1) xs))) o)) m
    ∙ join found ts (targets_by meaning (i + 1) (drop (i + 1) xs)))

refused_at : (e : LinkError) (meaning : ℕ → ℕ → List ℕ → Option Target) (xs : List Checked) (i : ℕ) (x : Checked) → slice_get xs i ≡ Some x → RefusesSymbols e (meaning i) x.text.symbols → RefusesNames e meaning xs
refused_at (UnknownName name) meaning xs i x at h =
    (i, h.0, ap (option_and_then (λ (c : Checked). slice_get c.text.symbols h.0)) at ∙ h.1, h.2)
refused_at (ExportedTwice name) meaning xs i x at h = h
refused_at NoMain meaning xs i x at h = h
refused_at Limit meaning xs i x at h = h
refused_at Memory meaning xs i x at h = h

pub refused_in : (e : LinkError) (meaning : ℕ → ℕ → List ℕ → Option Target) (xs : List Checked) (i : ℕ) (x : Checked) → i < length xs → x ≡ get_or xs i x → RefusesSymbols e (meaning i) x.text.symbols → RefusesNames e meaning xs
refused_in e meaning xs i x lt at h = refused_at e meaning xs i x (get_there xs i x lt at) h

-- a symbol that has no meaning
pub unknown_at : (meaning : ℕ → List ℕ → Option Target) (xs : List (List ℕ)) (i : ℕ) (x seen name : List ℕ) (found : Option Target) → i < length xs → x ≡ get_or xs i x → seen ≡ x → name ≡ x → found ≡ meaning i seen → found ≡ None
    → (s : ℕ) × (slice_get xs s ≡ Some name) × (meaning s name ≡ None)
unknown_at meaning xs i x seen name found lt at sees named means none =
    (i, get_there xs i x lt at ∙ ap Some (sym named), ap (meaning i) (named ∙ sym sees) ∙ (sym means ∙ none))
