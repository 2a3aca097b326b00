-- Definitions and their names, one further.
use Rattle.std.proofs.Common.{◌≡◌, ℕ, ◌+◌, ◌<◌, List, ◌∷◌, ◌++◌, length, drop, map, get_or, ap, sym, ◌∙◌, append_assoc, flat_map, Bor}
use Rattle.std.proofs.lemmas.List.{drop_more}
use Rattle.il_ast.specs.declared.function.Func.{Func}
use Rattle.il_ast.specs.declared.datum.DataDef.{DataDef}
use Rattle.il_ast.specs.declared.text.Definition.{Definition}
use Rattle.il_ast.specs.declared.program.InText.{InText}
use Rattle.il_ast.specs.declared.program.Target.TheVariants.{Code, Object}
use Rattle.il_ast.specs.declared.value.Callee.TheVariants.{Defined}
use Rattle.il_types.specs.declared.checked.Checked.{Checked}
use Rattle.obj_link.specs.Prelude.{shown, function_in, object_in, functions_from, objects_from, names_of_functions, names_of_objects}

pub functions_further : (xs : List Checked) (i : ℕ) (d : Checked) → i < length xs → functions_from i (drop i xs) ≡ flat_map (function_in i) (get_or xs i d).text.definitions ++ functions_from (i + 1) (drop (i + 1) xs)
functions_further xs i d lt = ap (functions_from i) (drop_more xs i d lt)

pub objects_further : (xs : List Checked) (i : ℕ) (d : Checked) → i < length xs → objects_from i (drop i xs) ≡ flat_map (object_in i) (get_or xs i d).text.definitions ++ objects_from (i + 1) (drop (i + 1) xs)
objects_further xs i d lt = ap (objects_from i) (drop_more xs i d lt)

pub function_names_further : (xs : List (InText (Bor Func))) (i : ℕ) (d : InText (Bor Func)) → i < length xs → names_of_functions i (map shown (drop i xs)) ≡ record { text = (get_or xs i d).text; symbol = (get_or xs i d).item.now.name; exported = (get_or xs i d).item.now.exported; target = Code (Defined i) } ∷ names_of_functions (i + 1) (map shown (drop (i + 1) xs))
function_names_further xs i d lt = ap (λ ys. names_of_functions i (map shown ys)) (drop_more xs i d lt)

pub object_names_further : (xs : List (InText (Bor DataDef))) (i : ℕ) (d : InText (Bor DataDef)) → i < length xs → names_of_objects i (map shown (drop i xs)) ≡ record { text = (get_or xs i d).text; symbol = (get_or xs i d).item.now.name; exported = (get_or xs i d).item.now.exported; target = Object i } ∷ names_of_objects (i + 1) (map shown (drop (i + 1) xs))
object_names_further xs i d lt = ap (λ ys. names_of_objects i (map shown ys)) (drop_more xs i d lt)

-- what is found before a text and in it, and what is still to be found, are all
pub functions_on : (xs : List Checked) (i : ℕ) (x : Checked) (ds : List Definition) (found more all : List (InText Func)) → i < length xs → x ≡ get_or xs i x → ds ≡ x.text.definitions → more ≡ found ++ flat_map (function_in i) ds
    → found ++ functions_from i (drop i xs) ≡ all → more ++ functions_from (i + 1) (drop (i + 1) xs) ≡ all
functions_on xs i x ds found more all lt at are added whole =
    let rest : List (InText Func) = functions_from (i + 1) (drop (i + 1) xs) in
    let step : functions_from i (drop i xs) ≡ flat_map (function_in i) ds ++ rest =
    functions_further xs i x lt ∙ ap (λ ys. flat_map (function_in i) ys ++ rest) (ap (λ (y : Checked). y.text.definitions) (sym at) ∙ sym are) in
    ap (λ ys. ys ++ rest) added ∙ (append_assoc found (flat_map (function_in i) ds) rest ∙ (ap (λ ys. found ++ ys) (sym step) ∙ whole))

-- what is found before a text and in it, and what is still to be found, are all
pub objects_on : (xs : List Checked) (i : ℕ) (x : Checked) (ds : List Definition) (found more all : List (InText DataDef)) → i < length xs → x ≡ get_or xs i x → ds ≡ x.text.definitions → more ≡ found ++ flat_map (object_in i) ds
    → found ++ objects_from i (drop i xs) ≡ all → more ++ objects_from (i + 1) (drop (i + 1) xs) ≡ all
objects_on xs i x ds found more all lt at are added whole =
    let rest : List (InText DataDef) = objects_from (i + 1) (drop (i + 1) xs) in
    let step : objects_from i (drop i xs) ≡ flat_map (object_in i) ds ++ rest =
    objects_further xs i x lt ∙ ap (λ ys. flat_map (object_in i) ys ++ rest) (ap (λ (y : Checked). y.text.definitions) (sym at) ∙ sym are) in
    ap (λ ys. ys ++ rest) added ∙ (append_assoc found (flat_map (object_in i) ds) rest ∙ (ap (λ ys. found ++ ys) (sym step) ∙ whole))
