-- Global names over texts: what defines them, which are exported, and what each means (QBE IL,
-- "Linkage"; names that no text defines are this project's choice).
use Rattle.std.specs.Prelude.{◌≡◌, ℕ, ◌+◌, Bool, nat_eq, ◌&&◌, if◌then◌else◌, List, [], ◌∷◌, ◌++◌, slice_get, slice_index_or, codes, count_by, Option, Some, None, flat_map, find, bytes_eq}
use Rattle.std.specs.Option.{option_map, option_and_then, option_or, is_some}
use Rattle.il_ast.specs.declared.function.Func.{Func}
use Rattle.il_ast.specs.declared.datum.DataDef.{DataDef}
use Rattle.il_ast.specs.declared.text.Definition.{Definition}
use Rattle.il_ast.specs.declared.text.Definition.TheVariants.{Function, Object as ObjectDefinition}
use Rattle.il_ast.specs.declared.program.InText.{InText}
use Rattle.il_ast.specs.declared.program.Target.{Target}
use Rattle.il_ast.specs.declared.program.Target.TheVariants.{Code, Object}
use Rattle.il_ast.specs.declared.value.Callee.TheVariants.{Defined, SystemWrite, SystemExit}
use Rattle.il_types.specs.declared.checked.Checked.{Checked}
use Rattle.obj_link.specs.declared.linking.names.GlobalName.{GlobalName}

-- ---- definitions, in order of texts, each with the number of its text

abbrev pub function_in : ℕ → Definition → List (InText Func)
function_in t (Function f) = record { text = t; item = f } ∷ []
function_in t (ObjectDefinition d) = []

abbrev pub object_in : ℕ → Definition → List (InText DataDef)
object_in t (Function f) = []
object_in t (ObjectDefinition d) = record { text = t; item = d } ∷ []

-- of texts that are numbered from t on
abbrev pub functions_from : ℕ → List Checked → List (InText Func)
functions_from t [] = []
functions_from t (x ∷ xs) = flat_map (function_in t) x.text.definitions ++ functions_from (t + 1) xs

abbrev pub objects_from : ℕ → List Checked → List (InText DataDef)
objects_from t [] = []
objects_from t (x ∷ xs) = flat_map (object_in t) x.text.definitions ++ objects_from (t + 1) xs

abbrev pub functions_of : List Checked → List (InText Func)
functions_of texts = functions_from 0 texts

abbrev pub objects_of : List Checked → List (InText DataDef)
objects_of texts = objects_from 0 texts

-- ---- the names that they define: a function gives its name the function with its number, from n
-- on, and a datum the datum

abbrev pub names_of_functions : ℕ → List (InText Func) → List GlobalName
names_of_functions n [] = []
names_of_functions n (f ∷ fs) =
    record {
      text = f.text;
      symbol = f.item.name;
      exported = f.item.exported;
      target = Code (Defined n);
    } ∷ names_of_functions (n + 1) fs

abbrev pub names_of_objects : ℕ → List (InText DataDef) → List GlobalName
names_of_objects n [] = []
names_of_objects n (d ∷ ds) =
    record { text = d.text; symbol = d.item.name; exported = d.item.exported; target = Object n }
    ∷ names_of_objects (n + 1) ds

abbrev pub names_of : List Checked → List GlobalName
names_of texts = names_of_functions 0 (functions_of texts) ++ names_of_objects 0 (objects_of texts)

-- ---- what a name means

-- text t itself defines its symbol s
abbrev pub is_own : ℕ → ℕ → GlobalName → Bool
is_own t s g = nat_eq g.text t && nat_eq g.symbol s

abbrev pub own : List GlobalName → ℕ → ℕ → Option Target
own names t s = option_map (λ (g : GlobalName). g.target) (find (is_own t s) names)

-- the bytes of symbol s of text t
abbrev pub symbol_in : Option Checked → ℕ → List ℕ
symbol_in None s = []
symbol_in (Some c) s = slice_index_or c.text.symbols s []

abbrev pub symbol_name : List Checked → ℕ → ℕ → List ℕ
symbol_name texts t s = symbol_in (slice_get texts t) s

-- the definition exports the name
abbrev pub is_export : List Checked → List ℕ → GlobalName → Bool
is_export texts name g = g.exported && bytes_eq (symbol_name texts g.text g.symbol) name

abbrev pub exported : List Checked → List GlobalName → List ℕ → Option Target
exported texts names name =
    option_map (λ (g : GlobalName). g.target) (find (is_export texts name) names)

abbrev pub predefined : List ℕ → Option Target
predefined name =
    if bytes_eq (codes "write") name then Some (Code SystemWrite)
    else (if bytes_eq (codes "exit") name then Some (Code SystemExit) else None)

-- what texts can see of one another: an export of any of them, or a predefined function
abbrev pub visible : List Checked → List GlobalName → List ℕ → Option Target
visible texts names name = option_or (exported texts names name) (predefined name)

-- symbol s of text t, which has that name, means the text's own definition, or else what texts can
-- see
abbrev pub meaning_of : List Checked → ℕ → ℕ → List ℕ → Option Target
meaning_of texts t s name =
    option_or (own (names_of texts) t s) (visible texts (names_of texts) name)

-- ---- all names of all texts, or none where one has no meaning

abbrev pub symbols_by : (ℕ → List ℕ → Option Target) → ℕ → List (List ℕ) → Option (List Target)
symbols_by meaning s [] = Some []
symbols_by meaning s (x ∷ xs) =
    option_and_then (λ t. option_map (λ ts. t ∷ ts) (symbols_by meaning (s + 1) xs)) (meaning s x)

abbrev pub targets_by : (ℕ → ℕ → List ℕ → Option Target) → ℕ → List Checked →
    Option (List (List Target))
targets_by meaning t [] = Some []
targets_by meaning t (x ∷ xs) =
    option_and_then (λ ts. option_map (λ rest. ts ∷ rest) (targets_by meaning (t + 1) xs))
    (symbols_by (meaning t) 0 x.text.symbols)

abbrev pub targets_of : List Checked → Option (List (List Target))
targets_of texts = targets_by (meaning_of texts) 0 texts

-- ---- names that are exported more than once

-- how often a name is exported: by definitions, or as a predefined function
abbrev pub times_exported : List Checked → List GlobalName → List ℕ → ℕ
times_exported texts names name =
    count_by (is_export texts name) names + (if is_some (predefined name) then 1 else 0)

-- ---- names without a meaning

-- the name of symbol s of text t
abbrev pub symbol_at : List Checked → ℕ → ℕ → Option (List ℕ)
symbol_at texts t s =
    option_and_then (λ (c : Checked). slice_get c.text.symbols s) (slice_get texts t)

-- a text mentions a name that has no meaning there
abbrev pub IsUnknown : (ℕ → ℕ → List ℕ → Option Target) → List Checked → List ℕ → Type 0
IsUnknown meaning texts name =
    (t : ℕ) × (s : ℕ) × (symbol_at texts t s ≡ Some name) × (meaning t s name ≡ None)
