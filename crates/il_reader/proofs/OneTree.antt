-- A text has at most one tree: what a tree has beside its parts is proved of them, and there is one proof at most.
use Rattle.std.proofs.Common.{◌≡◌, ℕ, List, [], ◌∷◌, length, Some, IsTrue, refl, sym, ap, ◌∙◌, map}
use Rattle.std.proofs.lemmas.Option.{same_Some}
use Rattle.std.proofs.Props.{props}
use mathlib.Core.HLevel.{Σ_prop_path}
use Rattle.il_ast.specs.Prelude.{has_block, have_arguments, come_after, temps_of, labels_of, are_distinct, symbols_of}
use Rattle.il_ast.specs.declared.function.Func.{Func}
use Rattle.il_ast.specs.declared.text.Definition.{Definition}
use Rattle.il_ast.specs.declared.text.Definition.TheVariants.{Function, Object}
use Rattle.il_ast.specs.declared.text.Text.{Text}
use Rattle.il_reader.specs.Prelude.{FunctionParts, function_parts, definition_parts, TextParts, text_parts, OneTree}
use Rattle.il_reader.proofs.ExactTexts.{text_complete, no_object, no_function, same_function, same_object, no_cons, no_nil, same_list}

-- what is proved of the parts of a function
abbrev pub Named : FunctionParts → Type 0
Named p =
    (come_after 0 (temps_of p.params p.blocks) ≡ Some (length p.temps)) × (come_after 0 (labels_of p.blocks) ≡ Some (length p.labels))
    × IsTrue (are_distinct p.temps) × IsTrue (are_distinct p.labels) × IsTrue (has_block p.blocks) × IsTrue (have_arguments p.blocks)

-- the function with these parts
abbrev pub with_parts : ((p : FunctionParts) × Named p) → Func
with_parts x = record {
  line = x.0.line;
  exported = x.0.exported;
  name = x.0.name;
  result = x.0.result;
  params = x.0.params;
  blocks = x.0.blocks;
  temps = x.0.temps;
  labels = x.0.labels;
  temps_in_order = x.1.0;
  labels_in_order = x.1.1;
  temps_distinct = x.1.2;
  labels_distinct = x.1.3;
  some_block = x.1.4;
  some_argument = x.1.5;
}

named_prop : (p : FunctionParts) → IsProp (Named p)
named_prop p = hlevel props

pub function_same : (f g : Func) → function_parts f ≡ function_parts g → f ≡ g
function_same f g e =
    let same : pair f ≡ pair g = Σ_prop_path named_prop e in ap with_parts same
  where
    pair : Func → (p : FunctionParts) × Named p
    pair f = (function_parts f, (f.temps_in_order, f.labels_in_order, f.temps_distinct, f.labels_distinct, f.some_block, f.some_argument))

definition_same : (d e : Definition) → definition_parts d ≡ definition_parts e → d ≡ e
definition_same (Function f) (Function g) h = ap Function (function_same f g (same_function (function_parts f) (function_parts g) h))
definition_same (Function f) (Object o) h = no_object (function_parts f) o h
definition_same (Object o) (Function f) h = no_function (function_parts f) o h
definition_same (Object o) (Object p) h = ap Object (same_object o p h)

definitions_same : (ds es : List Definition) → map definition_parts ds ≡ map definition_parts es → ds ≡ es
definitions_same [] [] h = refl
definitions_same [] (e ∷ es) h = no_cons (definition_parts e) (map definition_parts es) h
definitions_same (d ∷ ds) [] h = no_nil (definition_parts d) (map definition_parts ds) h
definitions_same (d ∷ ds) (e ∷ es) h =
    let parts = same_list (definition_parts d) (definition_parts e) (map definition_parts ds) (map definition_parts es) h in
    ap (λ x. x ∷ ds) (definition_same d e parts.0) ∙ ap (λ xs. e ∷ xs) (definitions_same ds es parts.1)

-- the parts of a text, with its definitions
record Whole : Type 0 where
  pub definitions : List Definition
  pub symbols : List (List ℕ)
  pub lines : ℕ
  pub bytes : ℕ

abbrev OfText : Whole → Type 0
OfText w = (come_after 0 (symbols_of w.definitions) ≡ Some (length w.symbols)) × IsTrue (are_distinct w.symbols)

abbrev with_whole : ((w : Whole) × OfText w) → Text
with_whole x = record {
  definitions = x.0.definitions;
  symbols = x.0.symbols;
  lines = x.0.lines;
  bytes = x.0.bytes;
  symbols_in_order = x.1.0;
  symbols_distinct = x.1.1;
}

of_text_prop : (w : Whole) → IsProp (OfText w)
of_text_prop w = hlevel props

abbrev whole_of : Text → Whole
whole_of t = record { definitions = t.definitions; symbols = t.symbols; lines = t.lines; bytes = t.bytes }

whole_same : (t u : Text) → text_parts t ≡ text_parts u → whole_of t ≡ whole_of u
whole_same t u e =
    let ds = definitions_same t.definitions u.definitions (ap (λ (p : TextParts). p.definitions) e) in
    let symbols = ap (λ (p : TextParts). p.symbols) e in
    let lines = ap (λ (p : TextParts). p.lines) e in
    let bytes = ap (λ (p : TextParts). p.bytes) e in
    λ i. record { definitions = ds i; symbols = symbols i; lines = lines i; bytes = bytes i }

pub text_same : (t u : Text) → text_parts t ≡ text_parts u → t ≡ u
text_same t u e =
    let same : pair t ≡ pair u = Σ_prop_path of_text_prop (whole_same t u e) in ap with_whole same
  where
    pair : Text → (w : Whole) × OfText w
    pair t = (whole_of t, (t.symbols_in_order, t.symbols_distinct))

pub one_tree : OneTree
one_tree bytes t u h k = text_same t u (same_Some (text_parts t) (text_parts u) (sym (text_complete bytes t h) ∙ text_complete bytes u k))
