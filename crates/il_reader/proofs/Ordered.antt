-- The names of a function, and of a text, stand in order of first appearance, each once.
use Rattle.std.proofs.Common.{◌≡◌, ℕ, Bool, List, [], length, Some, IsTrue, refl, sym, ap, ◌∙◌, subst, map}
use Rattle.il_ast.specs.Prelude.{come_after, are_distinct, symbols_of}
use Rattle.il_ast.specs.declared.text.Definition.{Definition}
use Rattle.il_reader.specs.Prelude.{State, start, FunctionParts, DefinitionParts, FunctionOf, ObjectOf, definition_parts}
use Rattle.il_reader.specs.Definitions as definitions
use Rattle.il_reader.proofs.ExactFunctions.{Functions, functions_exact}
use Rattle.il_reader.proofs.ExactTexts.{AllParts, all_parts_exact}
use Rattle.il_reader.proofs.OneTree.{Named}
use Rattle.il_reader.proofs.Written.{parts_written}
use Rattle.il_reader.proofs.Definers.{function_goes, in_function, all_mention}
use Rattle.il_reader.proofs.Namings.{Temps, Labels, Symbols}
use Rattle.il_reader.proofs.MentionedNames.{temps_function, labels_function, symbols_all}

-- what is proved of the parts of each function that is read
pub function_named : (exported : Bool) (s : State) (p : FunctionParts) (s' : State) → definitions.function exported s ≡ Some (p, s') → Named p
function_named exported s p s' e =
    let h : Functions exported s p s' = (functions_exact exported).sound s p s' e in
    let names = h.3.3.3 in
    let parts = names.3 in
    let temps : p.temps ≡ s'.temps = ap (λ (x : FunctionParts). x.temps) parts.0 ∙ ap (λ x. x.0) names.2.0 ∙ sym (ap (λ m. m.temps) (parts.1 ∙ names.2.1)) in
    let labels : p.labels ≡ s'.labels = ap (λ (x : FunctionParts). x.labels) parts.0 ∙ ap (λ x. x.1) names.2.0 ∙ sym (ap (λ m. m.labels) (parts.1 ∙ names.2.1)) in
    let no_temps : h.2.3.1.temps ≡ [] = ap (λ m. m.temps) h.2.3.2 in
    let no_labels : h.2.3.1.labels ≡ [] = ap (λ m. m.labels) h.2.3.2 in
    let t = function_goes Temps exported s p s' h in
    let l = function_goes Labels exported s p s' h in
    let w = parts_written exported s s' p h in (
      ap (come_after 0) (sym (temps_function p)) ∙ ap (λ ns. come_after (length ns) (in_function Temps p)) (sym no_temps) ∙ t.in_order ∙ ap (λ ns. Some (length ns)) (sym temps),
      ap (come_after 0) (sym (labels_function p)) ∙ ap (λ ns. come_after (length ns) (in_function Labels p)) (sym no_labels) ∙ l.in_order ∙ ap (λ ns. Some (length ns)) (sym labels),
      subst (λ ns. IsTrue (are_distinct ns)) (sym temps) (t.distinct (subst (λ ns. IsTrue (are_distinct ns)) (sym no_temps) refl)),
      subst (λ ns. IsTrue (are_distinct ns)) (sym labels) (l.distinct (subst (λ ns. IsTrue (are_distinct ns)) (sym no_labels) refl)),
      w.0,
      w.1,
    )

-- what is proved of the global names of each text that is read
pub text_named : (bytes : List ℕ) (ds : List Definition) (s' : State) → definitions.definitions (start bytes) ≡ Some (map definition_parts ds, s')
    → (come_after 0 (symbols_of ds) ≡ Some (length s'.symbols)) × IsTrue (are_distinct s'.symbols)
text_named bytes ds s' e =
    let h : AllParts (start bytes) (map definition_parts ds) s' = all_parts_exact.sound (start bytes) (map definition_parts ds) s' e in
    let g = (all_mention Symbols (λ s. refl)).goes (start bytes) (map definition_parts ds) s' h in
    (ap (come_after 0) (sym (symbols_all ds)) ∙ g.in_order, g.distinct refl)
