-- The phis of a linked program: each label has one argument.
use Rattle.std.proofs.Common.{◌≡◌, ℕ, zero, suc, ◌+◌, Bool, true, false, List, [], ◌∷◌, ◌++◌, refl, sym, ◌∙◌, subst, slice_get, Some, None, flat_map}
use Rattle.std.proofs.lemmas.Bool.{false≢true}
use Rattle.std.proofs.lemmas.Grind.{not_there}
use Rattle.il_ast.specs.declared.block.Block.{Block}
use Rattle.il_ast.specs.declared.function.Func.{Func}
use Rattle.il_ast.specs.declared.text.Definition.{Definition}
use Rattle.il_ast.specs.declared.text.Definition.TheVariants.{Function, Object}
use Rattle.il_ast.specs.declared.program.InText.{InText}
use Rattle.il_types.specs.declared.checked.Checked.{Checked}
use Rattle.il_types.specs.declared.rule.Rule.TheVariants.{PhiCoversPredecessors}
use Rattle.il_types.specs.Prelude.{first, uncovered_phi, broken_in, are_all_distinct}
use Rattle.il_types.proofs.ArgumentLemmas.{none_first, block_distinct}
use Rattle.obj_link.specs.declared.linking.linked.Linked.{Linked}
use Rattle.obj_link.specs.Prelude.{function_in, functions_from, IsProgram, program}

abbrev AllCovered : List (InText Func) → Type 0
AllCovered [] = Unit {0}
AllCovered (f ∷ fs) = (uncovered_phi f.item ≡ None) × AllCovered fs

both_covered : (fs gs : List (InText Func)) → AllCovered fs → AllCovered gs → AllCovered (fs ++ gs)
both_covered [] gs h k = k
both_covered (f ∷ fs) gs h k = (h.0, both_covered fs gs h.1 k)

covered_at : (fs : List (InText Func)) → AllCovered fs → (k : ℕ) (f : InText Func) → slice_get fs k ≡ Some f → uncovered_phi f.item ≡ None
covered_at [] h k f at = absurd (let no : ⊥ = cc in no)
covered_at (x ∷ fs) h zero f at = let same : x ≡ f = cc in subst (λ (y : InText Func). uncovered_phi y.item ≡ None) same h.0
covered_at (x ∷ fs) h (suc k) f at = covered_at fs h.1 k f at

text_covered : (n : ℕ) (ds : List Definition) → first (broken_in PhiCoversPredecessors) ds ≡ None → AllCovered (flat_map (function_in n) ds)
text_covered n [] h = tt
text_covered n (Function f ∷ ds) h =
    let both = none_first (uncovered_phi f) (first (broken_in PhiCoversPredecessors) ds) h in (both.0, text_covered n ds both.1)
text_covered n (Object d ∷ ds) h = text_covered n ds h

texts_covered : (n : ℕ) (texts : List Checked) → AllCovered (functions_from n texts)
texts_covered n [] = tt
texts_covered n (t ∷ texts) =
    both_covered (flat_map (function_in n) t.text.definitions) (functions_from (n + 1) texts)
    (text_covered n t.text.definitions (t.good.rules PhiCoversPredecessors)) (texts_covered (n + 1) texts)

-- the phis of each block of a program
pub program_distinct : (l : Linked) (k : ℕ) (f : InText Func) → slice_get (program l).functions k ≡ Some f → (n : ℕ) (b : Block) → slice_get f.item.blocks n ≡ Some b → are_all_distinct b.phis ≡ true
program_distinct l k f at n b there = by (are_all_distinct b.phis) refl
  where
    proved : IsProgram l.texts.now (program l) → are_all_distinct b.phis ≡ true
    proved is =
        block_distinct f.item (covered_at (program l).functions (subst AllCovered (sym is.functions) (texts_covered 0 l.texts.now)) k f at) n b there

    by : (c : Bool) → are_all_distinct b.phis ≡ c → are_all_distinct b.phis ≡ true
    by true e = e
    by false e = absurd (not_there l.is_program (λ is. false≢true (sym e ∙ proved is)))
