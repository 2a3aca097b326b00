-- The functions of checked texts are such as can be lowered.
use Rattle.std.proofs.Common.{◌≡◌, ℕ, ◌+◌, List, [], ◌∷◌, ◌++◌, refl, sym, ◌∙◌, ap, subst, zero, suc, slice_get, Some, Bor, flat_map, option_map}
use Rattle.std.proofs.lemmas.Option.{slice_get-map}
use Rattle.il_ast.specs.declared.function.Func.{Func}
use Rattle.il_ast.specs.declared.text.Definition.{Definition}
use Rattle.il_ast.specs.declared.text.Definition.TheVariants.{Function, Object}
use Rattle.il_ast.specs.declared.program.InText.{InText}
use Rattle.il_ast.specs.declared.program.Program.{Program}
use Rattle.il_types.specs.declared.checked.Checked.{Checked}
use Rattle.obj_link.specs.declared.linking.linked.Linked.{Linked}
use Rattle.obj_link.specs.Prelude.{function_in, functions_from, shown, IsProgram, program, IsLinked}
use Rattle.phi_copies.specs.Good.{IsGoodFunction}
use Rattle.phi_copies.proofs.GoodTexts.{good_function}

-- ---- all texts

abbrev AllGood : List (InText Func) → Type 0
AllGood [] = Unit {0}
AllGood (f ∷ fs) = IsGoodFunction f.item × AllGood fs

both_good : (fs gs : List (InText Func)) → AllGood fs → AllGood gs → AllGood (fs ++ gs)
both_good [] gs h k = k
both_good (f ∷ fs) gs h k = (h.0, both_good fs gs h.1 k)

good_at : (fs : List (InText Func)) → AllGood fs → (k : ℕ) (f : InText Func) → slice_get fs k ≡ Some f → IsGoodFunction f.item
good_at [] h k f at = absurd (let no : ⊥ = cc in no)
good_at (x ∷ fs) h zero f at = let same : x ≡ f = cc in subst (λ (y : InText Func). IsGoodFunction y.item) same h.0
good_at (x ∷ fs) h (suc k) f at = good_at fs h.1 k f at

text_good : (n : ℕ) (ds : List Definition) → ((k : ℕ) (f : Func) → slice_get ds k ≡ Some (Function f) → IsGoodFunction f) → AllGood (flat_map (function_in n) ds)
text_good n [] each = tt
text_good n (Function f ∷ ds) each = (each 0 f refl, text_good n ds (λ k. each (suc k)))
text_good n (Object d ∷ ds) each = text_good n ds (λ k. each (suc k))

texts_good : (n : ℕ) (texts : List Checked) → AllGood (functions_from n texts)
texts_good n [] = tt
texts_good n (t ∷ texts) =
    both_good (flat_map (function_in n) t.text.definitions) (functions_from (n + 1) texts)
    (text_good n t.text.definitions (good_function t.text t.good)) (texts_good (n + 1) texts)

-- of a program
pub program_functions_are_good : (texts : List Checked) (p : Program) → IsProgram texts p → (k : ℕ) (f : InText Func) → slice_get p.functions k ≡ Some f → IsGoodFunction f.item
program_functions_are_good texts p is k f at = good_at p.functions (subst AllGood (sym is.functions) (texts_good 0 texts)) k f at

-- of linked texts
pub functions_are_good : (texts : List Checked) (l : Linked) → IsLinked texts l → (k : ℕ) (f : InText (Bor Func)) → slice_get l.functions k ≡ Some f → IsGoodFunction f.item.now
functions_are_good texts l linked k f at =
    program_functions_are_good texts (program l) linked.is_program k (shown f) (slice_get-map shown l.functions k ∙ ap (option_map shown) at)
