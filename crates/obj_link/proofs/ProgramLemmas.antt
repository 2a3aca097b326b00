-- What makes texts a program, and that refusals and programs exclude one another.
use Rattle.std.proofs.Common.{◌≡◌, ℕ, zero, suc, ◌+◌, true, List, [], ◌∷◌, ◌++◌, map, refl, ap, sym, ◌∙◌, arith, Option, Some, None, slice_get, codes, option_map, option_and_then, Bor}
use Rattle.il_ast.specs.declared.function.Func.{Func}
use Rattle.il_ast.specs.declared.datum.DataDef.{DataDef}
use Rattle.il_ast.specs.declared.program.InText.{InText}
use Rattle.il_ast.specs.declared.program.Target.{Target}
use Rattle.il_ast.specs.declared.program.Program.{Program}
use Rattle.il_types.specs.declared.checked.Checked.{Checked}
use Rattle.obj_link.specs.declared.linking.names.GlobalName.{GlobalName}
use Rattle.obj_link.specs.declared.linking.error.LinkError.{LinkError}
use Rattle.obj_link.specs.declared.linking.error.LinkError.TheVariants.{UnknownName, ExportedTwice, NoMain, Limit, Memory}
use Rattle.obj_link.specs.Prelude.{shown, functions_of, objects_of, names_of, names_of_functions, names_of_objects, visible, meaning_of, symbols_by, targets_by, targets_of, symbol_at, IsUnknown, main_in, ExportsMain, within_limits, Refuses, IsJoined, program_with, IsProgram}
use Rattle.obj_link.proofs.MainLemmas.{exported_main, main_is}
use Rattle.std.proofs.lemmas.Option.{same_Some}

-- ---- the same meanings

symbols_same : (f g : ℕ → List ℕ → Option Target) → ((s : ℕ) (x : List ℕ) → f s x ≡ g s x) → (s : ℕ) (xs : List (List ℕ)) → symbols_by f s xs ≡ symbols_by g s xs
symbols_same f g h s [] = refl
symbols_same f g h s (x ∷ xs) =
    ap (λ o. option_and_then (λ t. option_map (λ ts. t ∷ ts) o) (f s x)) (symbols_same f g h (s + 1) xs)
    ∙ ap (option_and_then (λ t. option_map (λ ts. t ∷ ts) (symbols_by g (s + 1) xs))) (h s x)

pub targets_same : (f g : ℕ → ℕ → List ℕ → Option Target) → ((t s : ℕ) (x : List ℕ) → f t s x ≡ g t s x) → (t : ℕ) (texts : List Checked) → targets_by f t texts ≡ targets_by g t texts
targets_same f g h t [] = refl
targets_same f g h t (x ∷ xs) =
    ap (λ o. option_and_then (λ ts. option_map (λ rest. ts ∷ rest) o) (symbols_by (f t) 0 x.text.symbols)) (targets_same f g h (t + 1) xs)
    ∙ ap (option_and_then (λ ts. option_map (λ rest. ts ∷ rest) (targets_by g (t + 1) xs))) (symbols_same (f t) (g t) (h t) 0 x.text.symbols)

-- ---- a name without a meaning

symbol_unknown : (meaning : ℕ → List ℕ → Option Target) (s : ℕ) (xs : List (List ℕ)) (i : ℕ) (name : List ℕ) → slice_get xs i ≡ Some name → meaning (s + i) name ≡ None → symbols_by meaning s xs ≡ None
symbol_unknown meaning s [] i name at none = cc
symbol_unknown meaning s (x ∷ xs) zero name at none =
    let here : meaning s x ≡ None =
    (let same : x ≡ name = cc in let zero_more : s + zero ≡ s = omega arith in ap (meaning s) same ∙ (ap (λ k. meaning k name) (sym zero_more) ∙ none)) in
    ap (option_and_then (λ t. option_map (λ ts. t ∷ ts) (symbols_by meaning (s + 1) xs))) here
symbol_unknown meaning s (x ∷ xs) (suc i) name at none =
    let shifted : (s + 1) + i ≡ s + suc i = omega arith in
    let later : symbols_by meaning (s + 1) xs ≡ None = symbol_unknown meaning (s + 1) xs i name at (ap (λ k. meaning k name) shifted ∙ none) in
    ap (λ o. option_and_then (λ t. option_map (λ ts. t ∷ ts) o) (meaning s x)) later ∙ none_after (meaning s x)
  where
    none_after : (o : Option Target) → option_and_then (λ t. option_map (λ (ts : List Target). t ∷ ts) None) o ≡ None
    none_after None = refl
    none_after (Some t) = refl

text_unknown : (meaning : ℕ → ℕ → List ℕ → Option Target) (t : ℕ) (texts : List Checked) (i s : ℕ) (name : List ℕ) → symbol_at texts i s ≡ Some name → meaning (t + i) s name ≡ None → targets_by meaning t texts ≡ None
text_unknown meaning t [] i s name at none = cc
text_unknown meaning t (x ∷ xs) zero s name at none =
    let zero_more : t + zero ≡ t = omega arith in
    let here : symbols_by (meaning t) 0 x.text.symbols ≡ None =
    symbol_unknown (meaning t) 0 x.text.symbols s name at (let e : 0 + s ≡ s = omega arith in ap (λ k. meaning t k name) e ∙ (ap (λ k. meaning k s name) (sym zero_more) ∙ none)) in
    ap (option_and_then (λ ts. option_map (λ rest. ts ∷ rest) (targets_by meaning (t + 1) xs))) here
text_unknown meaning t (x ∷ xs) (suc i) s name at none =
    let shifted : (t + 1) + i ≡ t + suc i = omega arith in
    let later : targets_by meaning (t + 1) xs ≡ None = text_unknown meaning (t + 1) xs i s name at (ap (λ k. meaning k s name) shifted ∙ none) in
    ap (λ o. option_and_then (λ ts. option_map (λ rest. ts ∷ rest) o) (symbols_by (meaning t) 0 x.text.symbols)) later ∙ none_after (symbols_by (meaning t) 0 x.text.symbols)
  where
    none_after : (o : Option (List Target)) → option_and_then (λ ts. option_map (λ (rest : List (List Target)). ts ∷ rest) None) o ≡ None
    none_after None = refl
    none_after (Some t) = refl

pub unknown_none : (texts : List Checked) (name : List ℕ) → IsUnknown (meaning_of texts) texts name → targets_of texts ≡ None
unknown_none texts name h =
    text_unknown (meaning_of texts) 0 texts h.0 h.1 name h.2 (let e : 0 + h.0 ≡ h.0 = omega arith in ap (λ k. meaning_of texts k h.1 name) e ∙ h.3)

-- ---- refusals

pub refuted : (e : LinkError) (texts : List Checked) (p : Program) → Refuses e texts → IsProgram texts p → e ≡ Memory
refuted (UnknownName name) texts p h g = let none = unknown_none texts name.now h in let some = g.targets in cc
refuted (ExportedTwice name) texts p h g = absurd (omega (arith, h, g.once name.now))
refuted NoMain texts p h g = let main = main_is texts p.main g.main in absurd (h (p.main, main.0, main.1, main.2))
refuted Limit texts p h g = let yes = g.limits in cc
refuted Memory texts p h g = refl

-- ---- at most one program

same_parts : (t u : List (List Target)) (f g : List (InText Func)) (o q : List (InText DataDef)) (m n : ℕ) → t ≡ u → f ≡ g → o ≡ q → m ≡ n → (let p : Program = record { targets = t; functions = f; objects = o; main = m } in p) ≡ record { targets = u; functions = g; objects = q; main = n }
same_parts t u f g o q m n a b c d =
    ap (λ x. record { targets = x; functions = f; objects = o; main = m }) a
    ∙ (ap (λ x. record { targets = u; functions = x; objects = o; main = m }) b
    ∙ (ap (λ x. record { targets = u; functions = g; objects = x; main = m }) c ∙ ap (λ x. record { targets = u; functions = g; objects = q; main = x }) d))

pub one_program : (texts : List Checked) (p q : Program) → IsProgram texts p → IsProgram texts q → p ≡ q
one_program texts p q g h =
    same_parts p.targets q.targets p.functions q.functions p.objects q.objects p.main q.main
    (same_Some p.targets q.targets (sym g.targets ∙ h.targets)) (g.functions ∙ sym h.functions) (g.objects ∙ sym h.objects)
    (same_Some p.main q.main (sym g.main ∙ h.main))

-- ---- the program that was made

pub made : (texts : List Checked) (functions : List (InText (Bor Func))) (objects : List (InText (Bor DataDef))) (targets : List (List Target)) (named : Option Target) (main : ℕ) → map shown functions ≡ functions_of texts → map shown objects ≡ objects_of texts → IsJoined texts (names_of texts) targets named → within_limits texts (map shown functions) (map shown objects) ≡ true → main_in (map shown functions) named ≡ Some main → IsProgram texts (program_with targets functions objects main)
made texts functions objects targets named main f o j l m =
    record {
      functions = f;
      objects = o;
      targets = j.found;
      once = j.once;
      main = ap (λ fs. main_in fs (visible texts (names_of texts) (codes "main"))) (sym f)
          ∙ (ap (main_in (map shown functions)) (sym j.main_is) ∙ m);
      limits = ap (λ fs. within_limits texts fs (objects_of texts)) (sym f) ∙ (ap (within_limits texts (map shown functions)) (sym o) ∙ l);
    }

pub named_by : (texts : List Checked) (functions : List (InText (Bor Func))) (objects : List (InText (Bor DataDef))) (names : List GlobalName) → map shown functions ≡ functions_of texts → map shown objects ≡ objects_of texts → names ≡ names_of_functions 0 (map shown functions) ++ names_of_objects 0 (map shown objects) → names ≡ names_of texts
named_by texts functions objects names f o n = n ∙ (ap (λ fs. names_of_functions 0 fs ++ names_of_objects 0 (map shown objects)) f ∙ ap (λ os. names_of_functions 0 (functions_of texts) ++ names_of_objects 0 os) o)

pub begun : (texts : List Checked) (given functions sliced again : List (InText (Bor Func))) (given_objects objects sliced_objects : List (InText (Bor DataDef))) (targets : List (List Target)) (named : Option Target) (main : ℕ) → functions ≡ given → sliced ≡ functions → again ≡ functions → objects ≡ given_objects → sliced_objects ≡ objects → map shown given ≡ functions_of texts → map shown given_objects ≡ objects_of texts → IsJoined texts (names_of texts) targets named → true ≡ within_limits texts (map shown sliced) (map shown sliced_objects) → Some main ≡ main_in (map shown again) named → IsProgram texts (program_with targets functions objects main)
begun texts given functions sliced again given_objects objects sliced_objects targets named main a b b2 c d f o j l m =
    made texts functions objects targets named main
    (ap (map shown) a ∙ f) (ap (map shown) c ∙ o) j
    (sym (l ∙ (ap (λ fs. within_limits texts (map shown fs) (map shown sliced_objects)) b ∙ ap (λ os. within_limits texts (map shown functions) (map shown os)) d)))
    (sym (m ∙ ap (λ fs. main_in (map shown fs) named) b2))

-- where the name `main` means no function of either form, none is exported
pub no_main : (texts : List Checked) (given functions again : List (InText (Bor Func))) (targets : List (List Target)) (named : Option Target) → functions ≡ given → again ≡ functions → map shown given ≡ functions_of texts → IsJoined texts (names_of texts) targets named → None ≡ main_in (map shown again) named → ExportsMain texts → ⊥
no_main texts given functions again targets named a b f j none =
    let whole : map shown again ≡ functions_of texts = ap (map shown) (b ∙ a) ∙ f in
    exported_main texts (j.once (codes "main")) (ap (main_in (functions_of texts)) (sym j.main_is) ∙ (ap (λ fs. main_in fs named) (sym whole) ∙ sym none))
