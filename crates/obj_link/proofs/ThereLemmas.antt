-- What names mean is there.
use Rattle.std.proofs.Common.{◌≡◌, ◌≤◌, ℕ, zero, suc, ◌+◌, Bool, true, false, List, [], ◌∷◌, ◌++◌, length, refl, ap, sym, subst, ◌∙◌, arith, cond, Option, Some, None, slice_get, codes, find, bytes_eq}
use Rattle.std.specs.Option.{option_map, option_and_then, option_or}
use Rattle.il_ast.specs.declared.function.Func.{Func}
use Rattle.il_ast.specs.declared.datum.DataDef.{DataDef}
use Rattle.il_ast.specs.declared.program.InText.{InText}
use Rattle.il_ast.specs.declared.program.Program.{Program}
use Rattle.il_ast.specs.declared.program.Target.{Target}
use Rattle.il_ast.specs.declared.program.Target.TheVariants.{Code, Object}
use Rattle.il_ast.specs.declared.value.Callee.TheVariants.{Defined, SystemWrite, SystemExit}
use Rattle.il_types.specs.declared.checked.Checked.{Checked}
use Rattle.obj_link.specs.declared.linking.names.GlobalName.{GlobalName}
use Rattle.obj_link.specs.Prelude.{functions_of, objects_of, names_of, names_of_functions, names_of_objects, is_own, own, is_export, exported, predefined, visible, meaning_of, symbols_by, targets_by, is_main, main_at, main_in, IsThere, HasWhatNamesMean, IsProgram}

-- ---- what definitions give their names

abbrev AllThere : (f o : ℕ) → List GlobalName → Type 0
AllThere f o [] = Unit {0}
AllThere f o (g ∷ gs) = IsThere f o g.target × AllThere f o gs

both_there : (f o : ℕ) (xs ys : List GlobalName) → AllThere f o xs → AllThere f o ys → AllThere f o (xs ++ ys)
both_there f o [] ys h k = k
both_there f o (x ∷ xs) ys h k = (h.0, both_there f o xs ys h.1 k)

functions_there : (f o n : ℕ) (fs : List (InText Func)) → n + length fs ≤ f → AllThere f o (names_of_functions n fs)
functions_there f o n [] le = tt
functions_there f o n (x ∷ fs) le = (omega (arith, le), functions_there f o (n + 1) fs (omega (arith, le)))

objects_there : (f o n : ℕ) (ds : List (InText DataDef)) → n + length ds ≤ o → AllThere f o (names_of_objects n ds)
objects_there f o n [] le = tt
objects_there f o n (x ∷ ds) le = (omega (arith, le), objects_there f o (n + 1) ds (omega (arith, le)))

names_there : (texts : List Checked) → AllThere (length (functions_of texts)) (length (objects_of texts)) (names_of texts)
names_there texts =
    let f = length (functions_of texts) in
    let o = length (objects_of texts) in
    both_there f o (names_of_functions 0 (functions_of texts)) (names_of_objects 0 (objects_of texts))
    (functions_there f o 0 (functions_of texts) (omega arith)) (objects_there f o 0 (objects_of texts) (omega arith))

-- ---- what a name means

found_there : (f o : ℕ) (p : GlobalName → Bool) (gs : List GlobalName) (t : Target) → AllThere f o gs → option_map (λ (g : GlobalName). g.target) (find p gs) ≡ Some t → IsThere f o t
found_there f o p [] t h e = cc
found_there f o p (g ∷ gs) t h e = by_test (p g) refl (found_there f o p gs t h.1)
  where
    by_test : (b : Bool) → p g ≡ b → (option_map (λ (g : GlobalName). g.target) (find p gs) ≡ Some t → IsThere f o t) → IsThere f o t
    by_test true at later =
        let here : Some g.target ≡ Some t = sym (ap (λ b. option_map (λ (g : GlobalName). g.target) (cond b (Some g) (find p gs))) at) ∙ e in
        let same : g.target ≡ t = cc in
        subst (IsThere f o) same h.0
    by_test false at later = later (sym (ap (λ b. option_map (λ (g : GlobalName). g.target) (cond b (Some g) (find p gs))) at) ∙ e)

predefined_there : (f o : ℕ) (name : List ℕ) (t : Target) → predefined name ≡ Some t → IsThere f o t
predefined_there f o name t e = by_tests (bytes_eq (codes "write") name) (bytes_eq (codes "exit") name) t e
  where
    by_tests : (a b : Bool) (t : Target) → cond a (Some (Code SystemWrite)) (cond b (Some (Code SystemExit)) None) ≡ Some t → IsThere f o t
    by_tests true b t e = let same : Code SystemWrite ≡ t = cc in subst (IsThere f o) same tt
    by_tests false true t e = let same : Code SystemExit ≡ t = cc in subst (IsThere f o) same tt
    by_tests false false t e = cc

either_there : (f o : ℕ) (a b : Option Target) (t : Target) → (a ≡ Some t → IsThere f o t) → (b ≡ Some t → IsThere f o t) → option_or a b ≡ Some t → IsThere f o t
either_there f o None b t g h e = h e
either_there f o (Some x) b t g h e = g e

meaning_there : (texts : List Checked) (t s : ℕ) (name : List ℕ) (x : Target) → meaning_of texts t s name ≡ Some x → IsThere (length (functions_of texts)) (length (objects_of texts)) x
meaning_there texts t s name x e =
    let f = length (functions_of texts) in
    let o = length (objects_of texts) in
    either_there f o (own (names_of texts) t s) (visible texts (names_of texts) name) x
    (found_there f o (is_own t s) (names_of texts) x (names_there texts))
    (either_there f o (exported texts (names_of texts) name) (predefined name) x
    (found_there f o (is_export texts name) (names_of texts) x (names_there texts)) (predefined_there f o name x)) e

-- ---- all symbols of all texts

record Parts {A : Type 0} (first : Option A) (rest : Option (List A)) (all : List A) : Type 0 where
  head : A
  tail : List A
  is_first : first ≡ Some head
  is_rest : rest ≡ Some tail
  is_all : head ∷ tail ≡ all

parts : {A : Type 0} (first : Option A) (rest : Option (List A)) (all : List A) → option_and_then (λ x. option_map (λ xs. x ∷ xs) rest) first ≡ Some all → Parts first rest all
parts None rest all e = cc
parts (Some x) None all e = cc
parts (Some x) (Some xs) all e = record { head = x; tail = xs; is_first = refl; is_rest = refl; is_all = let same : x ∷ xs ≡ all = cc in same }

none_get : {A : Type 0} (xs : List A) (i : ℕ) (x : A) → [] ≡ xs → slice_get xs i ≡ Some x → ⊥
none_get xs i x e h = let h : slice_get [] i ≡ Some x = ap (λ ys. slice_get ys i) e ∙ h in empty i h
  where
    empty : (i : ℕ) → slice_get [] i ≡ Some x → ⊥
    empty zero h = cc
    empty (suc i) h = cc

symbols_length : (meaning : ℕ → List ℕ → Option Target) (s : ℕ) (xs : List (List ℕ)) (ts : List Target) → symbols_by meaning s xs ≡ Some ts → length ts ≡ length xs
symbols_length meaning s [] ts e = let same : ts ≡ [] = cc in ap length same
symbols_length meaning s (x ∷ xs) ts e =
    let p = parts (meaning s x) (symbols_by meaning (s + 1) xs) ts e in
    sym (ap length p.is_all) ∙ ap suc (symbols_length meaning (s + 1) xs p.tail p.is_rest)

symbols_there : (f o : ℕ) (meaning : ℕ → List ℕ → Option Target) → ((s : ℕ) (x : List ℕ) (t : Target) → meaning s x ≡ Some t → IsThere f o t) → (s : ℕ) (xs : List (List ℕ)) (ts : List Target) (i : ℕ) (t : Target) → symbols_by meaning s xs ≡ Some ts → slice_get ts i ≡ Some t → IsThere f o t
symbols_there f o meaning h s [] ts i t e at = absurd (none_get ts i t (let same : [] ≡ ts = cc in same) at)
symbols_there f o meaning h s (x ∷ xs) ts zero t e at =
    let p = parts (meaning s x) (symbols_by meaning (s + 1) xs) ts e in
    let first : Some p.head ≡ Some t = ap (λ ys. slice_get ys 0) p.is_all ∙ at in
    h s x t (p.is_first ∙ first)
symbols_there f o meaning h s (x ∷ xs) ts (suc i) t e at =
    let p = parts (meaning s x) (symbols_by meaning (s + 1) xs) ts e in
    symbols_there f o meaning h (s + 1) xs p.tail i t p.is_rest (ap (λ ys. slice_get ys (suc i)) p.is_all ∙ at)

texts_length : (meaning : ℕ → ℕ → List ℕ → Option Target) (t : ℕ) (texts : List Checked) (found : List (List Target)) → targets_by meaning t texts ≡ Some found → length found ≡ length texts
texts_length meaning t [] found e = let same : found ≡ [] = cc in ap length same
texts_length meaning t (x ∷ xs) found e =
    let p = parts (symbols_by (meaning t) 0 x.text.symbols) (targets_by meaning (t + 1) xs) found e in
    sym (ap length p.is_all) ∙ ap suc (texts_length meaning (t + 1) xs p.tail p.is_rest)

-- the targets of a text
text_at : (meaning : ℕ → ℕ → List ℕ → Option Target) (t : ℕ) (texts : List Checked) (found : List (List Target)) (i : ℕ) (ts : List Target) → targets_by meaning t texts ≡ Some found → slice_get found i ≡ Some ts → (c : Checked) × (slice_get texts i ≡ Some c) × (symbols_by (meaning (t + i)) 0 c.text.symbols ≡ Some ts)
text_at meaning t [] found i ts e at = absurd (none_get found i ts (let same : [] ≡ found = cc in same) at)
text_at meaning t (x ∷ xs) found zero ts e at =
    let p = parts (symbols_by (meaning t) 0 x.text.symbols) (targets_by meaning (t + 1) xs) found e in
    let first : Some p.head ≡ Some ts = ap (λ ys. slice_get ys 0) p.is_all ∙ at in
    let here : t ≡ t + zero = omega arith in
    (x, refl, subst (λ k. symbols_by (meaning k) 0 x.text.symbols ≡ Some ts) here (p.is_first ∙ first))
text_at meaning t (x ∷ xs) found (suc i) ts e at =
    let p = parts (symbols_by (meaning t) 0 x.text.symbols) (targets_by meaning (t + 1) xs) found e in
    let later = text_at meaning (t + 1) xs p.tail i ts p.is_rest (ap (λ ys. slice_get ys (suc i)) p.is_all ∙ at) in
    let here : (t + 1) + i ≡ t + suc i = omega arith in
    (later.0, later.1, subst (λ k. symbols_by (meaning k) 0 later.0.text.symbols ≡ Some ts) here later.2)

-- ---- main

main_there : (fs : List (InText Func)) (named : Option Target) (k : ℕ) → main_in fs named ≡ Some k → (f : InText Func) × (slice_get fs k ≡ Some f) × (is_main f.item ≡ true)
main_there fs (Some (Code (Defined n))) k e = at_place (slice_get fs n) refl
  where
    at_place : (o : Option (InText Func)) → slice_get fs n ≡ o → (f : InText Func) × (slice_get fs k ≡ Some f) × (is_main f.item ≡ true)
    at_place None at = let e2 : main_at n None ≡ Some k = sym (ap (main_at n) at) ∙ e in cc
    at_place (Some f) at = by_form (is_main f.item) refl (sym (ap (main_at n) at) ∙ e)
      where
        by_form : (b : Bool) → is_main f.item ≡ b → main_at n (Some f) ≡ Some k → (f : InText Func) × (slice_get fs k ≡ Some f) × (is_main f.item ≡ true)
        by_form true m e2 =
            let e3 : Some n ≡ Some k = sym (ap (λ b. cond b (Some n) None) m) ∙ e2 in
            let same : n ≡ k = cc in
            (f, ap (slice_get fs) (sym same) ∙ at, m)
        by_form false m e2 = let e3 : None ≡ Some k = sym (ap (λ b. cond b (Some n) None) m) ∙ e2 in cc
main_there fs (Some (Code SystemWrite)) k e = cc
main_there fs (Some (Code SystemExit)) k e = cc
main_there fs (Some (Object n)) k e = cc
main_there fs None k e = cc

-- ---- the whole

pub what_names_mean : (texts : List Checked) (p : Program) → IsProgram texts p → HasWhatNamesMean texts p
what_names_mean texts p g =
    record {
      lists = texts_length (meaning_of texts) 0 texts p.targets g.targets;
      lengths = λ t c ts at got.
          let found = text_at (meaning_of texts) 0 texts p.targets t ts g.targets got in
          let same : Some found.0 ≡ Some c = sym found.1 ∙ at in
          let one : found.0 ≡ c = cc in
          symbols_length (meaning_of texts (0 + t)) 0 found.0.text.symbols ts found.2 ∙ ap (λ (c : Checked). length c.text.symbols) one;
      targets = λ t s ts x got at.
          let found = text_at (meaning_of texts) 0 texts p.targets t ts g.targets got in
          let there = symbols_there (length (functions_of texts)) (length (objects_of texts)) (meaning_of texts (0 + t)) (meaning_there texts (0 + t)) 0 found.0.text.symbols ts s x found.2 at in
          subst (λ os. IsThere (length p.functions) (length os) x) (sym g.objects) (subst (λ fs. IsThere (length fs) (length (objects_of texts)) x) (sym g.functions) there);
      main =
          let found = main_there (functions_of texts) (visible texts (names_of texts) (codes "main")) p.main g.main in
          (found.0, ap (λ fs. slice_get fs p.main) g.functions ∙ found.1, found.2);
    }
