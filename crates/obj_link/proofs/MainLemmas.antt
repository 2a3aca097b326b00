-- The name `main` means an exported function of one of the two forms exactly where there is one, if it is exported once.
use Rattle.std.proofs.Common.{◌≡◌, ◌≤◌, ℕ, zero, suc, ◌+◌, Bool, true, false, List, [], ◌∷◌, ◌++◌, refl, ap, sym, ◌∙◌, arith, cond, count_by, ◌&&◌, Option, Some, None, slice_get, codes, find, bytes_eq}
use Rattle.std.specs.Option.{option_map, option_or}
use Rattle.std.proofs.lemmas.List.Sums.{sum_by-append}
use Rattle.std.proofs.lemmas.Slice.Eq.{bytes_eq-Decides}
use Rattle.std.proofs.lemmas.Bool.{and_parts}
use Rattle.il_ast.specs.declared.function.Func.{Func}
use Rattle.il_ast.specs.declared.datum.DataDef.{DataDef}
use Rattle.il_ast.specs.declared.program.InText.{InText}
use Rattle.il_ast.specs.declared.program.Program.{Program}
use Rattle.il_ast.specs.declared.program.Target.{Target}
use Rattle.il_ast.specs.declared.program.Target.TheVariants.{Code, Object}
use Rattle.il_ast.specs.declared.value.Callee.{Callee}
use Rattle.il_ast.specs.declared.value.Callee.TheVariants.{Defined, SystemWrite, SystemExit}
use Rattle.il_types.specs.declared.checked.Checked.{Checked}
use Rattle.obj_link.specs.declared.linking.names.GlobalName.{GlobalName}
use Rattle.obj_link.specs.Prelude.{functions_of, objects_of, names_of, names_of_functions, names_of_objects, symbol_name, is_export, predefined, visible, times_exported, is_main, main_at, main_in, main_of, IsMain, ExportsMain, IsProgram}
use Rattle.std.proofs.lemmas.Option.{same_Some}

-- the name of function n
abbrev named : ℕ → InText Func → GlobalName
named n f = record { text = f.text; symbol = f.item.name; exported = f.item.exported; target = Code (Defined n) }

-- ---- options. `cc` reads all that is in scope, so it is asked here

none_some : {A B : Type 0} (x : A) → None ≡ Some x → B
none_some x e = absurd (never e)
  where
    never : None ≡ Some x → ⊥
    never h = cc

-- ---- one that is there is found, where it is the only one

here_first : (n : ℕ) (x f : InText Func) → Some x ≡ Some f → named n x ≡ named (n + zero) f
here_first n x f at =
    let same = same_Some x f at in
    let none : n ≡ n + zero = omega arith in
    ap (named n) same ∙ ap (λ m. named m f) none

further : (p : GlobalName → Bool) (n k : ℕ) (f : InText Func) → p (named (n + suc k) f) ≡ true → p (named (n + 1 + k) f) ≡ true
further p n k f holds = let e : n + 1 + k ≡ n + suc k = omega arith in ap (λ m. p (named m f)) e ∙ holds

first_counts : (p : GlobalName → Bool) (g : GlobalName) (xs : List GlobalName) (n : ℕ) → cond (p g) 1 0 ≡ n → count_by p (g ∷ xs) ≡ n + count_by p xs
first_counts p g xs n e = let all = sum_by-append (λ y. cond (p y) 1 0) (g ∷ []) xs in omega (arith, all, e)

is_counted : (p : GlobalName → Bool) (n : ℕ) (fs : List (InText Func)) (rest : List GlobalName) (k : ℕ) (f : InText Func) → slice_get fs k ≡ Some f → p (named (n + k) f) ≡ true → 1 ≤ count_by p (names_of_functions n fs ++ rest)
is_counted p n [] rest zero f at holds = cc
is_counted p n [] rest (suc k) f at holds = cc
is_counted p n (x ∷ fs) rest zero f at holds =
    let first = first_counts p (named n x) (names_of_functions (n + 1) fs ++ rest) 1 (ap {B = ℕ} (λ b. cond b 1 0) (ap p (here_first n x f at) ∙ holds)) in
    omega (arith, first)
is_counted p n (x ∷ fs) rest (suc k) f at holds =
    let more = is_counted p (n + 1) fs rest k f at (further p n k f holds) in
    let first = first_counts p (named n x) (names_of_functions (n + 1) fs ++ rest) (cond (p (named n x)) 1 0) refl in
    omega (arith, more, first)

is_found : (p : GlobalName → Bool) (n : ℕ) (fs : List (InText Func)) (rest : List GlobalName) (k : ℕ) (f : InText Func) → slice_get fs k ≡ Some f → p (named (n + k) f) ≡ true → count_by p (names_of_functions n fs ++ rest) ≤ 1 → find p (names_of_functions n fs ++ rest) ≡ Some (named (n + k) f)
is_found p n [] rest zero f at holds once = cc
is_found p n [] rest (suc k) f at holds once = cc
is_found p n (x ∷ fs) rest zero f at holds once =
    ap (λ b. cond b (Some (named n x)) (find p (names_of_functions (n + 1) fs ++ rest))) (ap p (here_first n x f at) ∙ holds) ∙ ap Some (here_first n x f at)
is_found p n (x ∷ fs) rest (suc k) f at holds once = by_test (p (named n x)) refl (is_found p (n + 1) fs rest k f at (further p n k f holds))
  where
    tail : List GlobalName
    tail = names_of_functions (n + 1) fs ++ rest

    by_test : (b : Bool) → p (named n x) ≡ b → (count_by p tail ≤ 1 → find p tail ≡ Some (named (n + 1 + k) f)) → find p (names_of_functions n (x ∷ fs) ++ rest) ≡ Some (named (n + suc k) f)
    by_test true e later =
        let first = first_counts p (named n x) tail 1 (ap {B = ℕ} (λ b. cond b 1 0) e) in
        let more = is_counted p (n + 1) fs rest k f at (further p n k f holds) in
        absurd (omega (arith, once, first, more))
    by_test false e later =
        let first = first_counts p (named n x) tail 0 (ap {B = ℕ} (λ b. cond b 1 0) e) in
        let next : n + 1 + k ≡ n + suc k = omega arith in
        ap (λ b. cond b (Some (named n x)) (find p tail)) e ∙ (later (omega (arith, once, first)) ∙ ap (λ m. Some (named m f)) next)

exports_name : (texts : List Checked) (name : List ℕ) (k : ℕ) (f : InText Func) → f.item.exported ≡ true → symbol_name texts f.text f.item.name ≡ name → is_export texts name (named k f) ≡ true
exports_name texts name k f e s = ap (λ b. b && bytes_eq (symbol_name texts f.text f.item.name) name) e ∙ (bytes_eq-Decides (symbol_name texts f.text f.item.name) name).1 s

-- texts that export a `main` of one of the two forms, and it once, have it
pub exported_main : (texts : List Checked) → times_exported texts (names_of texts) (codes "main") ≤ 1 → main_of texts ≡ None → ExportsMain texts → ⊥
exported_main texts once none h =
    let fs = functions_of texts in
    let p = is_export texts (codes "main") in
    let none_more : 0 + h.0 ≡ h.0 = omega arith in
    let it : p (named (0 + h.0) h.1) ≡ true = exports_name texts (codes "main") (0 + h.0) h.1 h.3.exported h.3.name in
    let found : find p (names_of texts) ≡ Some (named h.0 h.1) =
    is_found p 0 fs (names_of_objects 0 (objects_of texts)) h.0 h.1 h.2 it (omega (arith, once)) ∙ ap (λ n. Some (named n h.1)) none_more in
    let seen : visible texts (names_of texts) (codes "main") ≡ Some (Code (Defined h.0)) =
    ap (λ o. option_or (option_map (λ (g : GlobalName). g.target) o) (predefined (codes "main"))) found in
    let there : main_of texts ≡ Some h.0 =
    ap (main_in fs) seen ∙ (ap (main_at h.0) h.2 ∙ ap (λ b. cond b (Some h.0) None) h.3.form) in
    none_some h.0 (sym none ∙ there)

-- ---- what is found is there

no_code : (m : ℕ) (c : Callee) → Object m ≡ Code c → ⊥
no_code m c e = cc

same_function : (n k : ℕ) → Code (Defined n) ≡ Code (Defined k) → n ≡ k
same_function n k e = cc

is_there : (p : GlobalName → Bool) (n : ℕ) (fs : List (InText Func)) (ds : List (InText DataDef)) (m : ℕ) (g : GlobalName) (k : ℕ) → find p (names_of_functions n fs ++ names_of_objects m ds) ≡ Some g → g.target ≡ Code (Defined k)
    → (j : ℕ) × (f : InText Func) × (k ≡ n + j) × (slice_get fs j ≡ Some f) × (p (named k f) ≡ true)
is_there p n [] [] m g k found is = cc
is_there p n [] (d ∷ ds) m g k found is = by_test (p datum) refl (is_there p n [] ds (m + 1) g k)
  where
    datum : GlobalName
    datum = record { text = d.text; symbol = d.item.name; exported = d.item.exported; target = Object m }

    by_test : (b : Bool) → p datum ≡ b → (find p (names_of_objects (m + 1) ds) ≡ Some g → g.target ≡ Code (Defined k) → (j : ℕ) × (f : InText Func) × (k ≡ n + j) × (slice_get [] j ≡ Some f) × (p (named k f) ≡ true))
        → (j : ℕ) × (f : InText Func) × (k ≡ n + j) × (slice_get [] j ≡ Some f) × (p (named k f) ≡ true)
    by_test true e later =
        let this : Some datum ≡ Some g = sym (ap (λ b. cond b (Some datum) (find p (names_of_objects (m + 1) ds))) e) ∙ found in
        let two : Object m ≡ Code (Defined k) = ap (λ (x : GlobalName). x.target) (same_Some datum g this) ∙ is in
        absurd (no_code m (Defined k) two)
    by_test false e later = later (sym (ap (λ b. cond b (Some datum) (find p (names_of_objects (m + 1) ds))) e) ∙ found) is
is_there p n (x ∷ fs) ds m g k found is = by_test (p (named n x)) refl (λ e. is_there p (n + 1) fs ds m g k e is)
  where
    tail : List GlobalName
    tail = names_of_functions (n + 1) fs ++ names_of_objects m ds

    by_test : (b : Bool) → p (named n x) ≡ b → (find p tail ≡ Some g → (j : ℕ) × (f : InText Func) × (k ≡ n + 1 + j) × (slice_get fs j ≡ Some f) × (p (named k f) ≡ true))
        → (j : ℕ) × (f : InText Func) × (k ≡ n + j) × (slice_get (x ∷ fs) j ≡ Some f) × (p (named k f) ≡ true)
    by_test true e later =
        let this : Some (named n x) ≡ Some g = sym (ap (λ b. cond b (Some (named n x)) (find p tail)) e) ∙ found in
        let one : Code (Defined n) ≡ Code (Defined k) = ap (λ (y : GlobalName). y.target) (same_Some (named n x) g this) ∙ is in
        let number = same_function n k one in
        (zero, x, omega (arith, number), refl, ap (λ i. p (named i x)) (sym number) ∙ e)
    by_test false e later =
        let there = later (sym (ap (λ b. cond b (Some (named n x)) (find p tail)) e) ∙ found) in
        let number = there.2 in
        (suc there.0, there.1, omega (arith, number), there.3, there.4)

-- `main` of a program is such a function
pub main_is : (texts : List Checked) (k : ℕ) → main_of texts ≡ Some k → (f : InText Func) × (slice_get (functions_of texts) k ≡ Some f) × IsMain texts f
main_is texts k is = by_name (find p (names_of texts)) refl
  where
    fs : List (InText Func)
    fs = functions_of texts

    p : GlobalName → Bool
    p = is_export texts (codes "main")

    Answer : Type 0
    Answer = (f : InText Func) × (slice_get fs k ≡ Some f) × IsMain texts f

    of_function : (g : GlobalName) (n : ℕ) → find p (names_of texts) ≡ Some g → g.target ≡ Code (Defined n) → Answer
    of_function g n found at = by_form (is_main there.1.item) refl
      where
        there : (j : ℕ) × (f : InText Func) × (n ≡ 0 + j) × (slice_get fs j ≡ Some f) × (p (named n f) ≡ true)
        there = is_there p 0 fs (objects_of texts) 0 g n found at

        here : slice_get fs n ≡ Some there.1
        here = (let number : n ≡ there.0 = (let e = there.2 in omega (arith, e)) in ap (slice_get fs) number ∙ there.3)

        main : main_of texts ≡ main_at n (Some there.1)
        main =
            ap (λ o. main_in fs (option_or (option_map (λ (x : GlobalName). x.target) o) (predefined (codes "main")))) found
            ∙ (ap (λ t. main_in fs (Some t)) at ∙ ap (main_at n) here)

        by_form : (b : Bool) → is_main there.1.item ≡ b → Answer
        by_form true form =
            let one : Some n ≡ Some k = sym (main ∙ ap (λ b. cond b (Some n) None) form) ∙ is in
            let same = same_Some n k one in
            let parts = and_parts there.1.item.exported (bytes_eq (symbol_name texts there.1.text there.1.item.name) (codes "main")) there.4 in (
              there.1,
              ap (slice_get fs) (sym same) ∙ here,
              record { exported = parts.0; name = (bytes_eq-Decides (symbol_name texts there.1.text there.1.item.name) (codes "main")).0 parts.1; form = form },
            )
        by_form false form = none_some k (sym (main ∙ ap (λ b. cond b (Some n) None) form) ∙ is)

    by_target : (g : GlobalName) (t : Target) → find p (names_of texts) ≡ Some g → g.target ≡ t → Answer
    by_target g (Code (Defined n)) found at = of_function g n found at
    by_target g (Code SystemWrite) found at = none_some k (sym (ap (λ o. main_in fs (option_or (option_map (λ (x : GlobalName). x.target) o) (predefined (codes "main")))) found ∙ ap (λ t. main_in fs (Some t)) at) ∙ is)
    by_target g (Code SystemExit) found at = none_some k (sym (ap (λ o. main_in fs (option_or (option_map (λ (x : GlobalName). x.target) o) (predefined (codes "main")))) found ∙ ap (λ t. main_in fs (Some t)) at) ∙ is)
    by_target g (Object n) found at = none_some k (sym (ap (λ o. main_in fs (option_or (option_map (λ (x : GlobalName). x.target) o) (predefined (codes "main")))) found ∙ ap (λ t. main_in fs (Some t)) at) ∙ is)

    by_name : (o : Option GlobalName) → find p (names_of texts) ≡ o → Answer
    by_name None found = none_some k (sym (ap (λ o. main_in fs (option_or (option_map (λ (x : GlobalName). x.target) o) (predefined (codes "main")))) found) ∙ is)
    by_name (Some g) found = by_target g g.target found refl

pub programs_export_main : (texts : List Checked) (p : Program) → IsProgram texts p → (f : InText Func) × (slice_get p.functions p.main ≡ Some f) × IsMain texts f
programs_export_main texts p is =
    let found = main_is texts p.main is.main in
    (found.0, ap (λ fs. slice_get fs p.main) is.functions ∙ found.1, found.2)
