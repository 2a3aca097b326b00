-- The table of exported names, one name further.
use Rattle.std.proofs.Common.{◌≡◌, ℕ, zero, suc, ◌+◌, ◌<◌, ◌≤◌, Bool, true, false, cond, List, [], ◌∷◌, ◌++◌, length, take, get_or, refl, ap, sym, ◌∙◌, arith, count_by, drop, ◌&&◌, Option, Some, None, codes, find, bytes_eq}
use Rattle.std.proofs.lemmas.List.Sums.{sum_by-append}
use Rattle.std.specs.Option.{option_map, option_or, is_some}
use Rattle.std.proofs.lemmas.List.{take_more, take-append-drop}
use Rattle.std.proofs.lemmas.List.Folds.{find-append}
use Rattle.std.proofs.lemmas.Slice.Eq.{bytes_eq-Decides}
use Rattle.il_ast.specs.declared.program.Target.{Target}
use Rattle.il_ast.specs.declared.program.Target.TheVariants.{Code}
use Rattle.il_ast.specs.declared.value.Callee.TheVariants.{SystemWrite, SystemExit}
use Rattle.il_types.specs.declared.checked.Checked.{Checked}
use Rattle.obj_link.specs.declared.linking.names.GlobalName.{GlobalName}
use Rattle.obj_link.specs.Prelude.{symbol_name, is_export, exported, predefined, visible, times_exported, is_free}

-- 1 for a name that the table has
abbrev pub once : Option Target → ℕ
once None = 0
once (Some t) = 1

or_assoc : {A : Type 0} (a b c : Option A) → b ≡ None → option_or (option_or a b) c ≡ option_or a c
or_assoc None b c e = ap (λ o. option_or o c) e
or_assoc (Some x) b c e = refl

pub map_or : (a b : Option GlobalName) → option_map (λ (g : GlobalName). g.target) (option_or a b) ≡ option_or (option_map (λ (g : GlobalName). g.target) a) (option_map (λ (g : GlobalName). g.target) b)
map_or None b = refl
map_or (Some x) b = refl

exported_more : (texts : List Checked) (names : List GlobalName) (g : GlobalName) (q : List ℕ) → exported texts (names ++ g ∷ []) q ≡ option_or (exported texts names q) (cond (is_export texts q g) (Some g.target) None)
exported_more texts names g q =
    ap (option_map (λ (x : GlobalName). x.target)) (find-append (is_export texts q) names (g ∷ []))
    ∙ (map_or (find (is_export texts q) names) (find (is_export texts q) (g ∷ []))
    ∙ ap (option_or (exported texts names q)) (by (is_export texts q g)))
  where
    by : (b : Bool) → option_map (λ (x : GlobalName). x.target) (cond b (Some g) None) ≡ cond b (Some g.target) None
    by true = refl
    by false = refl

visible_other : (texts : List Checked) (names : List GlobalName) (g : GlobalName) (q : List ℕ) → is_export texts q g ≡ false → visible texts (names ++ g ∷ []) q ≡ visible texts names q
visible_other texts names g q e =
    ap (λ o. option_or o (predefined q)) (exported_more texts names g q)
    ∙ or_assoc (exported texts names q) (cond (is_export texts q g) (Some g.target) None) (predefined q) (ap (λ b. cond b (Some g.target) None) e)

none_first : (a b c : Option Target) → option_or a c ≡ None → option_or (option_or a b) c ≡ option_or b c
none_first None b c e = refl
none_first (Some x) b c e = cc

visible_here : (texts : List Checked) (names : List GlobalName) (g : GlobalName) (q : List ℕ) → is_export texts q g ≡ true → visible texts names q ≡ None → visible texts (names ++ g ∷ []) q ≡ Some g.target
visible_here texts names g q e n =
    ap (λ o. option_or o (predefined q)) (exported_more texts names g q)
    ∙ (none_first (exported texts names q) (cond (is_export texts q g) (Some g.target) None) (predefined q) n
    ∙ ap (λ b. option_or (cond b (Some g.target) None) (predefined q)) e)

count_more : {X : Type 0} (p : X → Bool) (xs : List X) (x : X) → count_by p (xs ++ x ∷ []) ≡ count_by p xs + cond (p x) 1 0
count_more p xs x = sum_by-append (λ y. cond (p y) 1 0) xs (x ∷ []) ∙ omega arith

times_more : (texts : List Checked) (names : List GlobalName) (g : GlobalName) (q : List ℕ) → times_exported texts (names ++ g ∷ []) q ≡ times_exported texts names q + cond (is_export texts q g) 1 0
times_more texts names g q = let e = count_more (is_export texts q) names g in omega (arith, e)

-- a name of which the definition exports nothing more
not_exported : (texts : List Checked) (g : GlobalName) (q : List ℕ) → g.exported ≡ false → is_export texts q g ≡ false
not_exported texts g q e = ap (λ b. b && bytes_eq (symbol_name texts g.text g.symbol) q) e

exports_its_name : (texts : List Checked) (g : GlobalName) (name : List ℕ) → name ≡ symbol_name texts g.text g.symbol → (q : List ℕ) → g.exported ≡ true → is_export texts q g ≡ bytes_eq name q
exports_its_name texts g name is q e = ap (λ b. b && bytes_eq (symbol_name texts g.text g.symbol) q) e ∙ ap (λ n. bytes_eq n q) (sym is)

-- a table of names, and how often each is exported
pub record Tabled (texts : List Checked) (names : List GlobalName) (table : List ℕ → Option Target) : Type 0 where
  pub seen : (q : List ℕ) → table q ≡ visible texts names q
  pub counted : (q : List ℕ) → times_exported texts names q ≡ once (table q)

pub tabled_none : (texts : List Checked) (table : List ℕ → Option Target) → ((q : List ℕ) → table q ≡ predefined q) → Tabled texts [] table
tabled_none texts table h = record { seen = h; counted = λ q. by (predefined q) ∙ ap once (sym (h q)) }
  where
    by : (o : Option Target) → 0 + cond (is_some o) 1 0 ≡ once o
    by None = refl
    by (Some t) = refl

pub tabled_hidden : (texts : List Checked) (names : List GlobalName) (g : GlobalName) (table : List ℕ → Option Target) → Tabled texts names table → g.exported ≡ false → Tabled texts (names ++ g ∷ []) table
tabled_hidden texts names g table h e =
    record {
      seen = λ q. h.seen q ∙ sym (visible_other texts names g q (not_exported texts g q e));
      counted = λ q. times_more texts names g q ∙ (ap (λ b. times_exported texts names q + cond b 1 0) (not_exported texts g q e) ∙ (omega arith ∙ h.counted q));
    }

free_none : (o : Option Target) → is_free o ≡ true → o ≡ None
free_none None e = refl
free_none (Some t) e = cc

taken_once : (o : Option Target) → is_free o ≡ false → once o ≡ 1
taken_once None e = cc
taken_once (Some t) e = refl

pub tabled_declared : (texts : List Checked) (names : List GlobalName) (g : GlobalName) (name : List ℕ) → name ≡ symbol_name texts g.text g.symbol → (table after : List ℕ → Option Target) → Tabled texts names table → g.exported ≡ true → is_free (table name) ≡ true → ((q : List ℕ) → after q ≡ cond (bytes_eq name q) (Some g.target) (table q)) → Tabled texts (names ++ g ∷ []) after
tabled_declared texts names g name is table after h e free set =
    record { seen = λ q. seen_at q _ refl; counted = λ q. counted_at q _ refl }
  where
    absent : (q : List ℕ) → bytes_eq name q ≡ true → table q ≡ None
    absent q b = ap table (sym ((bytes_eq-Decides name q).0 b)) ∙ free_none (table name) free

    seen_at : (q : List ℕ) (b : Bool) → bytes_eq name q ≡ b → after q ≡ visible texts (names ++ g ∷ []) q
    seen_at q true b =
        set q ∙ (ap (λ x. cond x (Some g.target) (table q)) b
        ∙ sym (visible_here texts names g q (exports_its_name texts g name is q e ∙ b) (sym (h.seen q) ∙ absent q b)))
    seen_at q false b =
        set q ∙ (ap (λ x. cond x (Some g.target) (table q)) b
        ∙ (h.seen q ∙ sym (visible_other texts names g q (exports_its_name texts g name is q e ∙ b))))

    counted_at : (q : List ℕ) (b : Bool) → bytes_eq name q ≡ b → times_exported texts (names ++ g ∷ []) q ≡ once (after q)
    counted_at q true b =
        let more = times_more texts names g q in
        let one_more : ℕ = cond (is_export texts q g) 1 0 in let here : one_more ≡ suc zero = ap {B = ℕ} (λ x. cond x 1 0) (exports_its_name texts g name is q e ∙ b) in
        let none = h.counted q ∙ ap once (absent q b) in
        let one = ap once (set q ∙ ap (λ x. cond x (Some g.target) (table q)) b) in
        omega (arith, more, here, none, one)
    counted_at q false b =
        let more = times_more texts names g q in
        let one_more : ℕ = cond (is_export texts q g) 1 0 in let here : one_more ≡ zero = ap {B = ℕ} (λ x. cond x 1 0) (exports_its_name texts g name is q e ∙ b) in
        let old = h.counted q in
        let same = ap once (set q ∙ ap (λ x. cond x (Some g.target) (table q)) b) in
        omega (arith, more, here, old, same)

-- a name that the table has already is exported twice
times_from : (texts : List Checked) (q : List ℕ) (xs ys : List GlobalName) → times_exported texts xs q ≤ times_exported texts (xs ++ ys) q
times_from texts q xs ys = let e = sum_by-append (λ y. cond (is_export texts q y) 1 0) xs ys in omega (arith, e)

pub exported_again : (texts : List Checked) (names : List GlobalName) (i : ℕ) (g : GlobalName) (name : List ℕ) → name ≡ symbol_name texts g.text g.symbol → (table : List ℕ → Option Target) → i < length names → g ≡ get_or names i g → Tabled texts (take i names) table → g.exported ≡ true → is_free (table name) ≡ false → 1 < times_exported texts names name
exported_again texts names i g name is table lt at h e taken =
    let more = times_more texts (take i names) g name in
    let one_more : ℕ = cond (is_export texts name g) 1 0 in let here : one_more ≡ suc zero = ap {B = ℕ} (λ x. cond x 1 0) (exports_its_name texts g name is name e ∙ (bytes_eq-Decides name name).1 refl) in
    let old = h.counted name ∙ taken_once (table name) taken in
    let whole : take (i + 1) names ++ drop (i + 1) names ≡ names = take-append-drop (i + 1) names in
    let front : take (i + 1) names ≡ take i names ++ g ∷ [] = take_more names i g lt ∙ ap (λ x. take i names ++ x ∷ []) (sym at) in
    let grown = times_from texts name (take (i + 1) names) (drop (i + 1) names) in
    let all = ap (λ xs. times_exported texts xs name) whole in
    let two = ap (λ xs. times_exported texts xs name) front in
    omega (arith, more, here, old, grown, all, two)

pub predefined_seen : (f g h : List ℕ → Option Target) (q : List ℕ) → f q ≡ None → g q ≡ cond (bytes_eq (codes "exit") q) (Some (Code SystemExit)) (f q) → h q ≡ cond (bytes_eq (codes "write") q) (Some (Code SystemWrite)) (g q) → h q ≡ predefined q
predefined_seen f g h q a b c = c ∙ ap (cond (bytes_eq (codes "write") q) (Some (Code SystemWrite))) (b ∙ ap (cond (bytes_eq (codes "exit") q) (Some (Code SystemExit))) a)

pub once_few : {n : ℕ} (o : Option Target) → n ≡ once o → n ≤ 1
once_few None e = omega arith
once_few (Some t) e = omega arith
