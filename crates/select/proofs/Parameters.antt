-- Parameters have low registers of their own.
use Rattle.std.proofs.Common.{◌≡◌, ℕ, suc, ◌+◌, ◌<◌, ◌≤◌, Bool, true, false, not, cond, nat_eq, nat_lt, ◌||◌, List, [], ◌∷◌, ◌++◌, length, map, refl, sym, ◌∙◌, ap, subst, arith, inl, inr, Some, None}
use Rattle.std.specs.List.{list_any, flat_map}
use Rattle.std.proofs.lemmas.Bool.Decides.{nat_tests}
use Rattle.std.proofs.lemmas.List.Recursion.{is_count_by}
use Rattle.std.proofs.lemmas.Bool.{and_from}
use Rattle.il_ast.specs.declared.function.Param.{Param}
use Rattle.il_ast.specs.declared.function.Func.{Func}
use Rattle.il_ast.specs.Prelude.{come_after, temps_in_block, phi_count}
use Rattle.il_types.specs.declared.rule.Rule.TheVariants.{DistinctLocals}
use Rattle.il_types.specs.declared.site.Site.{Site}
use Rattle.il_types.specs.Prelude.{when, times, first_repeated, param_sites, label_sites}
use Rattle.phi_copies.specs.Good.{IsGoodFunction}
use Rattle.phi_copies.specs.Endings.{Endings}
use Rattle.phi_copies.specs.Lowered.{IsLowered}
use Rattle.vcode.specs.declared.place.Destination.{Destination}
use Rattle.vcode.specs.Prelude.{are_low, are_distinct, virtual}
use Rattle.select.specs.Selected.{parameter_of, selected, classes_in, IsVirtual}
use Rattle.select.proofs.Regular.{few_params, regular}
use Rattle.select.proofs.Known.{known}
use Rattle.phi_copies.proofs.PhiRules.{not_broken, neither_first, none_among}
use Rattle.phi_copies.proofs.Members.{Among}

-- ---- low

temps_in : List Param → List ℕ
temps_in params = flat_map (λ (p : Param). p.temp ∷ []) params

AllUnder : ℕ → List ℕ → Type 0
AllUnder n [] = Unit {0}
AllUnder n (x ∷ xs) = (x < n) × AllUnder n xs

under_more : (n m : ℕ) (xs : List ℕ) → n ≤ m → AllUnder n xs → AllUnder m xs
unfolding AllUnder
under_more n m [] le h = tt
under_more n m (x ∷ xs) le h = let lt = h.0 in (omega (arith, lt, le), under_more n m xs le h.1)

-- numbers in order of first appearance are as many as there are, at most
come_low : (n k : ℕ) (xs ys : List ℕ) → come_after n (xs ++ ys) ≡ Some k → AllUnder (n + length xs) xs
unfolding AllUnder
come_low n k [] ys h = tt
come_low n k (x ∷ xs) ys h = by (come_low n k xs ys) (come_low (n + 1) k xs ys) (nat_lt x n) (nat_eq x n) refl refl h
  where
    by : (come_after n (xs ++ ys) ≡ Some k → AllUnder (n + length xs) xs) → (come_after (n + 1) (xs ++ ys) ≡ Some k → AllUnder (n + 1 + length xs) xs) → (b c : Bool) → nat_lt x n ≡ b → nat_eq x n ≡ c → cond b (come_after n (xs ++ ys)) (cond c (come_after (n + 1) (xs ++ ys)) None) ≡ Some k → AllUnder (n + length (x ∷ xs)) (x ∷ xs)
    by same next true c e f g =
        let lt : x < n = grind (arith, nat_tests) in
        (omega (arith, lt), under_more (n + length xs) (n + length (x ∷ xs)) xs (omega arith) (same g))
    by same next false true e f g =
        let is : x ≡ n = grind (arith, nat_tests) in
        (omega (arith, is), under_more (n + 1 + length xs) (n + length (x ∷ xs)) xs (omega arith) (next g))
    by same next false false e f g = absurd (let no : ⊥ = cc in no)

length_temps : (params : List Param) → length (temps_in params) ≡ length params
unfolding temps_in
length_temps [] = refl
length_temps (p ∷ params) = ap suc (length_temps params)

low_of : (params : List Param) → AllUnder 128 (temps_in params) → are_low (map parameter_of params) ≡ true
unfolding temps_in AllUnder
low_of [] h = refl
low_of (p ∷ params) h = and_from (nat_lt p.temp 128) _ (let lt = h.0 in let e : nat_lt p.temp 128 ≡ true = grind (arith, nat_tests) in e) (low_of params h.1)

are_low_all : (f : Func) → IsGoodFunction f → are_low (map parameter_of f.params) ≡ true
unfolding temps_in
are_low_all f good =
    let few = few_params f good in
    let long = length_temps f.params in
    low_of f.params
    (under_more (0 + length (temps_in f.params)) 128 (temps_in f.params) (omega (arith, few, long))
    (come_low 0 (length f.temps) (temps_in f.params) (flat_map temps_in_block f.blocks) f.temps_in_order))

-- ---- distinct

-- how many parameters have this temporary
named : ℕ → List Param → ℕ
named n [] = 0
named n (p ∷ ps) = cond (nat_eq p.temp n) (1 + named n ps) (named n ps)

named_sites : ℕ → List Site → ℕ
named_sites n [] = 0
named_sites n (s ∷ ss) = cond (nat_eq s.number n) (1 + named_sites n ss) (named_sites n ss)

same_count : (n : ℕ) (ps : List Param) → named n ps ≡ named_sites n (param_sites ps)
unfolding named named_sites
same_count n [] = refl
same_count n (p ∷ ps) = ap (λ k. cond (nat_eq p.temp n) (1 + k) k) (same_count n ps)

sites_counted : (n : ℕ) (ss : List Site) → named_sites n ss ≡ times n ss
unfolding named_sites
sites_counted n ss = is_count_by (named_sites n) (λ (s : Site). nat_eq s.number n) refl (λ s rest. refl) ss

counted : (n : ℕ) (ps : List Param) → named n ps ≡ times n (param_sites ps)
counted n ps = same_count n ps ∙ sites_counted n (param_sites ps)

more_named : (n : ℕ) (p : Param) (ps : List Param) → named n ps ≤ named n (p ∷ ps)
unfolding named
more_named n p ps = by (nat_eq p.temp n)
  where
    by : (b : Bool) → named n ps ≤ cond b (1 + named n ps) (named n ps)
    by true = omega arith
    by false = omega arith

-- one more parameter of the same register
once_named : (n : ℕ) (ps : List Param) → list_any (λ (e : Destination ℕ). nat_eq n e.place) (map parameter_of ps) ≡ true → 1 ≤ named n ps
unfolding named
once_named n [] h = absurd (let no : ⊥ = cc in no)
once_named n (p ∷ ps) h = by (nat_eq n p.temp) refl h (once_named n ps)
  where
    here : nat_eq n p.temp ≡ true → nat_eq p.temp n ≡ true
    here e = grind (arith, nat_tests)

    by : (b : Bool) → nat_eq n p.temp ≡ b → (b || list_any (λ (e : Destination ℕ). nat_eq n e.place) (map parameter_of ps)) ≡ true → (list_any (λ (e : Destination ℕ). nat_eq n e.place) (map parameter_of ps) ≡ true → 1 ≤ named n ps) → 1 ≤ cond (nat_eq p.temp n) (1 + named n ps) (named n ps)
    by true e g rest = subst (λ x. 1 ≤ cond x (1 + named n ps) (named n ps)) (sym (here e)) (omega arith)
    by false e g rest = let one = rest g in let more = more_named n p ps in omega (arith, one, more)

twice : (p : Param) (ps : List Param) → 1 ≤ named p.temp ps → 2 ≤ named p.temp (p ∷ ps)
unfolding named
twice p ps h =
    let e : nat_eq p.temp p.temp ≡ true = grind (arith, nat_tests) in
    subst (λ x. 2 ≤ cond x (1 + named p.temp ps) (named p.temp ps)) (sym e) (omega (arith, h))

distinct_of : (ps : List Param) → ((p : Param) → Among p ps → named p.temp ps ≤ 1) → are_distinct virtual (map parameter_of ps) ≡ true
distinct_of [] each = refl
distinct_of (p ∷ ps) each =
    and_from (not (list_any (λ (e : Destination ℕ). nat_eq p.temp e.place) (map parameter_of ps))) _
    (by (list_any (λ (e : Destination ℕ). nat_eq p.temp e.place) (map parameter_of ps)) refl)
    (distinct_of ps (λ q a. let few = each q (inr a) in let more = more_named q.temp p ps in omega (arith, few, more)))
  where
    by : (b : Bool) → list_any (λ (e : Destination ℕ). nat_eq p.temp e.place) (map parameter_of ps) ≡ b → not b ≡ true
    by true e = let few = each p (inl refl) in let some = twice p ps (once_named p.temp ps e) in absurd (omega (arith, few, some))
    by false e = refl

param_site : (ps : List Param) (p : Param) → Among p ps → Among (record { line = p.line; number = p.temp }) (param_sites ps)
param_site [] p h = absurd h
param_site (q ∷ ps) p (inl e) = inl (ap (λ (x : Param). record { line = x.line; number = x.temp }) e)
param_site (q ∷ ps) p (inr h) = inr (param_site ps p h)

are_distinct_all : (f : Func) → IsGoodFunction f → are_distinct virtual (map parameter_of f.params) ≡ true
are_distinct_all f good =
    let none = neither_first (first_repeated (param_sites f.params)) (first_repeated (label_sites f.blocks)) (good.rules DistinctLocals) in
    distinct_of f.params
    (λ p a.
    let once = not_broken (nat_lt 1 (times p.temp (param_sites f.params))) p.line (none_among (λ (s : Site). when (nat_lt 1 (times s.number (param_sites f.params))) s.line) (param_sites f.params) (record { line = p.line; number = p.temp }) none (param_site f.params p a)) in
    let few : times p.temp (param_sites f.params) ≤ 1 = grind (arith, nat_tests) in
    let same = counted p.temp f.params in
    omega (arith, few, same))

-- ---- all of it

pub is_virtual : (f : Func) (code : Endings) → IsGoodFunction f → IsLowered f code → IsVirtual (selected (classes_in f) f code) (length f.temps + phi_count f)
unfolding selected
is_virtual f code good is =
    record { regular = regular (classes_in f) f code good is; known = known (classes_in f) f code good is; low = are_low_all f good; distinct = are_distinct_all f good }
