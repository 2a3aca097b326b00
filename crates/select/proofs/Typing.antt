-- In a lowered function of a good text each temporary has one class, and each operand fits its place.
use Rattle.std.proofs.Common.{◌≡◌, ℕ, zero, suc, ◌-◌, ◌<◌, Bool, true, false, not, cond, nat_eq, nat_lt, ◌&&◌, ◌||◌, List, [], ◌∷◌, length, refl, sym, ◌∙◌, ap, subst, arith, ◌⊎◌, inl, inr, slice_get, Some, None}
use Rattle.std.specs.List.{flat_map, list_any}
use Rattle.std.proofs.lemmas.Bool.Decides.{nat_tests}
use Rattle.std.proofs.lemmas.Bool.{and_from, not-true, not-false, or_cases}
use Rattle.il_ast.specs.declared.operation.Class.{Class}
use Rattle.il_ast.specs.declared.operation.Class.TheVariants.{W, L}
use Rattle.il_ast.specs.declared.operand.Val.{Val}
use Rattle.il_ast.specs.declared.operand.Val.TheVariants.{Int, Temp, Global}
use Rattle.il_ast.specs.declared.function.Func.{Func}
use Rattle.il_ast.specs.Prelude.{same_class}
use Rattle.il_types.specs.declared.site.Definer.{Definer}
use Rattle.il_types.specs.declared.site.Operand.{Operand}
use Rattle.il_types.specs.Prelude.{when, first, is_given, definers_of, operands_of, two_types, misplaced, undefined_temp, fits, is_defined, has_wrong_result, in_insts, in_returns}
use Rattle.select.specs.Typed.{Fits}
use Rattle.select.specs.Selected.{class_given, or_long, all_phis, classes_in}
use Rattle.il_ast.proofs.Truth.{and_first}
use Rattle.il_ast.proofs.Alike.{class_itself}
use Rattle.phi_copies.proofs.PhiRules.{not_broken, neither_first, none_among, any_among}
use Rattle.phi_copies.proofs.Members.{Among, among_left, among_right}

-- ---- what a list has

pub among_at : {A B : Type 0} (f : A → List B) (ys : List A) (k : ℕ) (y : A) (x : B) → slice_get ys k ≡ Some y → Among x (f y) → Among x (flat_map f ys)
among_at f [] k y x e h = absurd (let no : ⊥ = cc in no)
among_at f (z ∷ ys) zero y x e h =
    let same : z ≡ y = cc in among_left x (f z) (flat_map f ys) (subst (λ v. Among x (f v)) (sym same) h)
among_at f (z ∷ ys) (suc k) y x e h = among_right x (f z) (flat_map f ys) (among_at f ys k y x e h)

-- ---- rules that nothing breaks

record Found {A : Type 0} (p : A → Bool) (xs : List A) : Type 0 where
  item : A
  there : Among item xs
  passes : p item ≡ true

found_any : {A : Type 0} (p : A → Bool) (xs : List A) → list_any p xs ≡ true → Found p xs
found_any p [] h = absurd (let no : ⊥ = cc in no)
found_any p (y ∷ xs) h = by (p y) refl h (found_any p xs)
  where
    by : (b : Bool) → p y ≡ b → (b || list_any p xs) ≡ true → (list_any p xs ≡ true → Found p xs) → Found p (y ∷ xs)
    by true e g rest = record { item = y; there = inl refl; passes = e }
    by false e g rest = let r = rest g in record { item = r.item; there = inr r.there; passes = r.passes }

-- ---- definers

given : (f : Func) (d : Definer) → Among d (definers_of f) → is_given d.class d.temp (definers_of f) ≡ true
given f d a =
    any_among (λ (e : Definer). nat_eq e.temp d.temp && same_class e.class d.class) (definers_of f) d
    (and_from (nat_eq d.temp d.temp) (same_class d.class d.class) (let e : nat_eq d.temp d.temp ≡ true = grind (arith, nat_tests) in e) (class_itself d.class)) a

-- a definer's class is its temporary's
pub class_is : (f : Func) (d : Definer) → two_types f ≡ None → Among d (definers_of f) → class_given f d.temp ≡ d.class
class_is f d one a = by d.class refl
  where
    apart : (is_given W d.temp (definers_of f) && is_given L d.temp (definers_of f)) ≡ false
    apart = not_broken _ d.line (none_among (λ (e : Definer). when (is_given W e.temp (definers_of f) && is_given L e.temp (definers_of f)) e.line) (definers_of f) d one a)

    not_both : (x y : Bool) → (x && y) ≡ false → y ≡ true → x ≡ false
    not_both true y h k = sym k ∙ h
    not_both false y h k = refl

    by : (c : Class) → d.class ≡ c → class_given f d.temp ≡ c
    by W e = ap (λ x. cond x W L) (subst (λ c. is_given c d.temp (definers_of f) ≡ true) e (given f d a))
    by L e = ap (λ x. cond x W L) (not_both (is_given W d.temp (definers_of f)) (is_given L d.temp (definers_of f)) apart (subst (λ c. is_given c d.temp (definers_of f) ≡ true) e (given f d a)))

-- ---- operands

-- the temporaries that are assigned are the function's own
abbrev pub OwnTemps : Func → Type 0
OwnTemps f = (d : Definer) → Among d (definers_of f) → d.temp < length f.temps

pub own_class : (f : Func) (t : ℕ) → t < length f.temps → classes_in f t ≡ class_given f t
own_class f t lt = let e : nat_lt t (length f.temps) ≡ true = grind (arith, nat_tests) in ap (λ b. cond b (class_given f t) (or_long (slice_get (all_phis f.blocks) (t - length f.temps)))) e

pub assigned_own : (f : Func) → OwnTemps f → (c : Class) (t : ℕ) → is_given c t (definers_of f) ≡ true → t < length f.temps
assigned_own f own c t h =
    let r = found_any (λ (d : Definer). nat_eq d.temp t && same_class d.class c) (definers_of f) h in
    let e = and_first (nat_eq r.item.temp t) (same_class r.item.class c) r.passes in
    let is : r.item.temp ≡ t = grind (arith, nat_tests) in
    subst (λ n. n < length f.temps) is (own r.item r.there)

-- an operand that fits by the rules, of a temporary that is assigned
pub value_fits : (f : Func) → OwnTemps f → (c : Class) (a : Val) → fits (definers_of f) c a ≡ true → is_defined (definers_of f) a ≡ true → Fits (classes_in f) c a
value_fits f own W a h d = tt
value_fits f own L (Int n) h d = tt
value_fits f own L (Global g) h d = tt
value_fits f own L (Temp t) h d = by (or_cases (is_given W t (definers_of f)) (is_given L t (definers_of f)) d)
  where
    long : t < length f.temps → classes_in f t ≡ L
    long lt = own_class f t lt ∙ ap (λ b. cond b W L) (not-true (is_given W t (definers_of f)) h)

    by : (is_given W t (definers_of f) ≡ true) ⊎ (is_given L t (definers_of f) ≡ true) → classes_in f t ≡ L
    by (inl e) = long (assigned_own f own W t e)
    by (inr e) = long (assigned_own f own L t e)

pub operand_fits : (f : Func) → OwnTemps f → misplaced f ≡ None → undefined_temp f ≡ None → (o : Operand) → Among o (operands_of f) → Fits (classes_in f) o.class o.value
operand_fits f own placed defined o a =
    let fit = neither_first (first (λ (x : Operand). when (not (fits (definers_of f) x.class x.value)) x.line) (operands_of f)) (in_insts has_wrong_result f.blocks) placed in
    let def = neither_first (first (λ (x : Operand). when (not (is_defined (definers_of f) x.value)) x.line) (operands_of f)) (in_returns (λ v. not (is_defined (definers_of f) v)) f.blocks) defined in
    value_fits f own o.class o.value
    (not-false (fits (definers_of f) o.class o.value) (not_broken _ o.line (none_among (λ (x : Operand). when (not (fits (definers_of f) x.class x.value)) x.line) (operands_of f) o fit a)))
    (not-false (is_defined (definers_of f) o.value) (not_broken _ o.line (none_among (λ (x : Operand). when (not (is_defined (definers_of f) x.value)) x.line) (operands_of f) o def a)))
