-- Virtual registers hold what temporaries hold, words sign-extended.
use Rattle.std.proofs.Common.{◌≡◌, ℕ, zero, suc, ◌%◌, ◌^◌, Bool, true, false, cond, nat_eq, List, [], ◌∷◌, map, refl, sym, ◌∙◌, ap, subst, arith, slice_get, slice_set, Option, Some, None}
use Rattle.std.specs.Option.{option_map, option_and_then, option_flatten}
use Rattle.std.proofs.lemmas.Bool.Decides.{nat_tests}
use Rattle.std.proofs.lemmas.Int.{ints}
use Rattle.il_ast.specs.declared.operation.Class.{Class}
use Rattle.il_ast.specs.declared.operation.Class.TheVariants.{W, L}
use Rattle.il_ast.specs.declared.operand.Val.{Val}
use Rattle.il_ast.specs.declared.operand.Val.TheVariants.{Int, Temp, Global}
use Rattle.il_ast.specs.declared.operand.Arg.{Arg}
use Rattle.il_ast.specs.declared.value.Value.{Value}
use Rattle.il_ast.specs.declared.value.Value.TheVariants.{Integer, Pointer, Function}
use Rattle.il_ast.specs.Prelude.{in_place, same_class, value_at, operand, all_operands}
use Rattle.vcode.specs.declared.place.Operand.{Operand}
use Rattle.bits.specs.Words.{sign_extended}
use Rattle.vcode.specs.Prelude.{held, Values, virtual, put, value_of, read, read_all}
use Rattle.select.specs.Selected.{is_whole, word, operand_of, argument_of}
use Rattle.select.specs.Typed.{Classes, Fits, ArgsFit}
use Rattle.il_ast.proofs.Truth.{eq_zero_suc, eq_suc_zero, eq_suc_suc}
use Rattle.il_ast.proofs.Chosen.{same_chosen}
use Rattle.select.proofs.WholeWords.{extended_low}

-- what a temporary holds, its register holds in the form of its class
abbrev pub Holds : Classes → List (Option Value) → Values ℕ → Type 0
Holds classes temps values = (t : ℕ) (v : Value) → option_flatten (slice_get temps t) ≡ Some v → values t ≡ Some (held (classes t) v)

-- ---- writing

abbrev pub Written : (same : Bool) (x v : Value) (old : Option Value) → Type 0
Written true x v old = x ≡ v
Written false x v old = old ≡ Some v

pub written : (xs : List (Option Value)) (t q : ℕ) (x v : Value) → option_flatten (slice_get (slice_set xs t (Some x)) q) ≡ Some v → Written (nat_eq q t) x v (option_flatten (slice_get xs q))
written [] t q x v h = absurd (let no : ⊥ = cc in no)
written (y ∷ xs) zero zero x v h = same_chosen h
written (y ∷ xs) zero (suc q) x v h = subst (λ b. Written b x v (option_flatten (slice_get xs q))) (sym (eq_suc_zero q)) h
written (y ∷ xs) (suc t) zero x v h = subst (λ b. Written b x v (option_flatten (Some y))) (sym (eq_zero_suc t)) h
written (y ∷ xs) (suc t) (suc q) x v h = subst (λ b. Written b x v (option_flatten (slice_get xs q))) (sym (eq_suc_suc q t)) (written xs t q x v h)

pub put_holds : (classes : Classes) (temps : List (Option Value)) (values : Values ℕ) (t : ℕ) (c : Class) (x : Value) → classes t ≡ c → Holds classes temps values → Holds classes (slice_set temps t (Some x)) (put virtual t (held c x) values)
put_holds classes temps values t c x class holds q v h = by (nat_eq q t) refl (written temps t q x v h)
  where
    by : (b : Bool) → nat_eq q t ≡ b → Written b x v (option_flatten (slice_get temps q)) → cond b (Some (held c x)) (values q) ≡ Some (held (classes q) v)
    by true e w =
        let same : q ≡ t = grind (arith, nat_tests) in
        ap (λ k. Some (held k x)) (sym class ∙ ap classes (sym same)) ∙ ap (λ y. Some (held (classes q) y)) w
    by false e w = holds q v w

-- ---- reading

-- the register's value, which a place of this class reads as u
pub record Reads (globals : List Value) (values : Values ℕ) (a : Operand ℕ) (k : Class) (u : Value) : Type 0 where
  pub value : Value
  pub is : value_of globals values a ≡ Some value
  pub read_as : in_place k value ≡ Some u

-- a word is read as it was given, whichever class it was written in
words_are_read : (c : Class) (v : Value) → in_place W (held c v) ≡ in_place W v
words_are_read W (Integer n) = ap (λ k. Some (Integer k)) (extended_low (n % 2 ^ 32) (omega arith))
words_are_read W (Pointer b o) = refl
words_are_read W (Function f) = refl
words_are_read L v = refl

placed : (k c : Class) (v u : Value) → (k ≡ L → c ≡ L) → in_place k v ≡ Some u → in_place k (held c v) ≡ Some u
placed W c v u long h = words_are_read c v ∙ h
placed L c v u long h = ap (λ x. Some (held x v)) (long refl) ∙ h

reads_value : (classes : Classes) (globals : List Value) (temps : List (Option Value)) (values : Values ℕ) (k : Class) (a : Val) (u : Value) → Fits classes k a → Holds classes temps values → (o : Option Value) → value_at globals temps a ≡ o → option_and_then (in_place k) o ≡ Some u → Reads globals values (operand_of a) k u
reads_value classes globals temps values k a u fits holds None e h = absurd (let no : ⊥ = cc in no)
reads_value classes globals temps values k (Int n) u fits holds (Some v) e h = record { value = v; is = e; read_as = h }
reads_value classes globals temps values k (Global g) u fits holds (Some v) e h = record { value = v; is = e; read_as = h }
reads_value classes globals temps values W (Temp t) u fits holds (Some v) e h =
    record { value = held (classes t) v; is = holds t v e; read_as = placed W (classes t) v u (λ no. absurd (let n : ⊥ = cc in n)) h }
reads_value classes globals temps values L (Temp t) u fits holds (Some v) e h =
    record { value = held (classes t) v; is = holds t v e; read_as = placed L (classes t) v u (λ same. fits) h }

pub reads : (classes : Classes) (globals : List Value) (temps : List (Option Value)) (values : Values ℕ) (k : Class) (a : Val) (u : Value) → Fits classes k a → Holds classes temps values → operand globals temps k a ≡ Some u → Reads globals values (operand_of a) k u
reads classes globals temps values k a u fits holds h = reads_value classes globals temps values k a u fits holds (value_at globals temps a) refl h

-- read in a place of its class
pub read_same : (globals : List Value) (values : Values ℕ) (a : Operand ℕ) (k : Class) (u : Value) → Reads globals values a k u → read globals values k a ≡ Some u
read_same globals values a k u r = ap (option_and_then (in_place k)) r.is ∙ r.read_as

-- a long place reads what is there
pub long_same : (globals : List Value) (values : Values ℕ) (a : Operand ℕ) (u : Value) → Reads globals values a L u → value_of globals values a ≡ Some u
long_same globals values a u r = r.is ∙ r.read_as

all_read : (classes : Classes) (globals : List Value) (temps : List (Option Value)) (values : Values ℕ) → Holds classes temps values → (args : List Arg) (vs : List Value) → ArgsFit classes args → all_operands globals temps args ≡ Some vs → read_all globals values (map argument_of args) ≡ Some vs
all_read classes globals temps values holds [] vs fits h = h
all_read classes globals temps values holds (a ∷ args) vs fits h =
    by (all_read classes globals temps values holds args) (operand globals temps a.class a.value) (all_operands globals temps args) refl refl h
  where
    by : ((ws : List Value) → ArgsFit classes args → all_operands globals temps args ≡ Some ws → read_all globals values (map argument_of args) ≡ Some ws) → (o : Option Value) (os : Option (List Value)) → operand globals temps a.class a.value ≡ o → all_operands globals temps args ≡ os → option_and_then (λ v. option_map (λ ws. v ∷ ws) os) o ≡ Some vs → read_all globals values (map argument_of (a ∷ args)) ≡ Some vs
    by rest None os e f g = absurd (let no : ⊥ = cc in no)
    by rest (Some v) None e f g = absurd (let no : ⊥ = cc in no)
    by rest (Some v) (Some ws) e f g =
        ap (option_and_then (λ x. option_map (λ xs. x ∷ xs) (read_all globals values (map argument_of args))))
        (read_same globals values (operand_of a.value) a.class v (reads classes globals temps values a.class a.value v fits.0 holds e))
        ∙ ap (option_map (λ xs. v ∷ xs)) (rest ws fits.1 f)
        ∙ g

pub arguments_read : (classes : Classes) (globals : List Value) (temps : List (Option Value)) (values : Values ℕ) → Holds classes temps values → (args : List Arg) (vs : List Value) → ArgsFit classes args → all_operands globals temps args ≡ Some vs → read_all globals values (map argument_of args) ≡ Some vs
arguments_read = all_read

-- ---- words that stand sign-extended

-- an operand whose word stands sign-extended has the word u so
abbrev pub Stands : Classes → List Value → Values ℕ → Class → Operand ℕ → Value → Type 0
Stands classes globals values W a u = is_whole classes a ≡ true → value_of globals values (word a) ≡ Some (held W u)
Stands classes globals values L a u = Unit {0}

-- what a word's place reads stands there as what it reads
read_held : (v u : Value) → in_place W v ≡ Some u → held W v ≡ held W u
read_held (Integer n) u h =
    let again : n % 2 ^ 32 ≡ n % 2 ^ 32 % 2 ^ 32 = omega arith in
    ap (λ k. Integer (sign_extended k)) again ∙ ap (held W) (same_chosen h)
read_held (Pointer b o) u h = absurd (let no : ⊥ = cc in no)
read_held (Function f) u h = absurd (let no : ⊥ = cc in no)

extended_fits : (n : ℕ) → sign_extended (n % 2 ^ 32) % 2 ^ 64 ≡ sign_extended (n % 2 ^ 64 % 2 ^ 32 % 2 ^ 32)
extended_fits n = grind (arith, ints)

stands_value : (classes : Classes) (globals : List Value) (temps : List (Option Value)) (values : Values ℕ) (a : Val) (u : Value) → Holds classes temps values → (o : Option Value) → value_at globals temps a ≡ o → option_and_then (in_place W) o ≡ Some u → Stands classes globals values W (operand_of a) u
stands_value classes globals temps values a u holds None e h whole = absurd (let no : ⊥ = cc in no)
stands_value classes globals temps values (Int n) u holds (Some v) e h whole =
    ap (λ k. Some (Integer k)) (extended_fits n) ∙ ap (λ x. Some (held W x)) (same_chosen (ap (option_and_then (in_place W)) e ∙ h))
stands_value classes globals temps values (Global g) u holds (Some v) e h whole = absurd (let no : ⊥ = cc in no)
stands_value classes globals temps values (Temp t) u holds (Some v) e h whole =
    holds t v e ∙ ap (λ k. Some (held k v)) (by (classes t) whole) ∙ ap Some (read_held v u h)
  where
    by : (k : Class) → same_class k W ≡ true → k ≡ W
    by W same = refl
    by L same = absurd (let no : ⊥ = cc in no)

pub stands : (classes : Classes) (globals : List Value) (temps : List (Option Value)) (values : Values ℕ) (k : Class) (a : Val) (u : Value) → Holds classes temps values → operand globals temps k a ≡ Some u → Stands classes globals values k (operand_of a) u
stands classes globals temps values W a u holds h = stands_value classes globals temps values a u holds (value_at globals temps a) refl h
stands classes globals temps values L a u holds h = tt
