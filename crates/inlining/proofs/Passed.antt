-- What is passed, and the lines that bring it to a register.
use Rattle.std.proofs.Common.{◌≡◌, ℕ, ◌+◌, ◌%◌, ◌^◌, Bool, true, false, if◌then◌else◌, List, [], ◌∷◌, map, Option, Some, None, refl, sym, ◌∙◌, ap, subst, arith, option_map, option_and_then, eqb-true}
use Rattle.std.specs.Int.{w32, w64, cast_signed, cast_unsigned}
use Rattle.il_ast.specs.declared.operation.Class.{Class}
use Rattle.il_ast.specs.declared.operation.Class.TheVariants.{W, L}
use Rattle.il_ast.specs.declared.value.Value.{Value}
use Rattle.il_ast.specs.declared.value.Value.TheVariants.{Integer, Pointer, Function}
use Rattle.il_ast.specs.Prelude.{in_place, Memory, Passes, AreArgs, result_fits}
use Rattle.rv_isa.specs.declared.instruction.RegWOp.TheVariants.{Addw}
use Rattle.vcode.specs.declared.place.Operand.{Operand}
use Rattle.vcode.specs.declared.place.Argument.{Argument}
use Rattle.vcode.specs.declared.place.Extension.{Extension}
use Rattle.vcode.specs.declared.place.Extension.TheVariants.{Made, Claimed}
use Rattle.vcode.specs.declared.line.Operation.TheVariants.{RegW}
use Rattle.vcode.specs.Prelude.{held, is_extended, stands_extended, passed, operate, Values, value_of, read_argument, read_all, operated, line_writes, Gives, act}
use Rattle.inlining.specs.InPlace.{brought}
use Rattle.il_ast.proofs.Alike.{same_class_is}
use Rattle.il_ast.proofs.Wrapping.{low_twice}

-- ---- numbers

-- ---- a value

word_passes : (x v : Value) → in_place W x ≡ Some v → in_place W v ≡ Some v
word_passes (Integer n) v h =
    let same : Integer (n % 2 ^ 32) ≡ v = cc in
    subst (λ (u : Value). in_place W u ≡ Some u) same (ap (λ k. Some (Integer k)) (low_twice n))
word_passes (Pointer b o) v h = absurd (let no : ⊥ = cc in no)
word_passes (Function f) v h = absurd (let no : ⊥ = cc in no)

claimed_word : (b : Bool) (x v : Value) → (if b then in_place W x else None) ≡ Some v → in_place W x ≡ Some v
claimed_word true x v h = h
claimed_word false x v h = absurd (let no : ⊥ = cc in no)

-- what is passed passes as it is
pub passed_passes : (e : Extension) (k : Class) (x v : Value) → passed e k x ≡ Some v → Passes k v
passed_passes Made W x v h = word_passes x v h
passed_passes Claimed W x v h = word_passes x v (claimed_word (stands_extended x) x v h)
passed_passes Made L x v h = refl
passed_passes Claimed L x v h = refl

-- ---- a list of values

pub record Parts (o : Option Value) (r : Option (List Value)) (vs : List Value) : Type 0 where
  pub v : Value
  pub ws : List Value
  pub first : o ≡ Some v
  pub rest : r ≡ Some ws
  pub is : vs ≡ v ∷ ws

pub parts_of : (o : Option Value) (r : Option (List Value)) (vs : List Value) → option_and_then (λ v. option_map (λ ws. v ∷ ws) r) o ≡ Some vs → Parts o r vs
parts_of None r vs h = absurd (let no : ⊥ = cc in no)
parts_of (Some v) None vs h = absurd (let no : ⊥ = cc in no)
parts_of (Some v) (Some ws) vs h = record { v = v; ws = ws; first = refl; rest = refl; is = cc }

pub args_are : (globals : List Value) (values : Values ℕ) (args : List (Argument ℕ)) (vs : List Value) → read_all globals values args ≡ Some vs → AreArgs (map (λ (a : Argument ℕ). a.class) args) vs
args_are globals values [] [] h = tt
args_are globals values [] (v ∷ vs) h = absurd (let no : ⊥ = cc in no)
args_are globals values (a ∷ args) vs h =
    let p = parts_of (read_argument globals values a) (read_all globals values args) vs h in
    subst (AreArgs (a.class ∷ map (λ (b : Argument ℕ). b.class) args)) (sym p.is)
    (one_passes a.extension a.class (value_of globals values a.value) p.v p.first, args_are globals values args p.ws p.rest)
  where
    one_passes : (e : Extension) (k : Class) (o : Option Value) (v : Value) → option_and_then (passed e k) o ≡ Some v → Passes k v
    one_passes e k None v h = absurd (let no : ⊥ = cc in no)
    one_passes e k (Some x) v h = passed_passes e k x v h

-- the class of a result that is wanted is the callee's
pub result_is : (c d : Class) → result_fits (Some c) (Some d) ≡ true → c ≡ d
result_is = same_class_is

-- ---- the line that brings it

word_made : (m : Memory) (o : Option Value) (v : Value) → option_and_then (passed Made W) o ≡ Some v → operated m (RegW Addw) o (Some (Integer (0 % 2 ^ 64))) ≡ Some (held W v)
unfolding operate
word_made m None v h = absurd (let no : ⊥ = cc in no)
word_made m (Some (Integer n)) v h =
    let same : Integer (n % 2 ^ 32) ≡ v = cc in
    let sum : n % 2 ^ 32 + 0 ≡ n % 2 ^ 32 = omega arith in
    ap (λ k. Some (held W (Integer k))) sum ∙ ap (λ u. Some (held W u)) same
word_made m (Some (Pointer b o)) v h = absurd (let no : ⊥ = cc in no)
word_made m (Some (Function f)) v h = absurd (let no : ⊥ = cc in no)

extended_held : (n : ℕ) → is_extended n ≡ true → held W (Integer n) ≡ Integer n
extended_held n h = ap Integer (eqb-true _ _ h)

held_low : (n : ℕ) → held W (Integer (n % 2 ^ 32)) ≡ held W (Integer n)
held_low n = held_same (n % 2 ^ 32) n (low_twice n)
  where
    held_same : (a b : ℕ) → a % 2 ^ 32 ≡ b % 2 ^ 32 → held W (Integer a) ≡ held W (Integer b)
    held_same a b e = ap (λ k. Integer (cast_unsigned w64 (cast_signed w32 k))) e

claimed_stands : (b : Bool) (x : Option Value) (v : Value) → (if b then x else None) ≡ Some v → b ≡ true
claimed_stands true x v h = refl
claimed_stands false x v h = absurd (let no : ⊥ = cc in no)

word_claimed : (o : Option Value) (v : Value) → option_and_then (passed Claimed W) o ≡ Some v → o ≡ Some (held W v)
word_claimed None v h = absurd (let no : ⊥ = cc in no)
word_claimed (Some (Integer n)) v h =
    let stands = claimed_stands (is_extended n) (in_place W (Integer n)) v h in
    let takes = claimed_word (is_extended n) (Integer n) v h in
    let same : Integer (n % 2 ^ 32) ≡ v = cc in
    ap (λ u. Some u) (sym (extended_held n stands)) ∙ ap (λ u. Some u) (sym (held_low n)) ∙ ap (λ u. Some (held W u)) same
word_claimed (Some (Pointer b o)) v h = absurd (let no : ⊥ = cc in no)
word_claimed (Some (Function f)) v h = absurd (let no : ⊥ = cc in no)

long_passed : (e : Extension) (o : Option Value) (v : Value) → option_and_then (passed e L) o ≡ Some v → o ≡ Some v
long_passed e None v h = absurd (let no : ⊥ = cc in no)
long_passed Made (Some x) v h = h
long_passed Claimed (Some x) v h = h

pub brought_gives : (globals : List Value) (m : Memory) (values : Values ℕ) (to : ℕ) (k : Class) (e : Extension) (a : Operand ℕ) (v : Value) → option_and_then (passed e k) (value_of globals values a) ≡ Some v
    → act globals m values (brought to k e a) ≡ Gives (Some (held k v))
brought_gives globals m values to W Made a v h = ap Gives (word_made m (value_of globals values a) v h)
brought_gives globals m values to W Claimed a v h = ap Gives (word_claimed (value_of globals values a) v h)
brought_gives globals m values to L Made a v h = ap Gives (long_passed Made (value_of globals values a) v h)
brought_gives globals m values to L Claimed a v h = ap Gives (long_passed Claimed (value_of globals values a) v h)

pub brought_writes : (to : ℕ) (k : Class) (e : Extension) (a : Operand ℕ) → line_writes (brought to k e a) ≡ Some to
brought_writes to W Made a = refl
brought_writes to W Claimed a = refl
brought_writes to L Made a = refl
brought_writes to L Claimed a = refl
