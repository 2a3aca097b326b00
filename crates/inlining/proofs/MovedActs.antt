-- What a candidate's lines and jumps do at other registers: the same.
use Rattle.std.proofs.Common.{◌≡◌, ℕ, ◌+◌, ◌≤◌, Bool, true, false, nat_eq, if◌then◌else◌, List, map, Option, Some, None, refl, sym, ◌∙◌, ap, subst, arith, option_map, option_and_then}
use Rattle.std.proofs.lemmas.Bool.Decides.{nat_tests}
use Rattle.il_ast.specs.declared.operation.Class.{Class}
use Rattle.il_ast.specs.declared.value.Value.{Value}
use Rattle.il_ast.specs.declared.value.Value.TheVariants.{Integer, Pointer, Function}
use Rattle.il_ast.specs.Prelude.{byte_count, in_place, Memory, store, copy, stored_class}
use Rattle.rv_isa.specs.declared.instruction.RegOp.TheVariants.{Add}
use Rattle.vcode.specs.declared.place.Operand.{Operand}
use Rattle.vcode.specs.declared.place.Operand.TheVariants.{At, Number, Name}
use Rattle.vcode.specs.declared.place.Address.{Address}
use Rattle.vcode.specs.declared.place.Argument.{Argument}
use Rattle.vcode.specs.declared.place.Destination.{Destination}
use Rattle.vcode.specs.declared.line.Line.{Line}
use Rattle.vcode.specs.declared.line.Line.TheVariants.{Tick, Set, Operate, Load, Store, Alloc, Blit, Call}
use Rattle.vcode.specs.declared.line.Operation.TheVariants.{Reg, Compare}
use Rattle.vcode.specs.declared.line.Comparison.{Comparison}
use Rattle.vcode.specs.declared.line.Jump.TheVariants.{Branch}
use Rattle.vcode.specs.Prelude.{distance, loaded, Values, value_of, read_all, operated, address_of, with_base, with_argument, line_writes, Act, Gives, Makes, given, left, asked, act, written, Way, Enters, entering, way}
use Rattle.vcode.proofs.Following.{Follows, AllFollow}
use Rattle.vcode.proofs.SameReads.{SameValue}
use Rattle.vcode.proofs.SameActs.{reads_every, act_same}
use Rattle.inlining.specs.InPlace.{moved, moved_destination, moved_line, moved_jump}
use Rattle.inlining.proofs.Calm.{makes_none}
use Rattle.inlining.proofs.Beside.{IsLow}

-- ---- registers

-- what the registers hold from so far on
abbrev pub from_base : (base : ℕ) → Values ℕ → Values ℕ
from_base base values r = values (r + base)

abbrev pub moved_to : (base : ℕ) → Option ℕ → Option ℕ
moved_to base None = None
moved_to base (Some r) = Some (r + base)

same_moved : (base q r : ℕ) → nat_eq (q + base) (r + base) ≡ nat_eq q r
same_moved base q r = by (nat_eq q r) refl
  where
    by : (b : Bool) → nat_eq q r ≡ b → nat_eq (q + base) (r + base) ≡ b
    by true e = grind (arith, nat_tests)
    by false e = grind (arith, nat_tests)

-- what is written into a moved register
pub moved_follows : (base : ℕ) (to : Option ℕ) (p o : Option Value) (el now : Values ℕ) → Follows p o → AllFollow (from_base base el) now
    → AllFollow (from_base base (written (moved_to base to) p el)) (written to o now)
moved_follows base None p o el now follows all q = all q
moved_follows base (Some r) p o el now follows all q =
    subst (λ (b : Bool). Follows (if b then p else el (q + base)) (if nat_eq q r then o else now q)) (sym (same_moved base q r)) (by (nat_eq q r))
  where
    by : (b : Bool) → Follows (if b then p else el (q + base)) (if b then o else now q)
    by true = follows
    by false = all q

-- it is none of which anything is known below
pub beyond_follows : (base : ℕ) (to : Option ℕ) (p : Option Value) (el ev : Values ℕ) → IsLow base ev → AllFollow el ev → AllFollow (written (moved_to base to) p el) ev
beyond_follows base None p el ev low all q = all q
beyond_follows base (Some r) p el ev low all q = by (nat_eq q (r + base)) refl
  where
    by : (b : Bool) → nat_eq q (r + base) ≡ b → Follows (if b then p else el q) (ev q)
    by true e v h =
        let far : base ≤ q = grind (arith, nat_tests) in
        let none : ev q ≡ None = low q far in
        absurd (let no : ⊥ = cc in no)
    by false e v h = all q v h

-- ---- lines

pub value_moved : (globals : List Value) (base : ℕ) (el : Values ℕ) (a : Operand ℕ) → value_of globals el (moved base a) ≡ value_of globals (from_base base el) a
value_moved globals base el (At r) = refl
value_moved globals base el (Number n) = refl
value_moved globals base el (Name g) = refl

two_moved : {Y : Type 0} (globals : List Value) (base : ℕ) (el : Values ℕ) (a b : Operand ℕ) (f : Option Value → Option Value → Y)
    → f (value_of globals el (moved base a)) (value_of globals el (moved base b)) ≡ f (value_of globals (from_base base el) a) (value_of globals (from_base base el) b)
two_moved globals base el a b f =
    ap (λ o. f o (value_of globals el (moved base b))) (value_moved globals base el a)
    ∙ ap (λ o. f (value_of globals (from_base base el) a) o) (value_moved globals base el b)

address_moved : (globals : List Value) (m : Memory) (base : ℕ) (el : Values ℕ) (at : Address ℕ) → address_of globals m el (with_base (moved base) at) ≡ address_of globals m (from_base base el) at
address_moved globals m base el at =
    ap (λ o. if nat_eq (distance at) 0 then o else operated m (Reg Add) o (value_of globals el (Number (distance at)))) (value_moved globals base el at.base)

-- a moved destination wants a result of the same class
wanted_moved : (base : ℕ) (to : Option (Destination ℕ)) (args : List (Argument ℕ)) (x : Option Value) (vs : Option (List Value)) → asked (option_map (moved_destination base) to) args x vs ≡ asked to args x vs
wanted_moved base None args x vs = refl
wanted_moved base (Some d) args (Some (Function f)) (Some vs) = refl
wanted_moved base (Some d) args (Some (Function f)) None = refl
wanted_moved base (Some d) args (Some (Integer n)) vs = refl
wanted_moved base (Some d) args (Some (Pointer b n)) vs = refl
wanted_moved base (Some d) args None vs = refl

pub act_moved : (globals : List Value) (m : Memory) (base : ℕ) (el : Values ℕ) (l : Line ℕ) → makes_none l ≡ true → act globals m el (moved_line base l) ≡ act globals m (from_base base el) l
act_moved globals m base el (Tick turn w) calm = refl
act_moved globals m base el (Set to a) calm = ap Gives (value_moved globals base el a)
act_moved globals m base el (Operate to op a b) calm = two_moved globals base el a b (λ o p. Gives (operated m op o p))
act_moved globals m base el (Load to op at) calm = ap (λ o. given (option_and_then (loaded m op) o)) (address_moved globals m base el at)
act_moved globals m base el (Store size a at) calm =
    ap (λ o. left (option_and_then (λ v. option_and_then (λ p. store m (byte_count size) p v) o) (option_and_then (in_place (stored_class size)) (value_of globals el (moved base a)))))
    (address_moved globals m base el at)
    ∙ ap (λ o. left (option_and_then (λ v. option_and_then (λ p. store m (byte_count size) p v) (address_of globals m (from_base base el) at)) (option_and_then (in_place (stored_class size)) o)))
    (value_moved globals base el a)
act_moved globals m base el (Alloc to size) calm = absurd (let no : ⊥ = cc in no)
act_moved globals m base el (Blit from to count) calm =
    two_moved globals base el from to (λ o q. left (option_and_then (λ u. option_and_then (λ v. copy m count u v) q) o))
act_moved globals m base el (Call to callee args) calm =
    wanted_moved base to (map (with_argument (moved base)) args) (value_of globals el (moved base callee)) (read_all globals el (map (with_argument (moved base)) args))
    ∙ act_same globals m (from_base base el) el (moved base) (Call to callee args)
    (reads_every (SameValue globals (from_base base el) el (moved base)) (value_moved globals base el) (Call to callee args))

pub writes_moved : (base : ℕ) (l : Line ℕ) → makes_none l ≡ true → line_writes (moved_line base l) ≡ moved_to base (line_writes l)
writes_moved base (Tick turn w) calm = refl
writes_moved base (Set to a) calm = refl
writes_moved base (Operate to op a b) calm = refl
writes_moved base (Load to op at) calm = refl
writes_moved base (Store size a at) calm = refl
writes_moved base (Alloc to size) calm = absurd (let no : ⊥ = cc in no)
writes_moved base (Blit from to count) calm = refl
writes_moved base (Call None callee args) calm = refl
writes_moved base (Call (Some d) callee args) calm = refl

-- it makes no block
abbrev pub IsCalm : Act → Type 0
IsCalm (Makes size) = ⊥
IsCalm a = Unit {0}

given_calm : (o : Option Value) → IsCalm (given o)
given_calm None = tt
given_calm (Some v) = tt

asked_calm : (to : Option (Destination ℕ)) (args : List (Argument ℕ)) (x : Option Value) (vs : Option (List Value)) → IsCalm (asked to args x vs)
asked_calm to args (Some (Function f)) (Some vs) = tt
asked_calm to args (Some (Function f)) None = tt
asked_calm to args (Some (Integer n)) vs = tt
asked_calm to args (Some (Pointer b n)) vs = tt
asked_calm to args None vs = tt

left_calm : (o : Option Memory) → IsCalm (left o)
left_calm None = tt
left_calm (Some m) = tt

pub act_calm : (globals : List Value) (m : Memory) (values : Values ℕ) (l : Line ℕ) → makes_none l ≡ true → IsCalm (act globals m values l)
act_calm globals m values (Tick turn w) calm = tt
act_calm globals m values (Set to a) calm = tt
act_calm globals m values (Operate to op a b) calm = tt
act_calm globals m values (Load to op at) calm = given_calm (option_and_then (loaded m op) (address_of globals m values at))
act_calm globals m values (Store size a at) calm =
    left_calm
    (option_and_then (λ v. option_and_then (λ p. store m (byte_count size) p v) (address_of globals m values at)) (option_and_then (in_place (stored_class size)) (value_of globals values a)))
act_calm globals m values (Alloc to size) calm = absurd (let no : ⊥ = cc in no)
act_calm globals m values (Blit from to count) calm =
    left_calm (option_and_then (λ p. option_and_then (λ q. copy m count p q) (value_of globals values to)) (value_of globals values from))
act_calm globals m values (Call to callee args) calm = asked_calm to args (value_of globals values callee) (read_all globals values args)

-- ---- jumps

-- a way to so much later a block
abbrev pub moved_way : (first : ℕ) → Way → Way
moved_way first (Enters k) = Enters (k + first)
moved_way first x = x

chosen_moved : (first met otherwise : ℕ) (b : Bool) → (if b then otherwise + first else met + first) ≡ (if b then otherwise else met) + first
chosen_moved first met otherwise true = refl
chosen_moved first met otherwise false = refl

entering_moved : (first met otherwise : ℕ) (o : Option Value) → entering (met + first) (otherwise + first) o ≡ moved_way first (entering met otherwise o)
entering_moved first met otherwise None = refl
entering_moved first met otherwise (Some (Integer n)) = ap Enters (chosen_moved first met otherwise (nat_eq n 0))
entering_moved first met otherwise (Some (Pointer b n)) = refl
entering_moved first met otherwise (Some (Function f)) = refl

pub branch_moved : (globals : List Value) (r q : Option Class) (m : Memory) (first behind base : ℕ) (el : Values ℕ) (on : Comparison ℕ) (met otherwise : ℕ)
    → way globals r m el (moved_jump first behind base (Branch on met otherwise)) ≡ moved_way first (way globals q m (from_base base el) (Branch on met otherwise))
branch_moved globals r q m first behind base el on met otherwise =
    ap (entering (met + first) (otherwise + first)) (two_moved globals base el on.left on.right (operated m (Compare on.condition on.class)))
    ∙ entering_moved first met otherwise (operated m (Compare on.condition on.class) (value_of globals (from_base base el) on.left) (value_of globals (from_base base el) on.right))
