-- Code that is put by what is known follows the code, in the same states, in which all that is known is true.
use Rattle.std.proofs.Common.{◌≡◌, ℕ, zero, suc, ◌+◌, ◌%◌, ◌^◌, ◌<◌, Bool, true, false, not, ◌&&◌, nat_eq, nat_lt, if◌then◌else◌, List, [], ◌∷◌, Option, Some, None, slice_get, inl, inr, refl, sym, ◌∙◌, ap, subst, arith}
use Rattle.std.specs.Option.{option_map, option_and_then, option_map_or}
use Rattle.std.proofs.lemmas.Bool.{and_parts, not-true, or_parts}
use Rattle.std.proofs.lemmas.Bool.Decides.{nat_tests}
use Rattle.std.proofs.lemmas.Int.{ints}
use Rattle.il_ast.specs.declared.operation.Class.{Class}
use Rattle.il_ast.specs.declared.operation.Class.TheVariants.{W, L}
use Rattle.il_ast.specs.declared.operation.Condition.{Condition}
use Rattle.il_ast.specs.declared.operation.Condition.TheVariants.{Equal, NotEqual, SignedLessEqual, SignedLess, SignedGreaterEqual, SignedGreater, UnsignedLessEqual, UnsignedLess, UnsignedGreaterEqual, UnsignedGreater}
use Rattle.il_ast.specs.declared.operation.BinaryOp.TheVariants.{Compare as CompareTwo}
use Rattle.il_ast.specs.declared.value.Value.{Value}
use Rattle.il_ast.specs.declared.value.Value.TheVariants.{Integer, Pointer, Function}
use Rattle.il_ast.specs.Prelude.{byte_count, in_place, Memory, store, holds, truth, compare_places, operate_two, stored_class, nothing, KeepsCode}
use Rattle.vcode.specs.declared.place.Operand.{Operand}
use Rattle.vcode.specs.declared.place.Address.{Address}
use Rattle.rv_isa.specs.Prelude.{widened}
use Rattle.rv_isa.specs.declared.instruction.RegOp.TheVariants.{Add, Sub, Sll, Slt, Sltu, Xor, Srl, Sra, Or, And, Mul, Mulh, Mulhsu, Mulhu, Div, Divu, Rem, Remu}
use Rattle.vcode.specs.declared.line.Operation.{Operation}
use Rattle.vcode.specs.declared.place.Operand.TheVariants.{At, Number, Name}
use Rattle.vcode.specs.declared.line.Line.{Line}
use Rattle.vcode.specs.declared.line.Line.TheVariants.{Tick, Set, Operate, Load, Store, Alloc, Blit, Call}
use Rattle.vcode.specs.declared.line.Comparison.{Comparison}
use Rattle.vcode.specs.declared.line.Jump.{Jump}
use Rattle.vcode.specs.declared.line.Jump.TheVariants.{Goto, Branch, Return, Halt}
use Rattle.vcode.specs.declared.line.Operation.TheVariants.{Reg, RegW, Compare}
use Rattle.vcode.specs.declared.code.Block.{Block}
use Rattle.vcode.specs.declared.code.Code.{Code}
use Rattle.vcode.specs.Prelude.{is_immediate, affords, low, distance, beyond, operate, loaded, passed as passed_value, Values, assign, virtual, unknown, classes_in, State, begin, bound, value_of, read, read_result, operated, address_of, compared, step, Replacing, with_base, with_comparison, line_writes, Act, Gives, given, left, act, written, Way, Enters, entering, answering, way, Alike, LeadAlike, Follows, Jumps, Both}
use Rattle.vcode.proofs.Facts.{Facts as About, claimed}
use Rattle.vcode.proofs.SameReads.{SameValue, two_same}
use Rattle.vcode.proofs.SameActs.{reads_every, act_same}
use Rattle.vcode.proofs.Alike.{MayLeave}
use Rattle.vcode.proofs.Writing.{unwritten}
use Rattle.vcode.proofs.Factual.{fact_line, Claimed, fact_jump, facts_rewrite}
use Rattle.vcode.proofs.Rewriting.{rewrites_keep}
use Rattle.propagation.specs.declared.constants.fact.Fact.{Fact}
use Rattle.propagation.specs.declared.constants.fact.Fact.TheVariants.{Same, Sum, Test}
use Rattle.propagation.specs.declared.constants.claim.Claim.{Claim}
use Rattle.propagation.specs.declared.constants.claim.Entry.{Entry}
use Rattle.propagation.specs.Forwarded.{claims_at, making, claimed as claimed_in, known_at, AreKnown, LeadsWell, is_short, copied, propagate, regrouped, grouped, folded, further, from_base, with_address, with_line, test_of, tested_by, with_test, with_branch, numbers_hold, decided, with_jump, IsPut, IsPutJump, AreForwarded, AllForwarded, is_add, sum_of, changes_memory, writes_it, fact_of, leaves, after}
use Rattle.propagation.specs.FactTable.{Facts, names_it, fact_names, asks_memory, kept_if, fact_below}
use Rattle.propagation.proofs.Meant.{summed, Truth, AreTrue}
use Rattle.propagation.proofs.Computing.{numbers_compared, unchanged, shortened_act}
use Rattle.il_ast.proofs.Truth.{equals_itself, equal_turned}
use Rattle.il_ast.proofs.Wrapping.{further_sum}

-- a state with these registers and this memory
abbrev in_state : Memory → Values ℕ → State ℕ
in_state memory values = record { block = 0; next = 0; values = values; memory = memory; owned = []; spent = nothing }

-- ---- operands

short_same : (globals : List Value) (ev : Values ℕ) (r : ℕ) (b : Operand ℕ) (c : Bool) → ev r ≡ value_of globals ev b → value_of globals ev (if c then b else At r) ≡ ev r
short_same globals ev r b true h = sym h
short_same globals ev r b false h = refl

fact_same : (globals : List Value) (s : State ℕ) (r : ℕ) (o : Option Fact) → ((f : Fact) → o ≡ Some f → Truth globals s r f) → value_of globals s.values (option_map_or (copied (At r)) o (At r)) ≡ s.values r
fact_same globals s r None h = refl
fact_same globals s r (Some (Same b)) h = short_same globals s.values r b (is_short b) (h (Same b) refl)
fact_same globals s r (Some (Sum b n)) h = refl
fact_same globals s r (Some (Test c)) h = refl

operand_same : (globals : List Value) (s : State ℕ) (fs : Facts) → AreTrue globals s fs → (a : Operand ℕ) → value_of globals s.values (propagate fs a) ≡ value_of globals s.values a
operand_same globals s fs all (At r) = fact_same globals s r (fs r) (all r)
operand_same globals s fs all (Number n) = refl
operand_same globals s fs all (Name g) = refl

-- ---- sums

-- of a sum with a number and another number
sum_twice : (memory : Memory) (o : Option Value) (n m : ℕ) → operated memory (Reg Add) (summed o n) (Some (Integer (m % 2 ^ 64))) ≡ operated memory (Reg Add) o (Some (Integer ((n + m) % 2 ^ 64 % 2 ^ 64)))
unfolding operate
sum_twice memory None n m = refl
sum_twice memory (Some (Integer a)) n m = ap (λ k. Some (Integer k)) (further_sum a n m)
sum_twice memory (Some (Pointer b o)) n m = ap (λ k. Some (Pointer b k)) (further_sum o n m)
sum_twice memory (Some (Function g)) n m = refl

-- a sum asks no memory
no_memory : (memory : Memory) (o : Option Value) (n : ℕ) → operated memory (Reg Add) o (Some (Integer n)) ≡ operated [] (Reg Add) o (Some (Integer n))
unfolding operate
no_memory memory None n = refl
no_memory memory (Some (Integer a)) n = refl
no_memory memory (Some (Pointer b o)) n = refl
no_memory memory (Some (Function g)) n = refl

adds : (op : Operation) → is_add op ≡ true → op ≡ (let a : Operation = Reg Add in a)
adds (Reg Add) h = refl
adds (Reg Sub) h = cc
adds (Reg Sll) h = cc
adds (Reg Slt) h = cc
adds (Reg Sltu) h = cc
adds (Reg Xor) h = cc
adds (Reg Srl) h = cc
adds (Reg Sra) h = cc
adds (Reg Or) h = cc
adds (Reg And) h = cc
adds (Reg Mul) h = cc
adds (Reg Mulh) h = cc
adds (Reg Mulhsu) h = cc
adds (Reg Mulhu) h = cc
adds (Reg Div) h = cc
adds (Reg Divu) h = cc
adds (Reg Rem) h = cc
adds (Reg Remu) h = cc
adds (RegW op) h = cc
adds (Compare on k) h = cc

-- the same sum by other operands
abbrev SameSum : List Value → State ℕ → Operand ℕ × Operand ℕ → (a b : Operand ℕ) → Type 0
SameSum globals s p a b =
    operated s.memory (Reg Add) (value_of globals s.values p.0) (value_of globals s.values p.1) ≡ operated s.memory (Reg Add) (value_of globals s.values a) (value_of globals s.values b)

regrouped_same : (globals : List Value) (s : State ℕ) (r m : ℕ) (o : Option Fact) → ((f : Fact) → o ≡ Some f → Truth globals s r f) → SameSum globals s (regrouped o r m) (At r) (Number m)
regrouped_same globals s r m None h = refl
regrouped_same globals s r m (Some (Same a)) h = refl
regrouped_same globals s r m (Some (Test c)) h = refl
regrouped_same globals s r m (Some (Sum (Number k) n)) h = refl
regrouped_same globals s r m (Some (Sum (Name g) n)) h = refl
regrouped_same globals s r m (Some (Sum (At b) n)) h = by (is_immediate ((n + m) % 2 ^ 64))
  where
    by : (c : Bool) → SameSum globals s (if c then (At b, Number ((n + m) % 2 ^ 64)) else (At r, Number m)) (At r) (Number m)
    by true =
        sym (ap (λ (x : Option Value). operated s.memory (Reg Add) x (Some (Integer (m % 2 ^ 64)))) (h (Sum (At b) n) refl) ∙ sum_twice s.memory (s.values b) n m)
    by false = refl

grouped_same : (globals : List Value) (s : State ℕ) (fs : Facts) → AreTrue globals s fs → (a b : Operand ℕ) → SameSum globals s (grouped fs a b) a b
grouped_same globals s fs all (At r) (Number m) = regrouped_same globals s r m (fs r) (all r)
grouped_same globals s fs all (At r) (At q) = refl
grouped_same globals s fs all (At r) (Name g) = refl
grouped_same globals s fs all (Number k) b = refl
grouped_same globals s fs all (Name g) b = refl

folded_same : (globals : List Value) (s : State ℕ) (fs : Facts) → AreTrue globals s fs → (op : Operation) (a b : Operand ℕ)
    → operated s.memory op (value_of globals s.values (folded fs op a b).0) (value_of globals s.values (folded fs op a b).1) ≡ operated s.memory op (value_of globals s.values a) (value_of globals s.values b)
folded_same globals s fs all op a b = by (is_add op) refl
  where
    pair : Bool → Operand ℕ × Operand ℕ
    pair c = if c then grouped fs a b else (a, b)

    by : (c : Bool) → is_add op ≡ c → operated s.memory op (value_of globals s.values (pair c).0) (value_of globals s.values (pair c).1) ≡ operated s.memory op (value_of globals s.values a) (value_of globals s.values b)
    by true e =
        subst
        (λ (o : Operation). operated s.memory o (value_of globals s.values (grouped fs a b).0) (value_of globals s.values (grouped fs a b).1) ≡ operated s.memory o (value_of globals s.values a) (value_of globals s.values b))
        (sym (adds op e)) (grouped_same globals s fs all a b)
    by false e = refl

-- ---- addresses

base_same : (globals : List Value) (s : State ℕ) (f : Replacing) → ((a : Operand ℕ) → SameValue globals s.values s.values f a) → (at : Address ℕ)
    → address_of globals s.memory s.values (with_base f at) ≡ address_of globals s.memory s.values at
base_same globals s f same at =
    ap (λ (x : Option Value). if nat_eq (distance at) 0 then x else operated s.memory (Reg Add) x (value_of globals s.values (Number (distance at)))) (same at.base)

low_is : (d : ℕ) → d < 2 ^ 64 → is_immediate d ≡ true → widened (low d).value ≡ d
low_is d small h = grind (arith, ints, nat_tests)

-- an address at a distance d from a value
abbrev reached : Memory → Option Value → ℕ → Option Value
reached memory v d = if nat_eq d 0 then v else operated memory (Reg Add) v (Some (Integer (d % 2 ^ 64)))

reached_by : (memory : Memory) (v : Option Value) (d : ℕ) (c : Bool) → nat_eq d 0 ≡ c → c ≡ false → reached memory v d ≡ operated memory (Reg Add) v (Some (Integer (d % 2 ^ 64)))
reached_by memory v d false e h = ap (λ (b : Bool). if b then v else operated memory (Reg Add) v (Some (Integer (d % 2 ^ 64)))) e
reached_by memory v d true e h = cc

-- from a sum, at a distance
sum_reached : (memory : Memory) (v : Option Value) (n d : ℕ) → reached memory (summed v n) d ≡ operated memory (Reg Add) v (Some (Integer ((n + d) % 2 ^ 64 % 2 ^ 64)))
sum_reached memory v n d = by (nat_eq d 0) refl
  where
    by : (c : Bool) → nat_eq d 0 ≡ c → (if c then summed v n else operated memory (Reg Add) (summed v n) (Some (Integer (d % 2 ^ 64)))) ≡ operated memory (Reg Add) v (Some (Integer ((n + d) % 2 ^ 64 % 2 ^ 64)))
    by false e = sum_twice memory v n d
    by true e =
        let zero_is : d ≡ 0 = grind (arith, nat_tests) in
        let same : n % 2 ^ 64 ≡ (n + d) % 2 ^ 64 % 2 ^ 64 = omega (arith, zero_is) in
        sym (no_memory memory v (n % 2 ^ 64)) ∙ ap (λ k. operated memory (Reg Add) v (Some (Integer k))) same

further_same : (globals : List Value) (s : State ℕ) (at : Address ℕ) (r : ℕ) → at.base ≡ At r → (o : Option Fact) → ((f : Fact) → o ≡ Some f → Truth globals s r f)
    → address_of globals s.memory s.values (further at o) ≡ address_of globals s.memory s.values at
further_same globals s at r e None h = refl
further_same globals s at r e (Some (Same a)) h = refl
further_same globals s at r e (Some (Test c)) h = refl
further_same globals s at r e (Some (Sum (Number k) n)) h = refl
further_same globals s at r e (Some (Sum (Name g) n)) h = refl
further_same globals s at r e (Some (Sum (At b) n)) h = by (not (nat_eq d 0) && is_immediate d) refl
  where
    d : ℕ
    d = (n + distance at) % 2 ^ 64

    small : d < 2 ^ 64
    small = omega arith

    by : (c : Bool) → (not (nat_eq d 0) && is_immediate d) ≡ c → address_of globals s.memory s.values (if c then beyond (At b) d else at) ≡ address_of globals s.memory s.values at
    by false g = refl
    by true g =
        let parts = and_parts (not (nat_eq d 0)) (is_immediate d) g in
        ap (reached s.memory (s.values b)) (low_is d small parts.1)
        ∙ (reached_by s.memory (s.values b) d (nat_eq d 0) refl (not-true (nat_eq d 0) parts.0)
        ∙ (sym (sum_reached s.memory (s.values b) n (distance at))
        ∙ ap (λ (x : Option Value). reached s.memory x (distance at)) (sym (h (Sum (At b) n) refl) ∙ sym (ap (value_of globals s.values) e))))

from_base_same : (globals : List Value) (s : State ℕ) (fs : Facts) → AreTrue globals s fs → (at : Address ℕ) (a : Operand ℕ) → at.base ≡ a
    → address_of globals s.memory s.values (from_base fs at a) ≡ address_of globals s.memory s.values at
from_base_same globals s fs all at (At r) e = further_same globals s at r e (fs r) (all r)
from_base_same globals s fs all at (Number k) e = refl
from_base_same globals s fs all at (Name g) e = refl

address_same : (globals : List Value) (s : State ℕ) (fs : Facts) → AreTrue globals s fs → (at : Address ℕ)
    → address_of globals s.memory s.values (with_address fs at) ≡ address_of globals s.memory s.values at
address_same globals s fs all at =
    from_base_same globals s fs all (with_base (propagate fs) at) (propagate fs at.base) refl ∙ base_same globals s (propagate fs) (operand_same globals s fs all) at

-- ---- each line

line_same : (globals : List Value) (s : State ℕ) (fs : Facts) → AreTrue globals s fs → (l : Line ℕ) → act globals s.memory s.values (with_line fs l) ≡ act globals s.memory s.values l
line_same globals s fs all (Tick turn w) = refl
line_same globals s fs all (Set to a) = ap Gives (operand_same globals s fs all a)
line_same globals s fs all (Operate to op a b) =
    ap Gives
    (folded_same globals s fs all op (propagate fs a) (propagate fs b) ∙ two_same globals s.values s.values (propagate fs) a b (operate s.memory op) (operand_same globals s fs all a) (operand_same globals s fs all b))
line_same globals s fs all (Load to op at) = ap (λ (o : Option Value). given (option_and_then (loaded s.memory op) o)) (address_same globals s fs all at)
line_same globals s fs all (Store size a at) =
    ap left
    (ap (λ (x : Option Value). option_and_then (λ v. option_and_then (λ p. store s.memory (byte_count size) p v) x) (read globals s.values (stored_class size) (propagate fs a))) (address_same globals s fs all at)
    ∙ ap (λ (x : Option Value). option_and_then (λ v. option_and_then (λ p. store s.memory (byte_count size) p v) (address_of globals s.memory s.values at)) (option_and_then (in_place (stored_class size)) x)) (operand_same globals s fs all a))
line_same globals s fs all (Alloc to size) = refl
line_same globals s fs all (Blit from to count) =
    let l : Line ℕ = Blit from to count in
    act_same globals s.memory s.values s.values (propagate fs) l (reads_every (SameValue globals s.values s.values (propagate fs)) (operand_same globals s fs all) l)
line_same globals s fs all (Call to callee args) =
    let l : Line ℕ = Call to callee args in
    act_same globals s.memory s.values s.values (propagate fs) l (reads_every (SameValue globals s.values s.values (propagate fs)) (operand_same globals s fs all) l)

put_writes : (fs : Facts) (l : Line ℕ) → line_writes (with_line fs l) ≡ line_writes l
put_writes fs (Tick turn w) = refl
put_writes fs (Set to a) = refl
put_writes fs (Operate to op a b) = refl
put_writes fs (Load to op at) = refl
put_writes fs (Store size a at) = refl
put_writes fs (Alloc to size) = refl
put_writes fs (Blit from to count) = refl
put_writes fs (Call to callee args) = refl

-- ---- a test of a comparison's result

record IsTruth (v : Value) : Type 0 where
  answer : Bool
  is : v ≡ Integer (truth answer)

some_is : (x y : Value) → Some x ≡ Some y → x ≡ y
some_is x y h = cc

mapped : (o : Option Bool) (v : Value) → option_map (λ (t : Bool). Integer (truth t)) o ≡ Some v → IsTruth v
mapped None v h = absurd (let no : ⊥ = cc in no)
mapped (Some t) v h = record { answer = t; is = sym (some_is (Integer (truth t)) v h) }

two_truth : (m : Memory) (on : Condition) (k : Class) (a b v : Value) → operate_two m (CompareTwo on k) W a b ≡ Some v → IsTruth v
unfolding operate_two
two_truth m on k (Integer a) (Integer b) v h = record { answer = holds on k a b; is = sym (some_is (Integer (truth (holds on k a b))) v h) }
two_truth m on k (Integer a) (Pointer b o) v h = mapped (compare_places m on (Integer a) (Pointer b o)) v h
two_truth m on k (Integer a) (Function g) v h = mapped (compare_places m on (Integer a) (Function g)) v h
two_truth m on k (Pointer a p) (Integer b) v h = mapped (compare_places m on (Pointer a p) (Integer b)) v h
two_truth m on k (Pointer a p) (Pointer b o) v h = mapped (compare_places m on (Pointer a p) (Pointer b o)) v h
two_truth m on k (Pointer a p) (Function g) v h = mapped (compare_places m on (Pointer a p) (Function g)) v h
two_truth m on k (Function f) (Integer b) v h = mapped (compare_places m on (Function f) (Integer b)) v h
two_truth m on k (Function f) (Pointer b o) v h = mapped (compare_places m on (Function f) (Pointer b o)) v h
two_truth m on k (Function f) (Function g) v h = mapped (compare_places m on (Function f) (Function g)) v h

then_truth : {X : Type 0} (o : Option X) (f : X → Option Value) (v : Value) → ((x : X) → f x ≡ Some v → IsTruth v) → option_and_then f o ≡ Some v → IsTruth v
then_truth None f v h e = absurd (let no : ⊥ = cc in no)
then_truth (Some x) f v h e = h x e

operate_truth : (m : Memory) (on : Condition) (k : Class) (a b v : Value) → operate m (Compare on k) a b ≡ Some v → IsTruth v
unfolding operate
operate_truth m on k a b v h =
    then_truth (in_place k a) (λ x. option_and_then (λ y. operate_two m (CompareTwo on k) W x y) (in_place k b)) v
    (λ x e. then_truth (in_place k b) (λ y. operate_two m (CompareTwo on k) W x y) v (λ y g. two_truth m on k x y v g) e) h

compared_truth : (globals : List Value) (s : State ℕ) (c : Comparison ℕ) (v : Value) → compared globals s c ≡ Some v → IsTruth v
compared_truth globals s c v h =
    then_truth (value_of globals s.values c.left) (λ a. option_and_then (λ b. operate s.memory (Compare c.condition c.class) a b) (value_of globals s.values c.right)) v
    (λ a e. then_truth (value_of globals s.values c.right) (λ b. operate s.memory (Compare c.condition c.class) a b) v (λ b g. operate_truth s.memory c.condition c.class a b v g) e) h

-- a truth compared with 0
unequal : (m : Memory) (k : Class) (t : Bool) → operate m (Compare NotEqual k) (Integer (truth t)) (Integer 0) ≡ Some (Integer (truth t))
unfolding operate operate_two
unequal m W true = refl
unequal m W false = refl
unequal m L true = refl
unequal m L false = refl

equal : (m : Memory) (k : Class) (t : Bool) → operate m (Compare Equal k) (Integer (truth t)) (Integer 0) ≡ Some (Integer (truth (not t)))
unfolding operate operate_two
equal m W true = refl
equal m W false = refl
equal m L true = refl
equal m L false = refl

branch_unequal : (m : Memory) (k : Class) (met otherwise : ℕ) (o : Option Value) → ((v : Value) → o ≡ Some v → IsTruth v)
    → entering met otherwise o ≡ entering met otherwise (option_and_then (λ u. operate m (Compare NotEqual k) u (Integer 0)) o)
branch_unequal m k met otherwise None h = refl
branch_unequal m k met otherwise (Some v) h =
    let t = h v refl in
    ap (λ (x : Value). entering met otherwise (Some x)) t.is ∙ ap (entering met otherwise) (sym (unequal m k t.answer))
    ∙ ap (λ (x : Value). entering met otherwise (operate m (Compare NotEqual k) x (Integer 0))) (sym t.is)

turned_round : (met otherwise : ℕ) (t : Bool) → entering otherwise met (Some (Integer (truth t))) ≡ entering met otherwise (Some (Integer (truth (not t))))
turned_round met otherwise true = refl
turned_round met otherwise false = refl

branch_equal : (m : Memory) (k : Class) (met otherwise : ℕ) (o : Option Value) → ((v : Value) → o ≡ Some v → IsTruth v)
    → entering otherwise met o ≡ entering met otherwise (option_and_then (λ u. operate m (Compare Equal k) u (Integer 0)) o)
branch_equal m k met otherwise None h = refl
branch_equal m k met otherwise (Some v) h =
    let t = h v refl in
    ap (λ (x : Value). entering otherwise met (Some x)) t.is ∙ turned_round met otherwise t.answer ∙ ap (entering met otherwise) (sym (equal m k t.answer))
    ∙ ap (λ (x : Value). entering met otherwise (operate m (Compare Equal k) x (Integer 0))) (sym t.is)

-- what a comparison tests, if it tests one
record Tests (globals : List Value) (s : State ℕ) (on c : Comparison ℕ) : Type 0 where
  right : value_of globals s.values on.right ≡ Some (Integer 0)
  left : value_of globals s.values on.left ≡ compared globals s c

compared_tests : (globals : List Value) (s : State ℕ) (on c : Comparison ℕ) → Tests globals s on c
    → compared globals s on ≡ option_and_then (λ u. operate s.memory (Compare on.condition on.class) u (Integer 0)) (compared globals s c)
compared_tests globals s on c t =
    ap (λ (x : Option Value). option_and_then (λ u. option_and_then (λ v. operate s.memory (Compare on.condition on.class) u v) x) (value_of globals s.values on.left)) t.right
    ∙ ap (option_and_then (λ u. operate s.memory (Compare on.condition on.class) u (Integer 0))) t.left

fact_tests : (globals : List Value) (s : State ℕ) (r : ℕ) (o : Option Fact) (c : Comparison ℕ) → ((f : Fact) → o ≡ Some f → Truth globals s r f) → test_of o ≡ Some c → s.values r ≡ compared globals s c
fact_tests globals s r None c h e = absurd (let no : ⊥ = cc in no)
fact_tests globals s r (Some (Same b)) c h e = absurd (let no : ⊥ = cc in no)
fact_tests globals s r (Some (Sum b n)) c h e = absurd (let no : ⊥ = cc in no)
fact_tests globals s r (Some (Test d)) c h e = let same : d ≡ c = cc in h (Test d) refl ∙ ap (compared globals s) same

zero_tests : (globals : List Value) (s : State ℕ) (fs : Facts) → AreTrue globals s fs → (r n : ℕ) (c : Comparison ℕ) (b : Bool) → nat_eq n 0 ≡ b → (if b then test_of (fs r) else None) ≡ Some c
    → (value_of globals s.values (Number n) ≡ Some (Integer 0)) × (s.values r ≡ compared globals s c)
zero_tests globals s fs all r n c true e h =
    (ap (λ k. Some (Integer (k % 2 ^ 64))) (let same : n ≡ 0 = grind (arith, nat_tests) in same), fact_tests globals s r (fs r) c (all r) h)
zero_tests globals s fs all r n c false e h = absurd (let no : ⊥ = cc in no)

tests : (globals : List Value) (s : State ℕ) (fs : Facts) → AreTrue globals s fs → (a b : Operand ℕ) (c : Comparison ℕ) → tested_by fs a b ≡ Some c
    → (value_of globals s.values b ≡ Some (Integer 0)) × (value_of globals s.values a ≡ compared globals s c)
tests globals s fs all (At r) (Number n) c h = zero_tests globals s fs all r n c (nat_eq n 0) refl h
tests globals s fs all (At r) (At q) c h = absurd (let no : ⊥ = cc in no)
tests globals s fs all (At r) (Name g) c h = absurd (let no : ⊥ = cc in no)
tests globals s fs all (Number m) b c h = absurd (let no : ⊥ = cc in no)
tests globals s fs all (Name m) b c h = absurd (let no : ⊥ = cc in no)

-- ---- jumps

abbrev SameJump : List Value → Option Class → State ℕ → Jump ℕ → Jump ℕ → Type 0
SameJump globals result s j k = way globals result s.memory s.values k ≡ way globals result s.memory s.values j

either_same : (globals : List Value) (result : Option Class) (s : State ℕ) (j k : Jump ℕ) (b : Bool) → SameJump globals result s j k → SameJump globals result s j (if b then k else j)
either_same globals result s j k true h = h
either_same globals result s j k false h = refl

test_same : (whole : List (Line ℕ)) (globals : List Value) (result : Option Class) (s : State ℕ) (on : Comparison ℕ) (k : Condition) (met otherwise : ℕ) (o : Option (Comparison ℕ)) → on.condition ≡ k
    → ((c : Comparison ℕ) → o ≡ Some c → Tests globals s on c) → SameJump globals result s (Branch on met otherwise) (with_test whole k on met otherwise o)
test_same whole globals result s on NotEqual met otherwise (Some c) e t =
    either_same globals result s (Branch on met otherwise) (Branch c met otherwise) (affords 0 (Branch c met otherwise) whole)
    (branch_unequal s.memory on.class met otherwise (compared globals s c) (compared_truth globals s c)
    ∙ ap (λ (k : Condition). entering met otherwise (option_and_then (λ u. operate s.memory (Compare k on.class) u (Integer 0)) (compared globals s c))) (sym e)
    ∙ ap (entering met otherwise) (sym (compared_tests globals s on c (t c refl))))
test_same whole globals result s on Equal met otherwise (Some c) e t =
    either_same globals result s (Branch on met otherwise) (Branch c otherwise met) (affords 0 (Branch c otherwise met) whole)
    (branch_equal s.memory on.class met otherwise (compared globals s c) (compared_truth globals s c)
    ∙ ap (λ (k : Condition). entering met otherwise (option_and_then (λ u. operate s.memory (Compare k on.class) u (Integer 0)) (compared globals s c))) (sym e)
    ∙ ap (entering met otherwise) (sym (compared_tests globals s on c (t c refl))))
test_same whole globals result s on NotEqual met otherwise None e t = refl
test_same whole globals result s on Equal met otherwise None e t = refl
test_same whole globals result s on SignedLessEqual met otherwise o e t = refl
test_same whole globals result s on SignedLess met otherwise o e t = refl
test_same whole globals result s on SignedGreaterEqual met otherwise o e t = refl
test_same whole globals result s on SignedGreater met otherwise o e t = refl
test_same whole globals result s on UnsignedLessEqual met otherwise o e t = refl
test_same whole globals result s on UnsignedLess met otherwise o e t = refl
test_same whole globals result s on UnsignedGreaterEqual met otherwise o e t = refl
test_same whole globals result s on UnsignedGreater met otherwise o e t = refl

-- ---- two numbers that are compared

known_outcome : (globals : List Value) (s : State ℕ) (on : Condition) (k : Class) (a b : Operand ℕ) (t : Bool) → numbers_hold on k a b ≡ Some t
    → compared globals s (record { condition = on; class = k; left = a; right = b }) ≡ Some (Integer (truth t))
known_outcome globals s on k (Number a) (Number b) t h = numbers_compared s.memory on k a b ∙ ap (option_map (λ x. Integer (truth x))) h
known_outcome globals s on k (Number a) (At r) t h = absurd (let no : ⊥ = cc in no)
known_outcome globals s on k (Number a) (Name g) t h = absurd (let no : ⊥ = cc in no)
known_outcome globals s on k (At r) b t h = absurd (let no : ⊥ = cc in no)
known_outcome globals s on k (Name g) b t h = absurd (let no : ⊥ = cc in no)

goes_by : (globals : List Value) (result : Option Class) (s : State ℕ) (met otherwise : ℕ) (t : Bool)
    → way globals result s.memory s.values (Goto (if t then met else otherwise)) ≡ entering met otherwise (Some (Integer (truth t)))
goes_by globals result s met otherwise true = refl
goes_by globals result s met otherwise false = refl

outcome_same : (globals : List Value) (result : Option Class) (s : State ℕ) (on : Comparison ℕ) (met otherwise : ℕ) (j : Jump ℕ) (o : Option Bool) → numbers_hold on.condition on.class on.left on.right ≡ o
    → SameJump globals result s (Branch on met otherwise) j → SameJump globals result s (Branch on met otherwise) (decided o met otherwise j)
outcome_same globals result s on met otherwise j None e h = h
outcome_same globals result s on met otherwise j (Some t) e h =
    goes_by globals result s met otherwise t ∙ ap (entering met otherwise) (sym (known_outcome globals s on.condition on.class on.left on.right t e))

jump_same : (whole : List (Line ℕ)) (globals : List Value) (result : Option Class) (s : State ℕ) (fs : Facts) → AreTrue globals s fs → (j : Jump ℕ) → SameJump globals result s j (with_jump whole fs j)
jump_same whole globals result s fs all (Goto k) = refl
jump_same whole globals result s fs all (Branch on met otherwise) =
    let new : Comparison ℕ = with_comparison (propagate fs) on in
    outcome_same globals result s new met otherwise (with_branch whole fs new met otherwise) (numbers_hold new.condition new.class new.left new.right) refl
    (test_same whole globals result s new new.condition met otherwise (tested_by fs new.left new.right) refl
    (λ c e. let t = tests globals s fs all new.left new.right c e in record { right = t.0; left = t.1 }))
    ∙ ap (entering met otherwise) (two_same globals s.values s.values (propagate fs) on.left on.right (operate s.memory (Compare on.condition on.class)) (operand_same globals s fs all on.left) (operand_same globals s fs all on.right))
jump_same whole globals result s fs all (Return None) = refl
jump_same whole globals None s fs all (Return (Some a)) = refl
jump_same whole globals (Some k) s fs all (Return (Some a)) = ap (λ (x : Option Value). answering (option_and_then (passed_value a.extension k) x)) (operand_same globals s fs all a.value)
jump_same whole globals result s fs all Halt = refl

-- ---- a line was done

-- what it leaves as it was, and that what it makes known is true
record Moved (globals : List Value) (m : Line ℕ) (s u : State ℕ) : Type 0 where
  values : (r : ℕ) → writes_it m r ≡ false → u.values r ≡ s.values r
  memory : changes_memory m ≡ false → u.memory ≡ s.memory
  fact : (r : ℕ) (f : Fact) → writes_it m r ≡ true → fact_of m ≡ Some f → ((k : ℕ) → writes_it m k ≡ true → fact_names f k ≡ false) → Truth globals u r f

other_value : (ev : Values ℕ) (to : ℕ) (o : Option Value) (r : ℕ) → nat_eq to r ≡ false → assign virtual to o ev r ≡ ev r
other_value ev to o r h = ap (λ (b : Bool). if b then o else ev r) (equal_turned r to ∙ h)

own_value : (ev : Values ℕ) (to : ℕ) (o : Option Value) (r : ℕ) → nat_eq to r ≡ true → assign virtual to o ev r ≡ o
own_value ev to o r h = ap (λ (b : Bool). if b then o else ev r) (equal_turned r to ∙ h)

-- an operand that doesn't name the register has the value that it had
still : (globals : List Value) (ev : Values ℕ) (to : ℕ) (o : Option Value) (a : Operand ℕ) → names_it a to ≡ false → value_of globals (assign virtual to o ev) a ≡ value_of globals ev a
still globals ev to o (At k) h = other_value ev to o k (equal_turned to k ∙ h)
still globals ev to o (Number n) h = refl
still globals ev to o (Name g) h = refl

set_true : (globals : List Value) (s : State ℕ) (to : ℕ) (a : Operand ℕ) (r : ℕ) (f : Fact) → nat_eq to r ≡ true → Some (Same a) ≡ Some f → ((k : ℕ) → nat_eq to k ≡ true → fact_names f k ≡ false)
    → Truth globals (record s { values = assign virtual to (value_of globals s.values a) s.values }) r f
set_true globals s to a r f w h names =
    let o = value_of globals s.values a in
    let is : Same a ≡ f = some_fact (Same a) f h in
    subst (λ (x : Fact). Truth globals (record s { values = assign virtual to o s.values }) r x) is
    (own_value s.values to o r w ∙ sym (still globals s.values to o a (ap (λ (x : Fact). fact_names x to) is ∙ names to (equals_itself to))))
  where
    some_fact : (x y : Fact) → Some x ≡ Some y → x ≡ y
    some_fact x y e = cc

compared_true : (globals : List Value) (s : State ℕ) (to : ℕ) (c : Comparison ℕ) (r : ℕ) (f : Fact) → nat_eq to r ≡ true → Some (Test c) ≡ Some f
    → ((k : ℕ) → nat_eq to k ≡ true → fact_names f k ≡ false) → Truth globals (record s { values = assign virtual to (compared globals s c) s.values }) r f
compared_true globals s to c r f w h names =
    let is : Test c ≡ f = some_fact (Test c) f h in
    let unnamed = or_parts (names_it c.left to) (names_it c.right to) (ap (λ (x : Fact). fact_names x to) is ∙ names to (equals_itself to)) in
    let o = compared globals s c in
    let ev : Values ℕ = assign virtual to o s.values in
    let same : compared globals (record s { values = ev }) c ≡ o =
    ap (λ (x : Option Value). option_and_then (λ a. option_and_then (λ b. operate s.memory (Compare c.condition c.class) a b) x) (value_of globals ev c.left)) (still globals s.values to o c.right unnamed.1)
    ∙ ap (λ (x : Option Value). option_and_then (λ a. option_and_then (λ b. operate s.memory (Compare c.condition c.class) a b) (value_of globals s.values c.right)) x) (still globals s.values to o c.left unnamed.0)
    in
    subst (λ (x : Fact). Truth globals (record s { values = ev }) r x) is (own_value s.values to o r w ∙ sym same)
  where
    some_fact : (x y : Fact) → Some x ≡ Some y → x ≡ y
    some_fact x y e = cc

sum_true : (globals : List Value) (s : State ℕ) (to : ℕ) (op : Operation) (a b : Operand ℕ) (r : ℕ) (f : Fact)
    → nat_eq to r ≡ true → (if is_add op then sum_of a b else None) ≡ Some f → ((k : ℕ) → nat_eq to k ≡ true → fact_names f k ≡ false)
    → Truth globals (record s { values = assign virtual to (operated s.memory op (value_of globals s.values a) (value_of globals s.values b)) s.values }) r f
sum_true globals s to op a b r f w h names = by_op (is_add op) refl h
  where
    given : Option Value
    given = operated s.memory op (value_of globals s.values a) (value_of globals s.values b)

    ev : Values ℕ
    ev = assign virtual to given s.values

    known : (q n : ℕ) → Sum (At q) n ≡ f → operated s.memory (Reg Add) (s.values q) (Some (Integer (n % 2 ^ 64))) ≡ given → Truth globals (record s { values = ev }) r f
    known q n is sum =
        let unnamed : names_it (At q) to ≡ false = ap (λ (x : Fact). fact_names x to) is ∙ names to (equals_itself to) in
        subst (λ (x : Fact). Truth globals (record s { values = ev }) r x) is
        (own_value s.values to given r w
        ∙ (sym sum ∙ (no_memory s.memory (s.values q) (n % 2 ^ 64) ∙ ap (λ (x : Option Value). summed x n) (sym (still globals s.values to given (At q) unnamed)))))

    by : (a b : Operand ℕ) → operated s.memory (Reg Add) (value_of globals s.values a) (value_of globals s.values b) ≡ given → sum_of a b ≡ Some f → Truth globals (record s { values = ev }) r f
    by (At q) (Number n) sum g = let is : Sum (At q) n ≡ f = cc in known q n is sum
    by (At q) (At p) sum g = absurd (let no : ⊥ = cc in no)
    by (At q) (Name p) sum g = absurd (let no : ⊥ = cc in no)
    by (Number k) b sum g = absurd (let no : ⊥ = cc in no)
    by (Name k) b sum g = absurd (let no : ⊥ = cc in no)

    by_op : (c : Bool) → is_add op ≡ c → (if c then sum_of a b else None) ≡ Some f → Truth globals (record s { values = ev }) r f
    by_op true g k = by a b (sym (ap (λ (o : Operation). operated s.memory o (value_of globals s.values a) (value_of globals s.values b)) (adds op g))) k
    by_op false g k = absurd (let no : ⊥ = cc in no)

-- a line that doesn't change memory leaves it
given_leaves : (memory : Memory) (v o : Option Value) (next : Memory) → MayLeave memory (given v) o next → next ≡ memory
given_leaves memory None o next may = absurd may
given_leaves memory (Some v) o next may = may.1

memory_left : (globals : List Value) (s : State ℕ) (m : Line ℕ) (o : Option Value) (next : Memory) → MayLeave s.memory (act globals s.memory s.values m) o next → changes_memory m ≡ false → next ≡ s.memory
memory_left globals s (Tick turn w) o next may h = may
memory_left globals s (Set to a) o next may h = may.1
memory_left globals s (Operate to op a b) o next may h = may.1
memory_left globals s (Load to op at) o next may h = given_leaves s.memory (option_and_then (loaded s.memory op) (address_of globals s.memory s.values at)) o next may
memory_left globals s (Store size a at) o next may h = absurd (let no : ⊥ = cc in no)
memory_left globals s (Alloc to size) o next may h = absurd (let no : ⊥ = cc in no)
memory_left globals s (Blit from to count) o next may h = absurd (let no : ⊥ = cc in no)
memory_left globals s (Call to callee args) o next may h = absurd (let no : ⊥ = cc in no)

-- where a register was given a value, and memory left as it was
given_to : (globals : List Value) (s : State ℕ) (to : ℕ) (v o : Option Value) (next : Memory) (r : ℕ) (f : Fact) → o ≡ v → next ≡ s.memory → Truth globals (record s { values = assign virtual to v s.values }) r f
    → Truth globals (in_state next (written (Some to) o s.values)) r f
given_to globals s to v o next r f is left h =
    subst (λ (m : Memory). Truth globals (in_state m (written (Some to) o s.values)) r f) (sym left)
    (subst (λ (x : Option Value). Truth globals (in_state s.memory (written (Some to) x s.values)) r f) (sym is) h)

-- what it makes known is true
fact_made : (globals : List Value) (s : State ℕ) (m : Line ℕ) (o : Option Value) (next : Memory) → MayLeave s.memory (act globals s.memory s.values m) o next → (r : ℕ) (f : Fact) → writes_it m r ≡ true → fact_of m ≡ Some f
    → ((k : ℕ) → writes_it m k ≡ true → fact_names f k ≡ false) → Truth globals (in_state next (written (line_writes m) o s.values)) r f
fact_made globals s (Set to a) o next may r f w h names = given_to globals s to (value_of globals s.values a) o next r f may.0 may.1 (set_true globals s to a r f w h names)
fact_made globals s (Operate to (Compare on k) a b) o next may r f w h names =
    let c : Comparison ℕ = record { condition = on; class = k; left = a; right = b } in
    given_to globals s to (compared globals s c) o next r f may.0 may.1 (compared_true globals s to c r f w h names)
fact_made globals s (Operate to (Reg op) a b) o next may r f w h names =
    given_to globals s to (operated s.memory (Reg op) (value_of globals s.values a) (value_of globals s.values b)) o next r f may.0 may.1 (sum_true globals s to (Reg op) a b r f w h names)
fact_made globals s (Operate to (RegW op) a b) o next may r f w h names = absurd (let no : ⊥ = cc in no)
fact_made globals s (Tick turn x) o next may r f w h names = absurd (let no : ⊥ = cc in no)
fact_made globals s (Load to op at) o next may r f w h names = absurd (let no : ⊥ = cc in no)
fact_made globals s (Store size a at) o next may r f w h names = absurd (let no : ⊥ = cc in no)
fact_made globals s (Alloc to size) o next may r f w h names = absurd (let no : ⊥ = cc in no)
fact_made globals s (Blit from to count) o next may r f w h names = absurd (let no : ⊥ = cc in no)
fact_made globals s (Call to callee args) o next may r f w h names = absurd (let no : ⊥ = cc in no)

line_moves : (globals : List Value) (s : State ℕ) (m : Line ℕ) (o : Option Value) (next : Memory) → MayLeave s.memory (act globals s.memory s.values m) o next
    → Moved globals m s (in_state next (written (line_writes m) o s.values))
line_moves globals s m o next may =
    record { values = unwritten (line_writes m) o s.values; memory = memory_left globals s m o next may; fact = fact_made globals s m o next may }

-- ---- what was known and what the line makes known is true

value_kept : (globals : List Value) (m : Line ℕ) (s u : State ℕ) → Moved globals m s u → (a : Operand ℕ) → ((k : ℕ) → writes_it m k ≡ true → names_it a k ≡ false) → value_of globals u.values a ≡ value_of globals s.values a
value_kept globals m s u moved (At k) h = by (writes_it m k) refl
  where
    by : (b : Bool) → writes_it m k ≡ b → u.values k ≡ s.values k
    by true e = let no : nat_eq k k ≡ false = h k e in let yes_it_is = equals_itself k in cc
    by false e = moved.values k e
value_kept globals m s u moved (Number n) h = refl
value_kept globals m s u moved (Name g) h = refl

truth_kept : (globals : List Value) (m : Line ℕ) (s u : State ℕ) → Moved globals m s u → (r : ℕ) (f : Fact) → writes_it m r ≡ false → ((k : ℕ) → writes_it m k ≡ true → fact_names f k ≡ false)
    → (asks_memory f ≡ true → u.memory ≡ s.memory) → Truth globals s r f → Truth globals u r f
truth_kept globals m s u moved r (Same a) w names asks h = moved.values r w ∙ h ∙ sym (value_kept globals m s u moved a names)
truth_kept globals m s u moved r (Sum a n) w names asks h = moved.values r w ∙ (h ∙ sym (ap (λ (x : Option Value). summed x n) (value_kept globals m s u moved a names)))
truth_kept globals m s u moved r (Test c) w names asks h =
    let left = value_kept globals m s u moved c.left (λ k e. (or_parts (names_it c.left k) (names_it c.right k) (names k e)).0) in
    let right = value_kept globals m s u moved c.right (λ k e. (or_parts (names_it c.left k) (names_it c.right k) (names k e)).1) in
    moved.values r w ∙ h
    ∙ sym (ap (λ (x : Memory). option_and_then (λ a. option_and_then (λ b. operate x (Compare c.condition c.class) a b) (value_of globals u.values c.right)) (value_of globals u.values c.left)) (asks refl)
    ∙ ap (λ (x : Option Value). option_and_then (λ a. option_and_then (λ b. operate s.memory (Compare c.condition c.class) a b) x) (value_of globals u.values c.left)) right
    ∙ ap (λ (x : Option Value). option_and_then (λ a. option_and_then (λ b. operate s.memory (Compare c.condition c.class) a b) (value_of globals s.values c.right)) x) left)

-- what is known after a line passed the test, and was known before or is made known
record Passed (n : ℕ) (l : Line ℕ) (fs : Facts) (r : ℕ) (f : Fact) : Type 0 where
  from : (if writes_it l r then fact_of l else fs r) ≡ Some f
  test : (nat_lt r n && (fact_below n f && leaves l f)) ≡ true

passed_of : (n : ℕ) (l : Line ℕ) (fs : Facts) (r : ℕ) (f : Fact) (o : Option Fact) → (if writes_it l r then fact_of l else fs r) ≡ o → kept_if (λ g. nat_lt r n && (fact_below n g && leaves l g)) o ≡ Some f
    → Passed n l fs r f
passed_of n l fs r f None e h = absurd (let no : ⊥ = cc in no)
passed_of n l fs r f (Some g) e h = by (nat_lt r n && (fact_below n g && leaves l g)) refl h
  where
    by : (b : Bool) → (nat_lt r n && (fact_below n g && leaves l g)) ≡ b → (if b then Some g else None) ≡ Some f → Passed n l fs r f
    by true t k = let same : g ≡ f = cc in record { from = e ∙ k; test = ap (λ x. nat_lt r n && (fact_below n x && leaves l x)) (sym same) ∙ t }
    by false t k = absurd (let no : ⊥ = cc in no)

passed : (n : ℕ) (l : Line ℕ) (fs : Facts) (r : ℕ) (f : Fact) → after n l fs r ≡ Some f → Passed n l fs r f
passed n l fs r f h = passed_of n l fs r f (if writes_it l r then fact_of l else fs r) refl h

names_none : (o : Option ℕ) (f : Fact) → option_map_or (fact_names f) o false ≡ false → (k : ℕ) → option_map_or (λ q. nat_eq q k) o false ≡ true → fact_names f k ≡ false
names_none None f h k e = cc
names_none (Some q) f h k e = let same : q ≡ k = grind (arith, nat_tests) in ap (fact_names f) (sym same) ∙ h

true_after : (globals : List Value) (n : ℕ) (m : Line ℕ) (s u : State ℕ) (old : Facts) → Moved globals m s u → AreTrue globals s old → AreTrue globals u (after n m old)
true_after globals n m s u old moved all r f h = by (writes_it m r) refl p.from
  where
    p : Passed n m old r f
    p = passed n m old r f h

    tests : (fact_below n f ≡ true) × (leaves m f ≡ true)
    tests = and_parts (fact_below n f) (leaves m f) (and_parts (nat_lt r n) (fact_below n f && leaves m f) p.test).1

    left : (not (option_map_or (fact_names f) (line_writes m) false) ≡ true) × (not (changes_memory m && asks_memory f) ≡ true)
    left = and_parts (not (option_map_or (fact_names f) (line_writes m) false)) (not (changes_memory m && asks_memory f)) tests.1

    names : (k : ℕ) → writes_it m k ≡ true → fact_names f k ≡ false
    names = names_none (line_writes m) f (not-true (option_map_or (fact_names f) (line_writes m) false) left.0)

    memory_kept : (b : Bool) → changes_memory m ≡ b → (b && asks_memory f) ≡ false → asks_memory f ≡ true → u.memory ≡ s.memory
    memory_kept true e g asks = cc
    memory_kept false e g asks = moved.memory e

    kept : asks_memory f ≡ true → u.memory ≡ s.memory
    kept = memory_kept (changes_memory m) refl (not-true (changes_memory m && asks_memory f) left.1)

    by : (b : Bool) → writes_it m r ≡ b → (if b then fact_of m else old r) ≡ Some f → Truth globals u r f
    by true e g = moved.fact r f e g names
    by false e g = truth_kept globals m s u moved r f e names kept (all r f g)

-- ---- the code follows

-- ---- what is claimed is true

-- what is known by claims that are known is known, or was before
claims_true : (globals : List Value) (n : ℕ) (s : State ℕ) (gs : Facts) → AreTrue globals s gs → (claims : List Claim) (fs : Facts) → AreTrue globals s fs → AreKnown gs claims → AreTrue globals s (claimed_in n fs claims)
claims_true globals n s gs all [] fs old known = old
claims_true globals n s gs all (c ∷ claims) fs old known = claims_true globals n s gs all claims (after n (making c) fs) here known.1
  where
    by : (r : ℕ) (f : Fact) (b : Bool) → writes_it (making c) r ≡ b → (if b then fact_of (making c) else fs r) ≡ Some f → Truth globals s r f
    by r f true e h =
        let same : c.register ≡ r = grind (arith, nat_tests) in
        let is : Same c.value ≡ f = some_fact (Same c.value) f h in
        subst (λ (x : Fact). Truth globals s r x) is (subst (λ (q : ℕ). Truth globals s q (Same c.value)) same (all c.register (Same c.value) known.0))
      where
        some_fact : (x y : Fact) → Some x ≡ Some y → x ≡ y
        some_fact x y p = cc
    by r f false e h = old r f h

    here : AreTrue globals s (after n (making c) fs)
    here r f h = by r f (writes_it (making c) r) refl (passed n (making c) fs r f h).from

nothing_true : (globals : List Value) (s : State ℕ) → AreTrue globals s (λ r. None)
nothing_true globals s r f h = absurd (let no : ⊥ = cc in no)

-- ---- the code follows

module _ (n : ℕ) (es : List Entry) where
  -- what is known, and what of it is claimed at the start of a block
  abbrev known : About
  known = record { Known = Facts; hold = λ fs globals memory values. AreTrue globals (in_state memory values) fs; at_start = known_at n es }

  at_target : (globals : List Value) (memory : Memory) (values : Values ℕ) (fs : Facts) (k : ℕ) → AreTrue globals (in_state memory values) fs → AreKnown fs (claims_at es k)
      → AreTrue globals (in_state memory values) (known_at n es k)
  at_target globals memory values fs k all claims =
      claims_true globals n (in_state memory values) fs all (claims_at es k) (λ r. None) (nothing_true globals (in_state memory values)) claims

  either_target : (globals : List Value) (memory : Memory) (values : Values ℕ) (fs : Facts) (met otherwise : ℕ) (o : Option Value) → AreTrue globals (in_state memory values) fs
      → AreKnown fs (claims_at es met) → AreKnown fs (claims_at es otherwise) → Claimed known globals memory values (entering met otherwise o)
  either_target globals memory values fs met otherwise None all one other = tt
  either_target globals memory values fs met otherwise (Some (Integer m)) all one other = by (nat_eq m 0)
    where
      by : (b : Bool) → Claimed known globals memory values (Enters (if b then otherwise else met))
      by true = at_target globals memory values fs otherwise all other
      by false = at_target globals memory values fs met all one
  either_target globals memory values fs met otherwise (Some (Pointer b o)) all one other = tt
  either_target globals memory values fs met otherwise (Some (Function f)) all one other = tt

  answering_claims : (globals : List Value) (memory : Memory) (values : Values ℕ) (o : Option Value) → Claimed known globals memory values (answering o)
  answering_claims globals memory values None = tt
  answering_claims globals memory values (Some v) = tt

  leads_true : (globals : List Value) (result : Option Class) (memory : Memory) (values : Values ℕ) (fs : Facts) → AreTrue globals (in_state memory values) fs → (k : Jump ℕ) → LeadsWell es fs k
      → Claimed known globals memory values (way globals result memory values k)
  leads_true globals result memory values fs all (Goto k) well = at_target globals memory values fs k all well
  leads_true globals result memory values fs all (Branch on met otherwise) well =
      either_target globals memory values fs met otherwise (operated memory (Compare on.condition on.class) (value_of globals values on.left) (value_of globals values on.right)) all well.0 well.1
  leads_true globals result memory values fs all (Return None) well = tt
  leads_true globals None memory values fs all (Return (Some a)) well = tt
  leads_true globals (Some c) memory values fs all (Return (Some a)) well = answering_claims globals memory values (read_result globals values c a)
  leads_true globals result memory values fs all Halt well = tt

  put_writes_same : (fs : Facts) (l m : Line ℕ) → IsPut fs l m → line_writes m ≡ line_writes l
  put_writes_same fs l m (inl is) = ap line_writes is
  put_writes_same fs l m (inr is) = ap line_writes is ∙ unchanged line_writes (λ to op other a p q. refl, λ to op a b p. refl) (with_line fs l) ∙ put_writes fs l

  put_act : (fs : Facts) (l m : Line ℕ) → IsPut fs l m → (globals : List Value) (memory : Memory) (ev : Values ℕ) → AreTrue globals (in_state memory ev) fs → act globals memory ev m ≡ act globals memory ev l
  put_act fs l m (inl is) globals memory ev all = ap (act globals memory ev) is
  put_act fs l m (inr is) globals memory ev all = ap (act globals memory ev) is ∙ shortened_act globals memory ev (with_line fs l) ∙ line_same globals (in_state memory ev) fs all l

  line_follows : (fs : Facts) (l m : Line ℕ) → IsPut fs l m → Alike (claimed known) fs (after n m fs) l m
  line_follows fs l m put =
      fact_line known fs (after n m fs) l m writes (λ globals memory ev all works. same globals memory ev all)
      (λ globals memory ev all o next may.
      subst (λ (x : Option ℕ). AreTrue globals (in_state next (written x o ev)) (after n m fs)) writes
      (true_after globals n m (in_state memory ev) (in_state next (written (line_writes m) o ev)) fs
      (line_moves globals (in_state memory ev) m o next (subst (λ (a : Act). MayLeave memory a o next) (sym (same globals memory ev all)) may)) all))
    where
      writes : line_writes m ≡ line_writes l
      writes = put_writes_same fs l m put

      same : (globals : List Value) (memory : Memory) (ev : Values ℕ) → AreTrue globals (in_state memory ev) fs → act globals memory ev m ≡ act globals memory ev l
      same = put_act fs l m put

  put_way : (result : Option Class) (whole : List (Line ℕ)) (fs : Facts) (j k : Jump ℕ) → IsPutJump whole fs j k → (globals : List Value) (memory : Memory) (ev : Values ℕ) → AreTrue globals (in_state memory ev) fs
      → way globals result memory ev k ≡ way globals result memory ev j
  put_way result whole fs j k (inl is) globals memory ev all = ap (way globals result memory ev) is
  put_way result whole fs j k (inr is) globals memory ev all = ap (way globals result memory ev) is ∙ jump_same whole globals result (in_state memory ev) fs all j

  jump_follows : (result : Option Class) (whole : List (Line ℕ)) (fs : Facts) (j k : Jump ℕ) → IsPutJump whole fs j k → LeadsWell es fs k → LeadAlike (claimed known) result fs j k
  jump_follows result whole fs j k put well =
      fact_jump known result fs j k (put_way result whole fs j k put)
      (λ globals memory ev all. subst (λ (x : Way). Claimed known globals memory ev x) (put_way result whole fs j k put globals memory ev all) (leads_true globals result memory ev fs all k well))

module _ (n : ℕ) (es : List Entry) (v w : Code ℕ) where
  lines_follow : (whole : List (Line ℕ)) (fs : Facts) (lines new : List (Line ℕ)) (j k : Jump ℕ) → AreForwarded n es whole fs lines new j k → Follows (claimed (known n es)) v w fs lines j new k
  lines_follow whole fs [] [] j k h = Jumps (jump_follows n es v.result whole fs j k h.0 h.1)
  lines_follow whole fs [] (m ∷ new) j k h = absurd h
  lines_follow whole fs (l ∷ lines) [] j k h = absurd h
  lines_follow whole fs (l ∷ lines) (m ∷ new) j k h = Both (line_follows n es fs l m h.0) (lines_follow whole (after n m fs) lines new j k h.1)

  block_follows : (blocks new : List (Block ℕ)) (i : ℕ) → AllForwarded n es i blocks new → (k at : ℕ) (b : Block ℕ) → at ≡ i + k → slice_get blocks k ≡ Some b
      → (d : Block ℕ) × ((slice_get new k ≡ Some d) × Follows (claimed (known n es)) v w (known_at n es at) b.lines b.jump d.lines d.jump)
  block_follows [] new i all k at b p e = absurd (let no : ⊥ = cc in no)
  block_follows (d ∷ blocks) [] i all k at b p e = absurd all
  block_follows (d ∷ blocks) (c ∷ new) i all zero at b p e =
      let same : d ≡ b = cc in
      let here : i ≡ at = omega (arith, p) in (
        c,
        (
          refl,
          subst (λ (q : ℕ). Follows (claimed (known n es)) v w (known_at n es q) b.lines b.jump c.lines c.jump) here
              (subst (λ (x : Block ℕ). Follows (claimed (known n es)) v w (known_at n es i) x.lines x.jump c.lines c.jump) same (lines_follow c.lines (known_at n es i) d.lines c.lines d.jump c.jump all.0)),
        ),
      )
  block_follows (d ∷ blocks) (c ∷ new) i all (suc k) at b p e = block_follows blocks new (i + 1) all.1 k at b (omega (arith, p)) e

pub runs : (n : ℕ) (es : List Entry) (v w : Code ℕ) → claims_at es 0 ≡ [] → AllForwarded n es 0 v.blocks w.blocks → w.result ≡ v.result → w.params ≡ v.params → (globals : List Value)
    → KeepsCode (classes_in v.params) (begin virtual v) (step virtual globals v) (begin virtual w) (step virtual globals w)
runs n es v w none all result params globals =
    rewrites_keep (claimed (known n es)) v w
    (facts_rewrite (known n es) v w result params
    (λ globals i.
    subst (λ (cs : List Claim). AreTrue globals (in_state i.memory (bound virtual unknown v.params i.args)) (claimed_in n (λ r. None) cs)) (sym none)
    (nothing_true globals (in_state i.memory (bound virtual unknown v.params i.args))))
    (λ k b e. block_follows n es v w v.blocks w.blocks 0 all k k b (omega arith) e)) globals
