-- What a line and the next one do is what they do in the other order, where they are independent.
use Rattle.std.proofs.Common.{◌≡◌, ℕ, ◌+◌, Bool, true, false, not, ◌&&◌, nat_eq, nat_lt, if◌then◌else◌, List, Option, Some, None, refl, sym, ◌∙◌, ap, subst, arith, option_map, option_and_then}
use Rattle.std.proofs.Math.Path.{fun_ext}
use Rattle.std.proofs.lemmas.Bool.{and_parts}
use Rattle.std.proofs.lemmas.Bool.Decides.{nat_tests}
use Rattle.il_ast.specs.declared.value.Value.{Value}
use Rattle.il_ast.specs.declared.value.Value.TheVariants.{Integer, Pointer, Function}
use Rattle.il_ast.specs.declared.value.End.TheVariants.{Undefined, Turns}
use Rattle.il_ast.specs.Prelude.{in_place, byte_count, Memory, store, copy, on_places, stored_class, Spent, one_turn, both, Outcome, Ended, On, Over, Event, Does, Asked, Given}
use Rattle.il_ast.specs.declared.operation.BinaryOp.TheVariants.{Add as AddPlaces, Sub as SubPlaces}
use Rattle.rv_isa.specs.declared.instruction.RegOp.{RegOp}
use Rattle.rv_isa.specs.declared.instruction.RegOp.TheVariants.{Add, Sub, Sll, Slt, Sltu, Xor, Srl, Sra, Or, And, Mul, Mulh, Mulhsu, Mulhu, Div, Divu, Rem, Remu}
use Rattle.rv_isa.specs.declared.instruction.RegWOp.{RegWOp}
use Rattle.vcode.specs.declared.place.Location.{Location}
use Rattle.vcode.specs.declared.place.Location.TheVariants.{Register, Slot}
use Rattle.vcode.specs.declared.place.Operand.{Operand}
use Rattle.vcode.specs.declared.place.Operand.TheVariants.{At, Number, Name}
use Rattle.vcode.specs.declared.place.Address.{Address}
use Rattle.vcode.specs.declared.line.Line.{Line}
use Rattle.vcode.specs.declared.line.Line.TheVariants.{Tick, Set, Operate, Load, Store, Alloc, Blit, Call}
use Rattle.vcode.specs.declared.line.Operation.{Operation}
use Rattle.vcode.specs.declared.line.Operation.TheVariants.{Reg, RegW, Compare}
use Rattle.vcode.specs.Prelude.{distance, operand_keeps, line_keeps, reg_on_places, operate, loaded, Values, assign, located, same_location, State, value_of, read, operated, address_of, fails, goes_on, sets, changes, weighs, line_step, line_writes}
use Rattle.scheduling.specs.declared.independent.Kind.{Kind}
use Rattle.scheduling.specs.declared.independent.Kind.TheVariants.{Ticking, Plain, Reading, Writing, Fixed}
use Rattle.scheduling.specs.Independent.{kind_of, may_swap, differs, is_unnamed, is_independent}

-- ---- places

same_is : (p q : Location) → same_location p q ≡ true → p ≡ q
same_is (Register a) (Register b) h = ap (λ n. Register n) (let e : a ≡ b = grind (arith, nat_tests) in e)
same_is (Slot a) (Slot b) h = ap (λ n. Slot n) (let e : a ≡ b = grind (arith, nat_tests) in e)
same_is (Register a) (Slot b) h = cc
same_is (Slot a) (Register b) h = cc

not_false : (b : Bool) → not b ≡ true → b ≡ false
not_false true h = sym h
not_false false h = refl

-- two places that differ take their values in either order
assign_either : (p q : Location) (o r : Option Value) (v : Values Location) → differs p q ≡ true → assign located q r (assign located p o v) ≡ assign located p o (assign located q r v)
assign_either p q o r v apart = fun_ext (λ x. at x (same_location x q) (same_location x p) refl refl)
  where
    both_at : (x : Location) → same_location x q ≡ true → same_location x p ≡ true → ⊥
    both_at x hq hp = let e : same_location q p ≡ true = subst (λ (y : Location). same_location y p ≡ true) (same_is x q hq) hp in let f = not_false (same_location q p) apart in cc

    at : (x : Location) (a b : Bool) → same_location x q ≡ a → same_location x p ≡ b → (if a then r else if b then o else v x) ≡ (if b then o else if a then r else v x)
    at x true true hq hp = absurd (both_at x hq hp)
    at x true false hq hp = refl
    at x false true hq hp = refl
    at x false false hq hp = refl

-- ---- what lines read

value_unread : (globals : List Value) (v : Values Location) (q : Location) (o : Option Value) (a : Operand Location) → operand_keeps (differs q) a ≡ true
    → value_of globals (assign located q o v) a ≡ value_of globals v a
value_unread globals v q o (At p) h = ap (λ b. if b then o else v p) (not_false (same_location p q) h)
value_unread globals v q o (Number n) h = refl
value_unread globals v q o (Name g) h = refl

address_unread : (globals : List Value) (m : Memory) (v : Values Location) (q : Location) (o : Option Value) (at : Address Location) → operand_keeps (differs q) at.base ≡ true
    → address_of globals m (assign located q o v) at ≡ address_of globals m v at
address_unread globals m v q o at h =
    ap (λ (x : Option Value). if nat_eq (distance at) 0 then x else operated m (Reg Add) x (value_of globals v (Number (distance at)))) (value_unread globals v q o at.base h)

-- ---- lines that give a place a value, or leave another memory

-- it fails, or gives the place what there is, known or not
abbrev wrote : State Location → Location → Option (Option Value) → Event (State Location) Asked Outcome
wrote s p None = fails s
wrote s p (Some o) = goes_on (record s { values = assign located p o s.values })

-- the line gives place p a value
record Gives (globals : List Value) (l : Line Location) (p : Location) : Type 0 where
  value : Memory → Values Location → Option (Option Value)
  steps : (i : Given) (s : State Location) → line_step located globals i s l ≡ wrote s p (value s.memory s.values)
  writes : line_writes l ≡ Some p
  unread : (m : Memory) (v : Values Location) (q : Location) (o : Option Value) → line_keeps (differs q) l ≡ true → value m (assign located q o v) ≡ value m v
  apart : (q : Location) → line_keeps (differs q) l ≡ true → differs q p ≡ true

-- the line leaves another memory
record Leaves (globals : List Value) (l : Line Location) : Type 0 where
  memory : Memory → Values Location → Option Memory
  steps : (i : Given) (s : State Location) → line_step located globals i s l ≡ changes s (memory s.memory s.values)
  writes : line_writes l ≡ None
  unread : (m : Memory) (v : Values Location) (q : Location) (o : Option Value) → line_keeps (differs q) l ≡ true → memory m (assign located q o v) ≡ memory m v

-- memory has no part in it
abbrev Aside : (globals : List Value) (l : Line Location) (p : Location) → Gives globals l p → Type 0
Aside globals l p gives = (m w : Memory) (v : Values Location) → gives.value m v ≡ gives.value w v

gives_set : (globals : List Value) (to : Location) (a : Operand Location) → Gives globals (Set to a) to
unfolding line_step
gives_set globals to a =
    record {
      value = λ m v. Some (value_of globals v a);
      steps = λ i s. refl;
      writes = refl;
      unread = λ m v q o h. ap Some (value_unread globals v q o a (and_parts (differs q to) (operand_keeps (differs q) a) h).1);
      apart = λ q h. (and_parts (differs q to) (operand_keeps (differs q) a) h).0;
    }

gives_operate : (globals : List Value) (to : Location) (op : Operation) (a b : Operand Location) → Gives globals (Operate to op a b) to
unfolding line_step
gives_operate globals to op a b =
    record {
      value = λ m v. Some (operated m op (value_of globals v a) (value_of globals v b));
      steps = λ i s. refl;
      writes = refl;
      unread = λ m v q o h.
          let named = and_parts (differs q to) (operand_keeps (differs q) a && operand_keeps (differs q) b) h in
          let read_both = and_parts (operand_keeps (differs q) a) (operand_keeps (differs q) b) named.1 in
          ap (λ (x : Option Value). Some (operated m op x (value_of globals (assign located q o v) b))) (value_unread globals v q o a read_both.0)
          ∙ ap (λ (x : Option Value). Some (operated m op (value_of globals v a) x)) (value_unread globals v q o b read_both.1);
      apart = λ q h. (and_parts (differs q to) (operand_keeps (differs q) a && operand_keeps (differs q) b) h).0;
    }

sets_wrote : (s : State Location) (p : Location) (o : Option Value) → sets located s p o ≡ wrote s p (option_map Some o)
sets_wrote s p None = refl
sets_wrote s p (Some v) = refl

gives_load : (globals : List Value) (to : Location) (op : _) (at : Address Location) → Gives globals (Load to op at) to
unfolding line_step
gives_load globals to op at =
    record {
      value = λ m v. option_map Some (option_and_then (loaded m op) (address_of globals m v at));
      steps = λ i s. sets_wrote s to (option_and_then (loaded s.memory op) (address_of globals s.memory s.values at));
      writes = refl;
      unread = λ m v q o h.
          ap (λ (x : Option Value). option_map Some (option_and_then (loaded m op) x)) (address_unread globals m v q o at (and_parts (differs q to) (operand_keeps (differs q) at.base) h).1);
      apart = λ q h. (and_parts (differs q to) (operand_keeps (differs q) at.base) h).0;
    }

leaves_store : (globals : List Value) (size : _) (a : Operand Location) (at : Address Location) → Leaves globals (Store size a at)
unfolding line_step
leaves_store globals size a at =
    record {
      memory = λ m v. option_and_then (λ x. option_and_then (λ p. store m (byte_count size) p x) (address_of globals m v at)) (read globals v (stored_class size) a);
      steps = λ i s. refl;
      writes = refl;
      unread = λ m v q o h.
          let named = and_parts (operand_keeps (differs q) a) (operand_keeps (differs q) at.base) h in
          ap
          (λ (y : Option Value). option_and_then (λ x. option_and_then (λ p. store m (byte_count size) p x) (address_of globals m (assign located q o v) at)) (option_and_then (in_place (stored_class size)) y))
          (value_unread globals v q o a named.0)
          ∙ ap (λ (y : Option Value). option_and_then (λ x. option_and_then (λ p. store m (byte_count size) p x) y) (read globals v (stored_class size) a)) (address_unread globals m v q o at named.1);
    }

leaves_blit : (globals : List Value) (from to : Operand Location) (count : ℕ) → Leaves globals (Blit from to count)
unfolding line_step
leaves_blit globals from to count =
    record {
      memory = λ m v. option_and_then (λ p. option_and_then (λ q. copy m count p q) (value_of globals v to)) (value_of globals v from);
      steps = λ i s. refl;
      writes = refl;
      unread = λ m v q o h.
          let named = and_parts (operand_keeps (differs q) from) (operand_keeps (differs q) to) h in
          ap (λ (x : Option Value). option_and_then (λ p. option_and_then (λ r. copy m count p r) (value_of globals (assign located q o v) to)) x) (value_unread globals v q o from named.0)
          ∙ ap (λ (x : Option Value). option_and_then (λ p. option_and_then (λ r. copy m count p r) x) (value_of globals v from)) (value_unread globals v q o to named.1);
    }

-- ---- operations on registers, in which memory has no part

sums_aside : (m w : Memory) (u v : Value) → on_places m AddPlaces u v ≡ on_places w AddPlaces u v
sums_aside m w (Integer a) (Integer b) = refl
sums_aside m w (Integer a) (Pointer c d) = refl
sums_aside m w (Integer a) (Function f) = refl
sums_aside m w (Pointer a b) (Integer c) = refl
sums_aside m w (Pointer a b) (Pointer c d) = refl
sums_aside m w (Pointer a b) (Function f) = refl
sums_aside m w (Function f) (Integer c) = refl
sums_aside m w (Function f) (Pointer c d) = refl
sums_aside m w (Function f) (Function g) = refl

differences_aside : (m w : Memory) (u v : Value) → on_places m SubPlaces u v ≡ on_places w SubPlaces u v
differences_aside m w (Integer a) (Integer b) = refl
differences_aside m w (Integer a) (Pointer c d) = refl
differences_aside m w (Integer a) (Function f) = refl
differences_aside m w (Pointer a b) (Integer c) = refl
differences_aside m w (Pointer a b) (Pointer c d) = refl
differences_aside m w (Pointer a b) (Function f) = refl
differences_aside m w (Function f) (Integer c) = refl
differences_aside m w (Function f) (Pointer c d) = refl
differences_aside m w (Function f) (Function g) = refl

places_aside : (m w : Memory) (op : RegOp) (u v : Value) → reg_on_places m op u v ≡ reg_on_places w op u v
places_aside m w Add u v = sums_aside m w u v
places_aside m w Sub u v = differences_aside m w u v
places_aside m w Sll u v = refl
places_aside m w Slt u v = refl
places_aside m w Sltu u v = refl
places_aside m w Xor u v = refl
places_aside m w Srl u v = refl
places_aside m w Sra u v = refl
places_aside m w Or u v = refl
places_aside m w And u v = refl
places_aside m w Mul u v = refl
places_aside m w Mulh u v = refl
places_aside m w Mulhsu u v = refl
places_aside m w Mulhu u v = refl
places_aside m w Div u v = refl
places_aside m w Divu u v = refl
places_aside m w Rem u v = refl
places_aside m w Remu u v = refl

reg_aside : (m w : Memory) (op : RegOp) (u v : Value) → operate m (Reg op) u v ≡ operate w (Reg op) u v
unfolding operate
reg_aside m w op (Integer a) (Integer b) = refl
reg_aside m w op (Integer a) (Pointer c d) = places_aside m w op (Integer a) (Pointer c d)
reg_aside m w op (Integer a) (Function f) = places_aside m w op (Integer a) (Function f)
reg_aside m w op (Pointer a b) (Integer c) = places_aside m w op (Pointer a b) (Integer c)
reg_aside m w op (Pointer a b) (Pointer c d) = places_aside m w op (Pointer a b) (Pointer c d)
reg_aside m w op (Pointer a b) (Function f) = places_aside m w op (Pointer a b) (Function f)
reg_aside m w op (Function f) (Integer c) = places_aside m w op (Function f) (Integer c)
reg_aside m w op (Function f) (Pointer c d) = places_aside m w op (Function f) (Pointer c d)
reg_aside m w op (Function f) (Function g) = places_aside m w op (Function f) (Function g)

regw_aside : (m w : Memory) (op : RegWOp) (u v : Value) → operate m (RegW op) u v ≡ operate w (RegW op) u v
unfolding operate
regw_aside m w op (Integer a) (Integer b) = refl
regw_aside m w op (Integer a) (Pointer c d) = refl
regw_aside m w op (Integer a) (Function f) = refl
regw_aside m w op (Pointer a b) (Integer c) = refl
regw_aside m w op (Pointer a b) (Pointer c d) = refl
regw_aside m w op (Pointer a b) (Function f) = refl
regw_aside m w op (Function f) (Integer c) = refl
regw_aside m w op (Function f) (Pointer c d) = refl
regw_aside m w op (Function f) (Function g) = refl

both_aside : (m w : Memory) (op : Operation) → ((u v : Value) → operate m op u v ≡ operate w op u v) → (x y : Option Value) → operated m op x y ≡ operated w op x y
both_aside m w op same None y = refl
both_aside m w op same (Some u) None = refl
both_aside m w op same (Some u) (Some v) = same u v

-- ---- the kinds of lines

data View (globals : List Value) : Kind → Line Location → Type 0 where
  Spends : {turn : Bool} {w : ℕ} → View globals Ticking (Tick turn w)
  GivesPlain : {l : Line Location} {p : Location} → (gives : Gives globals l p) → Aside globals l p gives → View globals Plain l
  GivesReading : {l : Line Location} {p : Location} → Gives globals l p → View globals Reading l
  LeavesMemory : {l : Line Location} → Leaves globals l → View globals Writing l
  Stands : {l : Line Location} → View globals Fixed l

view : (globals : List Value) (l : Line Location) → View globals (kind_of l) l
unfolding gives_set gives_operate
view globals (Tick turn w) = Spends
view globals (Set to a) = GivesPlain (gives_set globals to a) (λ m w v. refl)
view globals (Operate to (Reg op) a b) =
    GivesPlain (gives_operate globals to (Reg op) a b) (λ m w v. ap Some (both_aside m w (Reg op) (reg_aside m w op) (value_of globals v a) (value_of globals v b)))
view globals (Operate to (RegW op) a b) =
    GivesPlain (gives_operate globals to (RegW op) a b) (λ m w v. ap Some (both_aside m w (RegW op) (regw_aside m w op) (value_of globals v a) (value_of globals v b)))
view globals (Operate to (Compare on k) a b) = GivesReading (gives_operate globals to (Compare on k) a b)
view globals (Load to op at) = GivesReading (gives_load globals to op at)
view globals (Store size a at) = LeavesMemory (leaves_store globals size a at)
view globals (Alloc to size) = Stands
view globals (Blit from to count) = LeavesMemory (leaves_blit globals from to count)
view globals (Call to callee args) = Stands

-- ---- what a line does by itself

-- it goes on to the next line, or fails
pub data Quiet (s : State Location) (e : Event (State Location) Asked Outcome) : Type 0 where
  GoesOn : (u : State Location) → u.block ≡ s.block → u.next ≡ s.next + 1 → e ≡ Does (On u) → Quiet s e
  Fails : (x : Spent) → e ≡ Does (Over (Ended x Undefined)) → Quiet s e

wrote_quiet : (s : State Location) (p : Location) (x : Option (Option Value)) → Quiet s (wrote s p x)
wrote_quiet s p None = Fails s.spent refl
wrote_quiet s p (Some o) = GoesOn (record s { next = s.next + 1; values = assign located p o s.values }) refl refl refl

changes_quiet : (s : State Location) (x : Option Memory) → Quiet s (changes s x)
changes_quiet s None = Fails s.spent refl
changes_quiet s (Some m) = GoesOn (record s { next = s.next + 1; memory = m }) refl refl refl

quiet_by : (globals : List Value) (k j : Kind) (i : Given) (s : State Location) (l : Line Location) → View globals k l → may_swap k j ≡ true → Quiet s (line_step located globals i s l)
quiet_by globals k j i s l Spends h = absurd (let no : ⊥ = cc in no)
quiet_by globals k j i s l (GivesPlain {p = p} gives aside) h = subst (Quiet s) (sym (gives.steps i s)) (wrote_quiet s p (gives.value s.memory s.values))
quiet_by globals k j i s l (GivesReading {p = p} gives) h = subst (Quiet s) (sym (gives.steps i s)) (wrote_quiet s p (gives.value s.memory s.values))
quiet_by globals k j i s l (LeavesMemory leaves) h = subst (Quiet s) (sym (leaves.steps i s)) (changes_quiet s (leaves.memory s.memory s.values))
quiet_by globals k j i s l Stands h = absurd (let no : ⊥ = cc in no)

-- of two that are independent the first
pub first_quiet : (globals : List Value) (i : Given) (s : State Location) (l m : Line Location) → is_independent l m ≡ true → Quiet s (line_step located globals i s l)
first_quiet globals i s l m h =
    quiet_by globals (kind_of l) (kind_of m) i s l (view globals l)
    (and_parts (may_swap (kind_of l) (kind_of m)) (is_unnamed (line_writes l) m && is_unnamed (line_writes m) l) h).0

-- ---- both

-- from t the first line goes on to s: then the second one fails; or the run ends there as it does at once; or both come to the same state in either order
pub data Commutes (globals : List Value) (i : Given) (t s : State Location) (l m : Line Location) : Type 0 where
  Lost : (x : Spent) → line_step located globals i s m ≡ Does (Over (Ended x Undefined)) → Commutes globals i t s l m
  Ends : (o : Outcome) → line_step located globals i s m ≡ Does (Over o) → line_step located globals i t m ≡ Does (Over o) → Commutes globals i t s l m
  Meets : (u w : State Location) → u.block ≡ t.block → u.next ≡ t.next + 1 + 1 → w.block ≡ t.block → w.next ≡ t.next + 1 → line_step located globals i s m ≡ Does (On u)
      → line_step located globals i t m ≡ Does (On w) → line_step located globals i w l ≡ Does (On u) → Commutes globals i t s l m

abbrev goes_to : State Location → Event (State Location) Asked Outcome
goes_to s = Does (On s)

on_is : (s t : State Location) → goes_to s ≡ goes_to t → s ≡ t
on_is s t h = cc

-- the state behind a line that gives a value, and behind one that leaves a memory
abbrev given_to : State Location → Location → Option Value → State Location
given_to t p o = record t { next = t.next + 1; values = assign located p o t.values }

abbrev left_with : State Location → Memory → State Location
left_with t m = record t { next = t.next + 1; memory = m }

record Wrote (t s : State Location) (p : Location) (x : Option (Option Value)) : Type 0 where
  value : Option Value
  is : x ≡ Some value
  state : given_to t p value ≡ s

wrote_on : (t s : State Location) (p : Location) (x : Option (Option Value)) → wrote t p x ≡ Does (On s) → Wrote t s p x
wrote_on t s p None h = absurd (let no : ⊥ = cc in no)
wrote_on t s p (Some o) h = record { value = o; is = refl; state = on_is (given_to t p o) s h }

record Left (t s : State Location) (x : Option Memory) : Type 0 where
  memory : Memory
  is : x ≡ Some memory
  state : left_with t memory ≡ s

changes_on : (t s : State Location) (x : Option Memory) → changes t x ≡ Does (On s) → Left t s x
changes_on t s None h = absurd (let no : ⊥ = cc in no)
changes_on t s (Some m) h = record { memory = m; is = refl; state = on_is (left_with t m) s h }

module _ (globals : List Value) (i : Given) (t : State Location) where
  -- a value behind a value
  value_value : (l m : Line Location) (p q : Location) (first : Gives globals l p) (second : Gives globals m q) → line_keeps (differs p) m ≡ true → line_keeps (differs q) l ≡ true
      → (o : Option Value) → first.value t.memory t.values ≡ Some o → (x : Option (Option Value)) → second.value t.memory t.values ≡ x → Commutes globals i t (given_to t p o) l m
  value_value l m p q first second hm hl o is None at =
      Lost t.spent (second.steps i (given_to t p o) ∙ ap (wrote (given_to t p o) q) (second.unread t.memory t.values p o hm ∙ at))
  value_value l m p q first second hm hl o is (Some r) at =
      Meets (given_to (given_to t p o) q r) (given_to t q r) refl refl refl refl
      (second.steps i (given_to t p o) ∙ ap (wrote (given_to t p o) q) (second.unread t.memory t.values p o hm ∙ at))
      (second.steps i t ∙ ap (wrote t q) at)
      (first.steps i (given_to t q r) ∙ ap (wrote (given_to t q r) p) (first.unread t.memory t.values q r hl ∙ is)
      ∙ ap (λ (v : Values Location). goes_on (record (given_to t q r) { values = v })) (assign_either q p r o t.values (first.apart q hl)))

  -- a memory behind a value
  value_memory : (l m : Line Location) (p : Location) (first : Gives globals l p) (second : Leaves globals m) → Aside globals l p first → line_keeps (differs p) m ≡ true
      → (o : Option Value) → first.value t.memory t.values ≡ Some o → (x : Option Memory) → second.memory t.memory t.values ≡ x → Commutes globals i t (given_to t p o) l m
  value_memory l m p first second aside hm o is None at =
      Lost t.spent (second.steps i (given_to t p o) ∙ ap (changes (given_to t p o)) (second.unread t.memory t.values p o hm ∙ at))
  value_memory l m p first second aside hm o is (Some now) at =
      Meets (left_with (given_to t p o) now) (left_with t now) refl refl refl refl
      (second.steps i (given_to t p o) ∙ ap (changes (given_to t p o)) (second.unread t.memory t.values p o hm ∙ at))
      (second.steps i t ∙ ap (changes t) at)
      (first.steps i (left_with t now) ∙ ap (wrote (left_with t now) p) (aside now t.memory t.values ∙ is))

  -- a value behind a memory
  memory_value : (l m : Line Location) (q : Location) (first : Leaves globals l) (second : Gives globals m q) → Aside globals m q second → line_keeps (differs q) l ≡ true
      → (now : Memory) → first.memory t.memory t.values ≡ Some now → (x : Option (Option Value)) → second.value t.memory t.values ≡ x → Commutes globals i t (left_with t now) l m
  memory_value l m q first second aside hl now is None at =
      Lost t.spent (second.steps i (left_with t now) ∙ ap (wrote (left_with t now) q) (aside now t.memory t.values ∙ at))
  memory_value l m q first second aside hl now is (Some r) at =
      Meets (given_to (left_with t now) q r) (given_to t q r) refl refl refl refl
      (second.steps i (left_with t now) ∙ ap (wrote (left_with t now) q) (aside now t.memory t.values ∙ at))
      (second.steps i t ∙ ap (wrote t q) at)
      (first.steps i (given_to t q r) ∙ ap (changes (given_to t q r)) (first.unread t.memory t.values q r hl ∙ is))

  -- a tick behind either
  value_tick : (l : Line Location) (p : Location) (first : Gives globals l p) (turn : Bool) (w : ℕ) (o : Option Value) → first.value t.memory t.values ≡ Some o
      → (b : Bool) → nat_lt t.spent.turns i.turns ≡ b → Commutes globals i t (given_to t p o) l (Tick turn w)
  unfolding line_step
  value_tick l p first false w o is b at =
      Meets (record (given_to t p o) { next = t.next + 1 + 1; spent = both t.spent (weighs w) }) (record t { next = t.next + 1; spent = both t.spent (weighs w) }) refl refl refl refl refl refl
      (first.steps i (record t { next = t.next + 1; spent = both t.spent (weighs w) }) ∙ ap (wrote (record t { next = t.next + 1; spent = both t.spent (weighs w) }) p) is)
  value_tick l p first true w o is true at =
      Meets (record (given_to t p o) { next = t.next + 1 + 1; spent = both t.spent (one_turn w) }) (record t { next = t.next + 1; spent = both t.spent (one_turn w) }) refl refl refl refl
      (ap (λ b. if b then goes_on (record (given_to t p o) { spent = both t.spent (one_turn w) }) else Does (Over (Ended t.spent Turns))) at)
      (ap (λ b. if b then goes_on (record t { spent = both t.spent (one_turn w) }) else Does (Over (Ended t.spent Turns))) at)
      (first.steps i (record t { next = t.next + 1; spent = both t.spent (one_turn w) }) ∙ ap (wrote (record t { next = t.next + 1; spent = both t.spent (one_turn w) }) p) is)
  value_tick l p first true w o is false at =
      Ends (Ended t.spent Turns)
      (ap (λ b. if b then goes_on (record (given_to t p o) { spent = both t.spent (one_turn w) }) else Does (Over (Ended t.spent Turns))) at)
      (ap (λ b. if b then goes_on (record t { spent = both t.spent (one_turn w) }) else Does (Over (Ended t.spent Turns))) at)

  memory_tick : (l : Line Location) (first : Leaves globals l) (turn : Bool) (w : ℕ) (now : Memory) → first.memory t.memory t.values ≡ Some now
      → (b : Bool) → nat_lt t.spent.turns i.turns ≡ b → Commutes globals i t (left_with t now) l (Tick turn w)
  unfolding line_step
  memory_tick l first false w now is b at =
      Meets (record (left_with t now) { next = t.next + 1 + 1; spent = both t.spent (weighs w) }) (record t { next = t.next + 1; spent = both t.spent (weighs w) }) refl refl refl refl refl refl
      (first.steps i (record t { next = t.next + 1; spent = both t.spent (weighs w) }) ∙ ap (changes (record t { next = t.next + 1; spent = both t.spent (weighs w) })) is)
  memory_tick l first true w now is true at =
      Meets (record (left_with t now) { next = t.next + 1 + 1; spent = both t.spent (one_turn w) }) (record t { next = t.next + 1; spent = both t.spent (one_turn w) }) refl refl refl refl
      (ap (λ b. if b then goes_on (record (left_with t now) { spent = both t.spent (one_turn w) }) else Does (Over (Ended t.spent Turns))) at)
      (ap (λ b. if b then goes_on (record t { spent = both t.spent (one_turn w) }) else Does (Over (Ended t.spent Turns))) at)
      (first.steps i (record t { next = t.next + 1; spent = both t.spent (one_turn w) }) ∙ ap (changes (record t { next = t.next + 1; spent = both t.spent (one_turn w) })) is)
  memory_tick l first true w now is false at =
      Ends (Ended t.spent Turns)
      (ap (λ b. if b then goes_on (record (left_with t now) { spent = both t.spent (one_turn w) }) else Does (Over (Ended t.spent Turns))) at)
      (ap (λ b. if b then goes_on (record t { spent = both t.spent (one_turn w) }) else Does (Over (Ended t.spent Turns))) at)

  named_by : (p : Location) (w : Option Location) (m : Line Location) → w ≡ Some p → is_unnamed w m ≡ true → line_keeps (differs p) m ≡ true
  named_by p None m e h = absurd (let no : ⊥ = cc in no)
  named_by p (Some q) m e h = let same : q ≡ p = cc in subst (λ (x : Location). line_keeps (differs x) m ≡ true) same h

  from_value : (l m : Line Location) (p : Location) (first : Gives globals l p) → ((o : Option Value) → first.value t.memory t.values ≡ Some o → Commutes globals i t (given_to t p o) l m)
      → (s : State Location) → line_step located globals i t l ≡ Does (On s) → Commutes globals i t s l m
  from_value l m p first behind s at =
      let one = wrote_on t s p (first.value t.memory t.values) (sym (first.steps i t) ∙ at) in
      subst (λ (x : State Location). Commutes globals i t x l m) one.state (behind one.value one.is)

  from_memory : (l m : Line Location) (first : Leaves globals l) → ((now : Memory) → first.memory t.memory t.values ≡ Some now → Commutes globals i t (left_with t now) l m)
      → (s : State Location) → line_step located globals i t l ≡ Does (On s) → Commutes globals i t s l m
  from_memory l m first behind s at =
      let one = changes_on t s (first.memory t.memory t.values) (sym (first.steps i t) ∙ at) in
      subst (λ (x : State Location). Commutes globals i t x l m) one.state (behind one.memory one.is)

  values_commute : (l m : Line Location) (p q : Location) (first : Gives globals l p) (second : Gives globals m q) → is_unnamed (line_writes l) m ≡ true → is_unnamed (line_writes m) l ≡ true
      → (s : State Location) → line_step located globals i t l ≡ Does (On s) → Commutes globals i t s l m
  values_commute l m p q first second hm hl s at =
      from_value l m p first
      (λ o is. value_value l m p q first second (named_by p (line_writes l) m first.writes hm) (named_by q (line_writes m) l second.writes hl) o is (second.value t.memory t.values) refl) s at

  commute_by : (k j : Kind) (l m : Line Location) → View globals k l → View globals j m → may_swap k j ≡ true → is_unnamed (line_writes l) m ≡ true → is_unnamed (line_writes m) l ≡ true
      → (s : State Location) → line_step located globals i t l ≡ Does (On s) → Commutes globals i t s l m
  commute_by k j l m Spends v h hm hl s at = absurd (let no : ⊥ = cc in no)
  commute_by k j l m Stands v h hm hl s at = absurd (let no : ⊥ = cc in no)
  commute_by k j l m (GivesPlain {p = p} first aside) (Spends {turn = turn} {w = w}) h hm hl s at =
      from_value l m p first (λ o is. value_tick l p first turn w o is (nat_lt t.spent.turns i.turns) refl) s at
  commute_by k j l m (GivesPlain {p = p} first aside) (GivesPlain {p = q} second other) h hm hl s at = values_commute l m p q first second hm hl s at
  commute_by k j l m (GivesPlain {p = p} first aside) (GivesReading {p = q} second) h hm hl s at = values_commute l m p q first second hm hl s at
  commute_by k j l m (GivesPlain {p = p} first aside) (LeavesMemory second) h hm hl s at =
      from_value l m p first (λ o is. value_memory l m p first second aside (named_by p (line_writes l) m first.writes hm) o is (second.memory t.memory t.values) refl) s at
  commute_by k j l m (GivesPlain first aside) Stands h hm hl s at = absurd (let no : ⊥ = cc in no)
  commute_by k j l m (GivesReading {p = p} first) (Spends {turn = turn} {w = w}) h hm hl s at =
      from_value l m p first (λ o is. value_tick l p first turn w o is (nat_lt t.spent.turns i.turns) refl) s at
  commute_by k j l m (GivesReading {p = p} first) (GivesPlain {p = q} second other) h hm hl s at = values_commute l m p q first second hm hl s at
  commute_by k j l m (GivesReading {p = p} first) (GivesReading {p = q} second) h hm hl s at = values_commute l m p q first second hm hl s at
  commute_by k j l m (GivesReading first) (LeavesMemory second) h hm hl s at = absurd (let no : ⊥ = cc in no)
  commute_by k j l m (GivesReading first) Stands h hm hl s at = absurd (let no : ⊥ = cc in no)
  commute_by k j l m (LeavesMemory first) (Spends {turn = turn} {w = w}) h hm hl s at =
      from_memory l m first (λ now is. memory_tick l first turn w now is (nat_lt t.spent.turns i.turns) refl) s at
  commute_by k j l m (LeavesMemory first) (GivesPlain {p = q} second aside) h hm hl s at =
      from_memory l m first (λ now is. memory_value l m q first second aside (named_by q (line_writes m) l second.writes hl) now is (second.value t.memory t.values) refl) s at
  commute_by k j l m (LeavesMemory first) (GivesReading second) h hm hl s at = absurd (let no : ⊥ = cc in no)
  commute_by k j l m (LeavesMemory first) (LeavesMemory second) h hm hl s at = absurd (let no : ⊥ = cc in no)
  commute_by k j l m (LeavesMemory first) Stands h hm hl s at = absurd (let no : ⊥ = cc in no)

  pub independent_commute : (l m : Line Location) → is_independent l m ≡ true → (s : State Location) → line_step located globals i t l ≡ Does (On s) → Commutes globals i t s l m
  independent_commute l m h s at =
      let kinds = and_parts (may_swap (kind_of l) (kind_of m)) (is_unnamed (line_writes l) m && is_unnamed (line_writes m) l) h in
      let apart = and_parts (is_unnamed (line_writes l) m) (is_unnamed (line_writes m) l) kinds.1 in
      commute_by (kind_of l) (kind_of m) l m (view globals l) (view globals m) kinds.0 apart.0 apart.1 s at
