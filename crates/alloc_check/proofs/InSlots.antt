-- With register i in slot i the code goes in lockstep with the virtual code.
use Rattle.std.proofs.Common.{◌≡◌, ℕ, ◌+◌, Bool, true, false, nat_eq, nat_lt, ◌-◌, if◌then◌else◌, List, [], ◌∷◌, ◌++◌, map, length, Option, Some, None, slice_get, refl, sym, ◌∙◌, ap, subst, option_map, option_and_then}
use Rattle.il_ast.specs.declared.operation.Class.{Class}
use Rattle.il_ast.specs.declared.value.Value.{Value}
use Rattle.il_ast.specs.declared.value.Value.TheVariants.{Integer, Pointer, Function}
use Rattle.il_ast.specs.declared.value.End.TheVariants.{Turns}
use Rattle.il_ast.specs.Prelude.{in_place, byte_count, Memory, store, copy, fresh, stored_class, one_turn, both, Outcome, Returned, Ended, Over, Event, Does, Calls, Asked, Given, Fine}
use Rattle.il_ast.proofs.Simulation.{TogetherNext, Together, Lockstep}
use Rattle.il_ast.proofs.Simulated.{lockstep_keeps}
use Rattle.vcode.specs.declared.place.Location.{Location}
use Rattle.vcode.specs.declared.place.Location.TheVariants.{Slot}
use Rattle.vcode.specs.declared.place.Operand.{Operand}
use Rattle.vcode.specs.declared.place.Address.{Address}
use Rattle.vcode.specs.declared.place.Operand.TheVariants.{At, Number, Name}
use Rattle.vcode.specs.declared.place.Destination.{Destination}
use Rattle.vcode.specs.declared.place.Argument.{Argument}
use Rattle.vcode.specs.declared.line.Line.{Line}
use Rattle.vcode.specs.declared.line.Line.TheVariants.{Tick, Set, Operate, Load, Store, Alloc, Blit, Call}
use Rattle.rv_isa.specs.declared.instruction.RegOp.TheVariants.{Add}
use Rattle.vcode.specs.declared.line.Operation.TheVariants.{Reg, Compare}
use Rattle.vcode.specs.declared.line.Jump.{Jump}
use Rattle.vcode.specs.declared.line.Jump.TheVariants.{Goto, Branch, Return, Halt}
use Rattle.vcode.specs.declared.code.Block.{Block}
use Rattle.vcode.specs.declared.code.Code.{Code}
use Rattle.vcode.specs.Prelude.{distance, held, passed, operate, loaded, Values, unknown, put, assign, kept, virtual, located, State, bound, begin, value_of, read, read_argument, read_result, read_all, operated, address_of, goes_on, sets, takes, changes, weighs, ticks, receives, resumes, calls, line_step, compared, branches, returns, jump_step, block_step, step_in, step}
use Rattle.alloc_check.specs.Prelude.{placed_operand, placed_address, placed_argument, placed_destination, placed_line, placed_jump, placed_block, in_slots, RunsAlike}
use Rattle.std.proofs.lemmas.Option.{slice_get-map}

-- ---- states side by side

-- each slot has what its register has
abbrev pub Mirror : Values ℕ → Values Location → Type 0
Mirror ev el = (r : ℕ) → el (Slot r) ≡ ev r

-- the state with the values of the other code
abbrev pub carry : State ℕ → Values Location → State Location
carry s el =
    record { block = s.block; next = s.next; values = el; memory = s.memory; owned = s.owned; spent = s.spent }

abbrev pub Beside : State ℕ → State Location → Type 0
Beside s t = (el : Values Location) × (t ≡ carry s el) × Mirror s.values el

mirror_put : (ev : Values ℕ) (el : Values Location) (r : ℕ) (v : Value) → Mirror ev el → Mirror (put virtual r v ev) (put located (Slot r) v el)
mirror_put ev el r v m q = ap (λ (o : Option Value). if nat_eq q r then Some v else o) (m q)

-- ---- the start

mirror_bound : (ev : Values ℕ) (el : Values Location) (ds : List (Destination ℕ)) (vs : List Value) → Mirror ev el → Mirror (bound virtual ev ds vs) (bound located el (map (placed_destination Slot) ds) vs)
mirror_bound ev el [] vs m = m
mirror_bound ev el (d ∷ ds) [] m = m
mirror_bound ev el (d ∷ ds) (v ∷ vs) m =
    mirror_bound (put virtual d.place (held d.class v) ev) (put located (Slot d.place) (held d.class v) el) ds vs (mirror_put ev el d.place (held d.class v) m)

begins : (f : Code ℕ) (i : Given) → Beside (begin virtual f i) (begin located (in_slots f) i)
begins f i = (bound located unknown (map (placed_destination Slot) f.params) i.args, refl, mirror_bound unknown unknown f.params i.args (λ r. refl))

-- ---- operands

same_value : (globals : List Value) (ev : Values ℕ) (el : Values Location) (a : Operand ℕ) → Mirror ev el → value_of globals el (placed_operand Slot a) ≡ value_of globals ev a
same_value globals ev el (At r) m = m r
same_value globals ev el (Number n) m = refl
same_value globals ev el (Name g) m = refl

same_read : (globals : List Value) (ev : Values ℕ) (el : Values Location) (k : Class) (a : Operand ℕ) → Mirror ev el → read globals el k (placed_operand Slot a) ≡ read globals ev k a
same_read globals ev el k a m = ap (option_and_then (in_place k)) (same_value globals ev el a m)

same_read_all : (globals : List Value) (ev : Values ℕ) (el : Values Location) (args : List (Argument ℕ)) → Mirror ev el → read_all globals el (map (placed_argument Slot) args) ≡ read_all globals ev args
same_read_all globals ev el [] m = refl
same_read_all globals ev el (a ∷ args) m =
    ap (λ (o : Option (List Value)). option_and_then (λ v. option_map (λ vs. v ∷ vs) o) (read_argument globals el (placed_argument Slot a))) (same_read_all globals ev el args m)
    ∙ ap (λ (o : Option Value). option_and_then (λ v. option_map (λ vs. v ∷ vs) (read_all globals ev args)) (option_and_then (passed a.extension a.class) o)) (same_value globals ev el a.value m)

same_classes : (args : List (Argument ℕ)) → map (λ (a : Argument Location). a.class) (map (placed_argument Slot) args) ≡ map (λ (a : Argument ℕ). a.class) args
same_classes [] = refl
same_classes (a ∷ args) = ap (λ cs. a.class ∷ cs) (same_classes args)

same_wanted : (to : Option (Destination ℕ)) → option_map (λ (d : Destination Location). d.class) (option_map (placed_destination Slot) to) ≡ option_map (λ (d : Destination ℕ). d.class) to
same_wanted None = refl
same_wanted (Some d) = refl

-- ---- what a line does

abbrev pub Goes : Event (State ℕ) Asked Outcome → Event (State Location) Asked Outcome → Type 0
Goes e f = Together Beside Fine e f

sets_goes : (s : State ℕ) (el : Values Location) (r : ℕ) (o : Option Value) → Mirror s.values el → Goes (sets virtual s r o) (sets located (carry s el) (Slot r) o)
sets_goes s el r None m = λ f. absurd f
sets_goes s el r (Some v) m =
    (carry (record s { next = s.next + 1; values = put virtual r v s.values }) (put located (Slot r) v el), refl, (put located (Slot r) v el, refl, mirror_put s.values el r v m))

sets_goes_by : (s : State ℕ) (el : Values Location) (r : ℕ) (o p : Option Value) → p ≡ o → Mirror s.values el → Goes (sets virtual s r o) (sets located (carry s el) (Slot r) p)
sets_goes_by s el r o p e m = subst (λ (q : Option Value). Goes (sets virtual s r o) (sets located (carry s el) (Slot r) q)) (sym e) (sets_goes s el r o m)

mirror_assign : (ev : Values ℕ) (el : Values Location) (r : ℕ) (o p : Option Value) → p ≡ o → Mirror ev el → Mirror (assign virtual r o ev) (assign located (Slot r) p el)
mirror_assign ev el r o p e m q =
    ap (λ (x : Option Value). if nat_eq q r then x else el (Slot q)) e ∙ ap (λ (x : Option Value). if nat_eq q r then o else x) (m q)

takes_goes : (s : State ℕ) (el : Values Location) (r : ℕ) (o p : Option Value) → p ≡ o → Mirror s.values el → Goes (takes virtual s r o) (takes located (carry s el) (Slot r) p)
takes_goes s el r o p e m = (
  carry (record s { next = s.next + 1; values = assign virtual r o s.values }) (assign located (Slot r) p el),
  refl,
  (assign located (Slot r) p el, refl, mirror_assign s.values el r o p e m),
)

changes_goes : (s : State ℕ) (el : Values Location) (o : Option Memory) → Mirror s.values el → Goes (changes s o) (changes (carry s el) o)
changes_goes s el None m = λ f. absurd f
changes_goes s el (Some now) m = (carry (record s { next = s.next + 1; memory = now }) el, refl, (el, refl, m))

changes_goes_by : (s : State ℕ) (el : Values Location) (o p : Option Memory) → p ≡ o → Mirror s.values el → Goes (changes s o) (changes (carry s el) p)
changes_goes_by s el o p e m = subst (λ (q : Option Memory). Goes (changes s o) (changes (carry s el) q)) (sym e) (changes_goes s el o m)

ticks_by : (i : Given) (s : State ℕ) (el : Values Location) (w : ℕ) (b : Bool) → Mirror s.values el
    → Goes (if b then goes_on (record s { spent = both s.spent (one_turn w) }) else Does (Over (Ended s.spent Turns)))
    (if b then goes_on (record (carry s el) { spent = both s.spent (one_turn w) }) else Does (Over (Ended s.spent Turns)))
ticks_by i s el w true m = (carry (record s { next = s.next + 1; spent = both s.spent (one_turn w) }) el, refl, (el, refl, m))
ticks_by i s el w false m = λ f. refl

tick_goes : (i : Given) (s : State ℕ) (el : Values Location) (turn : Bool) (w : ℕ) → Mirror s.values el → Goes (ticks i s turn w) (ticks i (carry s el) turn w)
tick_goes i s el false w m = (carry (record s { next = s.next + 1; spent = both s.spent (weighs w) }) el, refl, (el, refl, m))
tick_goes i s el true w m = ticks_by i s el w (nat_lt s.spent.turns i.turns) m

receives_goes : (s : State ℕ) (el : Values Location) (to : Option (Destination ℕ)) (v : Option Value) → Mirror s.values el
    → TogetherNext Beside Fine (receives virtual s to v) (receives located (carry s el) (option_map (placed_destination Slot) to) v)
receives_goes s el None v m = (carry (record s { next = s.next + 1 }) el, refl, (el, refl, m))
receives_goes s el (Some d) None m = λ f. absurd f
receives_goes s el (Some d) (Some v) m = (
  carry (record s { next = s.next + 1; values = put virtual d.place (held d.class v) s.values }) (put located (Slot d.place) (held d.class v) el),
  refl,
  (put located (Slot d.place) (held d.class v) el, refl, mirror_put s.values el d.place (held d.class v) m),
)

resumes_goes : (s : State ℕ) (el : Values Location) (to : Option (Destination ℕ)) (o : Outcome) → Mirror s.values el
    → TogetherNext Beside Fine (resumes virtual s to o) (resumes located (carry s el) (option_map (placed_destination Slot) to) o)
resumes_goes s el to (Returned t v now) m =
    receives_goes (record s { values = kept virtual s.values; memory = now; spent = both s.spent t }) (kept located el) to v m
resumes_goes s el to (Ended t e) m = λ f. refl

calls_goes : (i : Given) (s : State ℕ) (el : Values Location) (to : Option (Destination ℕ)) (args : List (Argument ℕ)) (f : Option Value) (vs : Option (List Value)) → Mirror s.values el
    → Goes (calls virtual i s to args f vs) (calls located i (carry s el) (option_map (placed_destination Slot) to) (map (placed_argument Slot) args) f vs)
calls_goes i s el to args (Some (Function g)) (Some vs) m = (
  resumes located (carry s el) (option_map (placed_destination Slot) to),
  ap
      (λ (cs : List Class). Calls
      (record {
        call = record { callee = g; classes = cs; wants = option_map (λ (d : Destination Location). d.class) (option_map (placed_destination Slot) to); args = vs };
        turns = i.turns - s.spent.turns;
        room = i.room;
        memory = s.memory;
      })
      (resumes located (carry s el) (option_map (placed_destination Slot) to)))
      (same_classes args)
      ∙ ap
      (λ (ws : Option Class). Calls
      (record {
        call = record { callee = g; classes = map (λ (a : Argument ℕ). a.class) args; wants = ws; args = vs };
        turns = i.turns - s.spent.turns;
        room = i.room;
        memory = s.memory;
      })
      (resumes located (carry s el) (option_map (placed_destination Slot) to)))
      (same_wanted to),
  λ o. resumes_goes s el to o m,
)
calls_goes i s el to args (Some (Function g)) None m = λ f. absurd f
calls_goes i s el to args (Some (Integer n)) vs m = λ f. absurd f
calls_goes i s el to args (Some (Pointer b o)) vs m = λ f. absurd f
calls_goes i s el to args None vs m = λ f. absurd f

same_two : {R : Type 0} (globals : List Value) (ev : Values ℕ) (el : Values Location) (a b : Operand ℕ) (act : Value → Value → Option R) → Mirror ev el
    → option_and_then (λ u. option_and_then (λ v. act u v) (value_of globals el (placed_operand Slot b))) (value_of globals el (placed_operand Slot a))
    ≡ option_and_then (λ u. option_and_then (λ v. act u v) (value_of globals ev b)) (value_of globals ev a)
same_two {R} globals ev el a b act m =
    ap (λ (o : Option Value). option_and_then (λ u. option_and_then (λ v. act u v) o) (value_of globals el (placed_operand Slot a))) (same_value globals ev el b m)
    ∙ ap (λ (o : Option Value). option_and_then (λ u. option_and_then (λ v. act u v) (value_of globals ev b)) o) (same_value globals ev el a m)

same_address : (globals : List Value) (m : Memory) (ev : Values ℕ) (el : Values Location) (at : Address ℕ) → Mirror ev el
    → address_of globals m el (placed_address Slot at) ≡ address_of globals m ev at
same_address globals m ev el at mirror =
    ap (λ (o : Option Value). if nat_eq (distance at) 0 then o else operated m (Reg Add) (value_of globals el (placed_operand Slot at.base)) (value_of globals el (Number (distance at))))
    (same_value globals ev el at.base mirror)
    ∙ ap (λ (o : Option Value). if nat_eq (distance at) 0 then value_of globals ev at.base else o)
    (same_two globals ev el at.base (Number (distance at)) (operate m (Reg Add)) mirror)

line_goes : (globals : List Value) (i : Given) (s : State ℕ) (el : Values Location) (l : Line ℕ) → Mirror s.values el
    → Goes (line_step virtual globals i s l) (line_step located globals i (carry s el) (placed_line Slot l))
unfolding line_step
line_goes globals i s el (Tick turn w) m = tick_goes i s el turn w m
line_goes globals i s el (Set to a) m =
    takes_goes s el to (value_of globals s.values a) (value_of globals el (placed_operand Slot a)) (same_value globals s.values el a m) m
line_goes globals i s el (Operate to op a b) m =
    takes_goes s el to
    (option_and_then (λ u. option_and_then (λ v. operate s.memory op u v) (value_of globals s.values b)) (value_of globals s.values a))
    (option_and_then (λ u. option_and_then (λ v. operate s.memory op u v) (value_of globals el (placed_operand Slot b))) (value_of globals el (placed_operand Slot a)))
    (same_two globals s.values el a b (operate s.memory op) m) m
line_goes globals i s el (Load to op at) m =
    sets_goes_by s el to
    (option_and_then (loaded s.memory op) (address_of globals s.memory s.values at)) (option_and_then (loaded s.memory op) (address_of globals s.memory el (placed_address Slot at)))
    (ap (option_and_then (loaded s.memory op)) (same_address globals s.memory s.values el at m)) m
line_goes globals i s el (Store size a at) m =
    changes_goes_by s el
    (option_and_then (λ v. option_and_then (λ p. store s.memory (byte_count size) p v) (address_of globals s.memory s.values at)) (read globals s.values (stored_class size) a))
    (option_and_then (λ v. option_and_then (λ p. store s.memory (byte_count size) p v) (address_of globals s.memory el (placed_address Slot at))) (read globals el (stored_class size) (placed_operand Slot a)))
    (ap (λ (o : Option Value). option_and_then (λ v. option_and_then (λ p. store s.memory (byte_count size) p v) o) (read globals el (stored_class size) (placed_operand Slot a)))
    (same_address globals s.memory s.values el at m)
    ∙ ap (λ (o : Option Value). option_and_then (λ v. option_and_then (λ p. store s.memory (byte_count size) p v) (address_of globals s.memory s.values at)) o)
    (same_read globals s.values el (stored_class size) a m))
    m
line_goes globals i s el (Alloc None size) m =
    (carry (record s { next = s.next + 1; memory = fresh s.memory size; owned = s.owned ++ length s.memory ∷ [] }) el, refl, (el, refl, m))
line_goes globals i s el (Alloc (Some to) size) m = (
  carry (record s { next = s.next + 1; values = put virtual to (Pointer (length s.memory) 0) s.values; memory = fresh s.memory size; owned = s.owned ++ length s.memory ∷ [] })
      (put located (Slot to) (Pointer (length s.memory) 0) el),
  refl,
  (put located (Slot to) (Pointer (length s.memory) 0) el, refl, mirror_put s.values el to (Pointer (length s.memory) 0) m),
)
line_goes globals i s el (Blit from to count) m =
    changes_goes_by s el
    (option_and_then (λ p. option_and_then (λ q. copy s.memory count p q) (value_of globals s.values to)) (value_of globals s.values from))
    (option_and_then (λ p. option_and_then (λ q. copy s.memory count p q) (value_of globals el (placed_operand Slot to))) (value_of globals el (placed_operand Slot from)))
    (same_two globals s.values el from to (λ p q. copy s.memory count p q) m)
    m
line_goes globals i s el (Call to callee args) m =
    subst
    (λ (f : Option Value). Goes (calls virtual i s to args (value_of globals s.values callee) (read_all globals s.values args))
    (calls located i (carry s el) (option_map (placed_destination Slot) to) (map (placed_argument Slot) args) f (read_all globals el (map (placed_argument Slot) args))))
    (sym (same_value globals s.values el callee m))
    (subst
    (λ (vs : Option (List Value)). Goes (calls virtual i s to args (value_of globals s.values callee) (read_all globals s.values args))
    (calls located i (carry s el) (option_map (placed_destination Slot) to) (map (placed_argument Slot) args) (value_of globals s.values callee) vs))
    (sym (same_read_all globals s.values el args m))
    (calls_goes i s el to args (value_of globals s.values callee) (read_all globals s.values args) m))

-- ---- what a jump does

branch_goes : (s : State ℕ) (el : Values Location) (met otherwise : ℕ) (o : Option Value) → Mirror s.values el → Goes (branches s met otherwise o) (branches (carry s el) met otherwise o)
branch_goes s el met otherwise (Some (Integer n)) m =
    (carry (record s { block = if nat_eq n 0 then otherwise else met; next = 0 }) el, refl, (el, refl, m))
branch_goes s el met otherwise (Some (Pointer b o)) m = λ f. absurd f
branch_goes s el met otherwise (Some (Function g)) m = λ f. absurd f
branch_goes s el met otherwise None m = λ f. absurd f

returns_goes : (s : State ℕ) (el : Values Location) (o : Option Value) → Mirror s.values el → Goes (returns s o) (returns (carry s el) o)
returns_goes s el None m = λ f. absurd f
returns_goes s el (Some v) m = λ f. refl

jump_goes : (globals : List Value) (result : Option Class) (s : State ℕ) (el : Values Location) (j : Jump ℕ) → Mirror s.values el
    → Goes (jump_step globals result s j) (jump_step globals result (carry s el) (placed_jump Slot j))
unfolding jump_step
jump_goes globals result s el (Goto k) m = (carry (record s { block = k; next = 0 }) el, refl, (el, refl, m))
jump_goes globals result s el (Branch on met otherwise) m =
    subst (λ (o : Option Value). Goes (branches s met otherwise (compared globals s on)) (branches (carry s el) met otherwise o))
    (sym (same_two globals s.values el on.left on.right (operate s.memory (Compare on.condition on.class)) m))
    (branch_goes s el met otherwise (compared globals s on) m)
jump_goes globals result s el (Return None) m = λ f. refl
jump_goes globals None s el (Return (Some a)) m = λ f. absurd f
jump_goes globals (Some k) s el (Return (Some a)) m =
    subst (λ (o : Option Value). Goes (returns s (read_result globals s.values k a)) (returns (carry s el) o))
    (sym (ap (option_and_then (passed a.extension k)) (same_value globals s.values el a.value m)))
    (returns_goes s el (read_result globals s.values k a) m)
jump_goes globals result s el Halt m = λ f. refl

-- ---- a step

block_goes : (globals : List Value) (v : Code ℕ) (i : Given) (s : State ℕ) (el : Values Location) (b : Block ℕ) (o : Option (Line ℕ)) → Mirror s.values el
    → Goes (block_step virtual globals v i s b o) (block_step located globals (in_slots v) i (carry s el) (placed_block Slot b) (option_map (placed_line Slot) o))
block_goes globals v i s el b (Some l) m = line_goes globals i s el l m
block_goes globals v i s el b None m = jump_goes globals v.result s el b.jump m

step_in_goes : (globals : List Value) (v : Code ℕ) (i : Given) (s : State ℕ) (el : Values Location) (o : Option (Block ℕ)) → Mirror s.values el
    → Goes (step_in virtual globals v i s o) (step_in located globals (in_slots v) i (carry s el) (option_map (placed_block Slot) o))
step_in_goes globals v i s el None m = λ f. absurd f
step_in_goes globals v i s el (Some b) m =
    subst
    (λ (l : Option (Line Location)). Goes (block_step virtual globals v i s b (slice_get b.lines s.next)) (block_step located globals (in_slots v) i (carry s el) (placed_block Slot b) l))
    (sym (slice_get-map (placed_line Slot) b.lines s.next))
    (block_goes globals v i s el b (slice_get b.lines s.next) m)

step_goes : (globals : List Value) (v : Code ℕ) (i : Given) (s : State ℕ) (el : Values Location) → Mirror s.values el
    → Goes (step virtual globals v i s) (step located globals (in_slots v) i (carry s el))
unfolding step
step_goes globals v i s el m =
    subst (λ (b : Option (Block Location)). Goes (step_in virtual globals v i s (slice_get v.blocks s.block)) (step_in located globals (in_slots v) i (carry s el) b))
    (sym (slice_get-map (placed_block Slot) v.blocks s.block))
    (step_in_goes globals v i s el (slice_get v.blocks s.block) m)

lockstep : (globals : List Value) (v : Code ℕ) (i : Given) → Lockstep Beside Fine (step virtual globals v i) (step located globals (in_slots v) i)
lockstep globals v i s t h =
    subst (λ (u : State Location). Goes (step virtual globals v i s) (step located globals (in_slots v) i u)) (sym h.1) (step_goes globals v i s h.0 h.2)

pub slots_keep : (v : Code ℕ) → RunsAlike v (in_slots v)
slots_keep v globals =
    lockstep_keeps (map (λ d. d.class) v.params) (begin virtual v) (step virtual globals v) (begin located (in_slots v)) (step located globals (in_slots v)) (λ i. Beside)
    (λ i args. begins v i)
    (λ i. lockstep globals v i)
