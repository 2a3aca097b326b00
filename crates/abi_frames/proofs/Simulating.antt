-- The machine follows the code on bytes, line by line: what holds at a line, and that it holds at the next one, until the code is over.
use Rattle.std.proofs.Common.{◌≡◌, ◌≢◌, ℕ, zero, suc, ◌+◌, ◌-◌, ◌*◌, ◌<◌, ◌≤◌, Bool, true, false, List, [], ◌∷◌, ◌++◌, refl, sym, ◌∙◌, ap, subst, arith, lit<, zero-add, append_assoc, append-nil, not, ◌&&◌, nat_eq, nat_lt, if◌then◌else◌, slice_get, Option, Some, None, Err}
use Rattle.il_ast.specs.declared.limits.TheConstants.{FUNCTION_WEIGHT}
use Rattle.abi_frames.proofs.Shared.{Class, State, Item, Label, Location, Operand, ReturnValue, Operation, Line, Comparison, Jump, Block, Code, LoadOp, option_map, option_and_then, list_all, list_any, and_parts, leb-true, longest_size, none_is_not, same_Some, nat_tests, sum_by-cons, number_at, is_place, operand_keeps, line_keeps}
use Rattle.il_ast.specs.Prelude.{holds, truth, Spent, one_turn, both, Over, Does, Logged}
use Rattle.il_ast.specs.declared.value.End.TheVariants.{Halt as Halted, Turns}
use Rattle.rv_isa.specs.Prelude.{step, Broken, runs, then_run, Stand, Stands, load_size, load_value}
use Rattle.rv_isa.specs.declared.instruction.Instr.TheVariants.{Ebreak}
use Rattle.rv_isa.proofs.RunLemmas.{comes_then}
use Rattle.rv_isa.proofs.StepLemmas.{step_at}
use Rattle.vcode.specs.declared.place.Address.{Address}
use Rattle.vcode.specs.declared.line.Line.TheVariants.{Tick, Set, Operate, Load, Store, Alloc, Blit, Call}
use Rattle.vcode.specs.declared.line.Operation.TheVariants.{Compare}
use Rattle.vcode.specs.declared.line.Jump.TheVariants.{Goto, Branch, Return, Halt}
use Rattle.vcode.specs.Prelude.{area, turns_of, alloc_bytes, is_alloc, is_target, jump_cost, weighs}
use Rattle.flat_code.specs.Flat.{NoAccess, ThisByte, Spots, FlatGiven, FlatOutcome, FlatReturned, FlatEnded}
use Rattle.abi_frames.proofs.Reading.{read_is}
use Rattle.flat_code.specs.Step.{known_number, FlatState, Numbers, put, number_of, taken, passed as read_passed, operated, computed, closed, is_in, sets, ticks, fails, goes_on, enters, compared, branches, returns, returns_as, flat_line, flat_jump, block_step, step_in, flat_step, address_of}
use Rattle.abi_frames.specs.Performs.{ResultIn, passed, HoldsSpots, AllPerform, most_in_lines}
use Rattle.abi_frames.specs.Emission.{passed_class, lines_items, goto_items, branch_items, result_items, leave_items, epilogue, end_items, left_behind, left_by_value, copies_end}
use Rattle.operation_code.proofs.Leading.{StandAt, Leads, Sets}
use Rattle.abi_frames.proofs.Leads.{leads_as}
use Rattle.abi_frames.proofs.Addressing.{is_based}
use Rattle.abi_frames.proofs.Activations.{Setting, site, save_at, operand_in, Framed, operand_known, assigned, assigned_output, held_below, held_not_10, next_index}
use Rattle.abi_frames.proofs.LineCode.{leads_set_line, leads_operate_line, leads_load_line}
use Rattle.abi_frames.proofs.FrameEnds.{ends_frame}
use Rattle.abi_frames.proofs.LineCode.{Scratched}
use Rattle.abi_frames.proofs.Pacing.{landing, standing, few_standing, lands_on, falls_on}
use Rattle.abi_frames.proofs.Calling.{PassedSo, passed_so}
use Rattle.abi_frames.proofs.JumpCode.{Arrives, jumps_goto, meets, jumps_branch, leads_result, way_by}
use Rattle.abi_frames.proofs.Sizes.{result_size, goto_size, branch_items_size, epilogue_size}
use Rattle.abi_frames.proofs.Storing.{store_case}
use Rattle.abi_frames.proofs.CallCase.{call_case}
use Rattle.abi_frames.proofs.Simulation.{BlockAt, CodeStands, allowed, At, AtJump, Landed, Performed, step_of, nothing_taken, later_fits, Log, Follows, Then, undefined, framed_same, reach, advance, may_write}
use Rattle.abi_frames.proofs.Making.{alloc_case}
use Rattle.abi_frames.proofs.Copying.{blit_case}

-- a tick
abbrev tick : Bool → ℕ → Line Location
tick turn w = Tick turn w

ticked : (c : Setting) (f : Code Location) (b : Block Location) (turn : Bool) (w : ℕ) (lines : List (Line Location)) (fs : FlatState) (k : ℕ) (u : State) (t : Spent)
    → (a : At c f b (Tick turn w ∷ lines) fs k u) → t.turns ≡ fs.spent.turns + turns_of (tick turn w) → t.weight ≡ fs.spent.weight + w
    → t.calls ≡ fs.spent.calls → t.output ≡ fs.spent.output
    → At c f b lines (record fs { next = fs.next + 1; spent = t }) k u
ticked c f b turn w lines fs k u t a turns weight calls output =
    let price = a.price in
    let pace = a.pace in
    let sum = sum_by-cons turns_of (Tick turn w) lines in
    let room = a.room in
    let bytes = sum_by-cons alloc_bytes (Tick turn w) lines in
    record {
      block = a.block;
      ahead = λ i. ap (λ n. slice_get b.lines n) (next_index fs.next i) ∙ a.ahead (suc i);
      rest = a.rest;
      stands = a.stands;
      fixed = a.fixed;
      framed = a.framed;
      comes = a.comes;
      output = a.output ∙ ap (λ o. c.start.output ++ o) (sym output);
      known = a.known;
      jump_known = a.jump_known;
      credit = a.credit + 32 * w;
      paid = a.paid;
      price = omega (arith, price, weight, calls);
      pace = omega (arith, pace, sum, turns);
      blocks = a.blocks;
      inside = a.inside;
      used = a.used + 0;
      room = omega (arith, room, bytes);
      used_is = λ e. a.used_is e ∙ nothing_taken a.used;
      passes = later_fits 0 (most_in_lines lines) c.layout.saves a.passes;
      stood = a.stood;
    }

out_of_turns : (c : Setting) (f : Code Location) (b : Block Location) (lines : List (Line Location)) (fs : FlatState) (k : ℕ) (u : State) (r : FlatOutcome)
    → At c f b lines fs k u → FlatEnded fs.spent Turns ≡ r → Performed c f r
out_of_turns c f b lines fs k u r a e =
    let price = a.price in
    let bound = few_standing f fs.block in
    let pace = a.pace in
    let stop : Performed c f (FlatEnded fs.spent Turns) = record {
      steps = k;
      after = u;
      comes = a.comes;
      price = omega (arith, price);
      pace = omega (arith, bound, pace);
      output = a.output;
    } in
    subst (λ o. Performed c f o) e stop

tick_case : (c : Setting) (f : Code Location) (j : FlatGiven) (r : FlatOutcome) (n : ℕ) → Follows c f j r n
    → (b : Block Location) (turn : Bool) (w : ℕ) (lines : List (Line Location)) (fs : FlatState) (k : ℕ) (u : State) → At c f b (Tick turn w ∷ lines) fs k u
    → (log : Log) → Then c f j r n log (ticks j fs turn w) → AllPerform c.world c.floor log → Performed c f r
tick_case c f j r n go b false w lines fs k u a log goes all =
    go b lines (record fs { next = fs.next + 1; spent = both fs.spent (weighs w) }) k u
    (ticked c f b false w lines fs k u (both fs.spent (weighs w)) a refl refl (omega arith) (append-nil fs.spent.output)) log goes all
tick_case c f j r n go b true w lines fs k u a log goes all = by_test (nat_lt fs.spent.turns j.turns) goes
  where
    by_test : (t : Bool)
        → Then c f j r n log (if t then goes_on (record fs { spent = both fs.spent (one_turn w) }) else Does (Over (FlatEnded fs.spent Turns)))
        → Performed c f r
    by_test true e =
        go b lines (record fs { next = fs.next + 1; spent = both fs.spent (one_turn w) }) k u
        (ticked c f b true w lines fs k u (both fs.spent (one_turn w)) a refl refl (omega arith) (append-nil fs.spent.output)) log e all
    by_test false e = out_of_turns c f b (Tick true w ∷ lines) fs k u r a e.0

-- a copy
set_case : (c : Setting) (f : Code Location) → CodeStands c f → (j : FlatGiven) (r : FlatOutcome) (n : ℕ) → Follows c f j r n
    → (b : Block Location) (to : Location) (x : Operand Location) (lines : List (Line Location)) (fs : FlatState) (k : ℕ) (u : State)
    → At c f b (Set to x ∷ lines) fs k u → (log : Log)
    → Then c f j r n log (goes_on (record fs { numbers = put to (number_of c.addresses fs.numbers x) fs.numbers }))
    → AllPerform c.world c.floor log → Performed c f r
set_case c f is j r n go b to x lines fs k u a log goes all =
    let numbers : Numbers = put to (number_of c.addresses fs.numbers x) fs.numbers in
    let known = and_parts (is_place c.slots to) (operand_keeps (is_place c.slots) x)
    (and_parts (line_keeps (is_place c.slots) (Set to x)) (list_all (line_keeps (is_place c.slots)) lines) a.known).0 in
    let v : ℕ = operand_in c u x in
    let may = may_write c f is b (Set to x) lines fs k u a to known.0 (λ q. refl) in
    let m = reach c f b (Set to x) lines fs k u (λ w. Framed c numbers fs.memory w × (w.output ≡ u.output)) a
    (leads_as (leads_set_line c is.setting u to x a.framed.pointer known.0 known.1)
    (λ w fixed made. (
      assigned c is.setting fs.numbers fs.memory u w to v (number_of c.addresses fs.numbers x) known.0 may a.framed made
          (λ y e. operand_known c fs.numbers fs.memory u x y is.setting a.framed known.1 e),
      assigned_output c u to v w made,
    ))) in
    go b lines (record fs { next = fs.next + 1; numbers = numbers }) (k + m.steps) m.after
    (advance c f b (Set to x) lines fs k u numbers fs.memory fs.used a refl (nothing_taken fs.used) a.paid m) log goes all

-- an operation of what is known of its operands
operation_known : (op : Operation) (x y : ℕ) (o q : Option ℕ) → ((v : ℕ) → o ≡ Some v → x ≡ v) → ((w : ℕ) → q ≡ Some w → y ≡ w)
    → (e : ℕ) → option_and_then (λ v. option_map (λ w. computed op v w) q) o ≡ Some e → computed op x y ≡ e
operation_known op x y None q at_x at_y e is = cc
operation_known op x y (Some v) None at_x at_y e is = cc
operation_known op x y (Some v) (Some w) at_x at_y e is =
    ap (λ z. computed op z y) (at_x v refl) ∙ ap (computed op v) (at_y w refl) ∙ (let same : computed op v w ≡ e = cc in same)

-- an operation
operate_case : (c : Setting) (f : Code Location) → CodeStands c f → (j : FlatGiven) (r : FlatOutcome) (n : ℕ) → Follows c f j r n
    → (b : Block Location) (to : Location) (op : Operation) (x y : Operand Location) (lines : List (Line Location)) (fs : FlatState) (k : ℕ) (u : State)
    → At c f b (Operate to op x y ∷ lines) fs k u → (log : Log)
    → Then c f j r n log (goes_on (record fs { numbers = put to (operated op (number_of c.addresses fs.numbers x) (number_of c.addresses fs.numbers y)) fs.numbers }))
    → AllPerform c.world c.floor log → Performed c f r
operate_case c f is j r n go b to op x y lines fs k u a log goes all =
    let given = operated op (number_of c.addresses fs.numbers x) (number_of c.addresses fs.numbers y) in
    let numbers : Numbers = put to given fs.numbers in
    let known = and_parts (is_place c.slots to) (operand_keeps (is_place c.slots) x && operand_keeps (is_place c.slots) y)
    (and_parts (line_keeps (is_place c.slots) (Operate to op x y)) (list_all (line_keeps (is_place c.slots)) lines) a.known).0 in
    let operands = and_parts (operand_keeps (is_place c.slots) x) (operand_keeps (is_place c.slots) y) known.1 in
    let made : ℕ = computed op (operand_in c u x) (operand_in c u y) in
    let may = may_write c f is b (Operate to op x y) lines fs k u a to known.0 (λ q. refl) in
    let m = reach c f b (Operate to op x y) lines fs k u (λ t. Framed c numbers fs.memory t × (t.output ≡ u.output)) a
    (leads_as (leads_operate_line c is.setting u to op x y a.framed.pointer known.0 operands.0 operands.1)
    (λ t fixed wrote. (
      assigned c is.setting fs.numbers fs.memory u t to made given known.0 may a.framed wrote
          (operation_known op (operand_in c u x) (operand_in c u y) (number_of c.addresses fs.numbers x) (number_of c.addresses fs.numbers y)
          (λ v e. operand_known c fs.numbers fs.memory u x v is.setting a.framed operands.0 e) (λ w e. operand_known c fs.numbers fs.memory u y w is.setting a.framed operands.1 e)),
      assigned_output c u to made t wrote,
    ))) in
    go b lines (record fs { next = fs.next + 1; numbers = numbers }) (k + m.steps) m.after
    (advance c f b (Operate to op x y) lines fs k u numbers fs.memory fs.used a refl (nothing_taken fs.used) a.paid m) log goes all

-- a load
loaded : (c : Setting) (f : Code Location) → CodeStands c f → (j : FlatGiven) (r : FlatOutcome) (n : ℕ) → Follows c f j r n
    → (b : Block Location) (to : Location) (op : LoadOp) (x : Address Location) (lines : List (Line Location)) (fs : FlatState) (k : ℕ) (u : State)
    → At c f b (Load to op x ∷ lines) fs k u → (log : Log) → AllPerform c.world c.floor log
    → (p v : ℕ) → address_of c.addresses fs.numbers x ≡ Some p → known_number fs.memory p (load_size op) ≡ Some v
    → Then c f j r n log (goes_on (record fs { numbers = put to (Some (load_value op v)) fs.numbers })) → Performed c f r
loaded c f is j r n go b to op x lines fs k u a log all p v is_x is_v goes =
    let numbers : Numbers = put to (Some (load_value op v)) fs.numbers in
    let known = and_parts (is_place c.slots to) (operand_keeps (is_place c.slots) x.base)
    (and_parts (line_keeps (is_place c.slots) (Load to op x)) (list_all (line_keeps (is_place c.slots)) lines) a.known).0 in
    let based = is_based c fs.numbers fs.memory u x p is.setting a.framed known.1 is_x in
    let read = read_is c.world.memory_map fs.memory u p (load_size op) v a.framed.spots is_v in
    let made_v : ℕ = load_value op (number_at u.bytes p (load_size op)) in
    let value : made_v ≡ load_value op v = ap (load_value op) read.value in
    let may = may_write c f is b (Load to op x) lines fs k u a to known.0 (λ q. refl) in
    let m = reach c f b (Load to op x) lines fs k u (λ t. Framed c numbers fs.memory t × (t.output ≡ u.output)) a
    (leads_as (leads_load_line c is.setting u to op x p a.framed.pointer known.0 known.1 based read.usable)
    (λ t fixed made. (
      assigned c is.setting fs.numbers fs.memory u t to made_v (Some (load_value op v)) known.0 may a.framed made (λ q e. value ∙ same_Some (load_value op v) q e),
      assigned_output c u to made_v t made,
    ))) in
    go b lines (record fs { next = fs.next + 1; numbers = numbers }) (k + m.steps) m.after
    (advance c f b (Load to op x) lines fs k u numbers fs.memory fs.used a refl (nothing_taken fs.used) a.paid m) log goes all

load_case : (c : Setting) (f : Code Location) → CodeStands c f → (j : FlatGiven) (r : FlatOutcome) (n : ℕ) → Follows c f j r n
    → (b : Block Location) (to : Location) (op : LoadOp) (x : Address Location) (lines : List (Line Location)) (fs : FlatState) (k : ℕ) (u : State)
    → At c f b (Load to op x ∷ lines) fs k u → (log : Log) → AllPerform c.world c.floor log
    → Then c f j r n log
    (sets fs to (option_and_then (λ p. option_map (load_value op) (known_number fs.memory p (load_size op))) (address_of c.addresses fs.numbers x)))
    → Performed c f r
load_case c f is j r n go b to op x lines fs k u a log all goes = by_address (address_of c.addresses fs.numbers x) refl goes
  where
    by_number : (p : ℕ) → address_of c.addresses fs.numbers x ≡ Some p → (o : Option ℕ) → known_number fs.memory p (load_size op) ≡ o
        → Then c f j r n log (sets fs to (option_map (load_value op) o)) → Performed c f r
    by_number p e None d e_goes = undefined c f fs.spent r e_goes.0
    by_number p e (Some v) d e_goes = loaded c f is j r n go b to op x lines fs k u a log all p v e d e_goes

    by_address : (o : Option ℕ) → address_of c.addresses fs.numbers x ≡ o
        → Then c f j r n log (sets fs to (option_and_then (λ p. option_map (load_value op) (known_number fs.memory p (load_size op))) o)) → Performed c f r
    by_address None e e_goes = undefined c f fs.spent r e_goes.0
    by_address (Some p) e e_goes = by_number p e (known_number fs.memory p (load_size op)) refl e_goes

line_case : (c : Setting) (f : Code Location) → CodeStands c f → (j : FlatGiven) (r : FlatOutcome) (n : ℕ) → Follows c f j r n
    → (b : Block Location) (l : Line Location) (lines : List (Line Location)) (fs : FlatState) (k : ℕ) (u : State)
    → At c f b (l ∷ lines) fs k u → (log : Log) → Then c f j r n log (flat_line c.addresses (c.sp - c.area) j fs l)
    → AllPerform c.world c.floor log → Performed c f r
unfolding flat_line
line_case c f is j r n go b (Tick turn w) lines fs k u a log goes all = tick_case c f j r n go b turn w lines fs k u a log goes all
line_case c f is j r n go b (Set to x) lines fs k u a log goes all = set_case c f is j r n go b to x lines fs k u a log goes all
line_case c f is j r n go b (Operate to op x y) lines fs k u a log goes all = operate_case c f is j r n go b to op x y lines fs k u a log goes all
line_case c f is j r n go b (Load to op at) lines fs k u a log goes all = load_case c f is j r n go b to op at lines fs k u a log all goes
line_case c f is j r n go b (Store size x at) lines fs k u a log goes all = store_case c f is j r n go b size x at lines fs k u a log goes all
line_case c f is j r n go b (Alloc to size) lines fs k u a log goes all = alloc_case c f is j r n go b to size lines fs k u a log goes all
line_case c f is j r n go b (Blit from to count) lines fs k u a log goes all = blit_case c f is j r n go b from to count lines fs k u a log goes all
line_case c f is j r n go b (Call to callee args) lines fs k u a log goes all = call_case c f is j r n go b to callee args lines fs k u a log goes all

-- ---- jumps

-- after the code of a jump, which has so many words
landed : (c : Setting) (f : Code Location) (j : Jump Location) (fs : FlatState) (k : ℕ) (u : State) (l extra words : ℕ) (a : AtJump c f j fs k u) → words ≤ jump_cost j
    → (m : Arrives (site c) c.layout.falls (fs.block + 1) words u l (Scratched u))
    → fs.spent.turns ≤ FUNCTION_WEIGHT * (k + m.steps) + extra → Landed c (c.label l) extra fs (k + m.steps) m.after
landed c f j fs k u l extra words a size m pace =
    let few = m.few in
    let paid = a.paid in
    let price = a.price in
    record {
      place = m.place;
      fixed = m.fixed;
      framed = framed_same c fs.numbers fs.memory u m.after a.framed m.holds;
      comes = comes_then a.comes m.comes;
      output = m.holds.output ∙ a.output;
      price = omega (arith, few, size, paid, price);
      pace = pace;
    }

-- a jump is an instruction, which pays for all that stands before its target; where there is none, the code goes on with the next block
keeps_pace : (c : Setting) (f : Code Location) → CodeStands c f → (i l turns k steps : ℕ) → turns ≤ FUNCTION_WEIGHT * k + standing f i
    → (steps ≡ 0 → (c.layout.falls ≡ true) × (l ≡ i + 1)) → turns ≤ FUNCTION_WEIGHT * (k + steps) + landing f l
keeps_pace c f is i l turns k steps pace fell = by_test (nat_eq steps 0) refl
  where
    by_test : (b : Bool) → nat_eq steps 0 ≡ b → turns ≤ FUNCTION_WEIGHT * (k + steps) + landing f l
    by_test true e =
        let none : steps ≡ 0 = grind (arith, nat_tests) in
        let both = fell none in
        let same = falls_on f i l (sym is.falls ∙ both.0) both.1 in
        omega (arith, pace, none, same)
    by_test false e =
        let some : 0 < steps = grind (arith, nat_tests) in
        let bound = few_standing f i in
        omega (arith, pace, some, bound)

-- at the label of a block
lands : (c : Setting) (f : Code Location) → CodeStands c f → (j : Jump Location) (fs : FlatState) (k : ℕ) (u : State) (l words : ℕ) (a : AtJump c f j fs k u) → words ≤ jump_cost j
    → (m : Arrives (site c) c.layout.falls (fs.block + 1) words u l (Scratched u))
    → Landed c (c.label l) (landing f l) fs (k + m.steps) m.after
lands c f is j fs k u l words a size m = landed c f j fs k u l (landing f l) words a size m (keeps_pace c f is fs.block l fs.spent.turns k m.steps a.pace m.fell)

-- what comes of an event that is over
no_block : (c : Setting) (f : Code Location) (j : FlatGiven) (t : FlatState) → slice_get f.blocks t.block ≡ None → step_of c f j t ≡ fails t
unfolding flat_step
no_block c f j t e = ap (step_in f c.addresses (c.sp - c.area) j t) e

undefined_next : (c : Setting) (f : Code Location) (j : FlatGiven) (r : FlatOutcome) (n : ℕ) (t : FlatState) (log : Log) → step_of c f j t ≡ fails t
    → Logged (step_of c f j) n t log r → Performed c f r
unfolding Logged
undefined_next c f j r zero t log e goes = absurd goes
undefined_next c f j r (suc n) t log e goes =
    let over : Then c f j r n log (fails t) = subst (λ v. Then c f j r n log v) e goes in
    undefined c f t.spent r over.0

-- no byte of the area is taken before the first block
none_used : (i n : ℕ) (lines : List (Line Location)) → (i ≡ 0 → n ≡ 0) → (0 < i → list_any is_alloc lines ≡ false) → list_any is_alloc lines ≡ true → n ≡ 0
none_used i n lines new made_first h = by_test (nat_eq i 0) refl
  where
    both_ways : (b : Bool) → b ≡ true → b ≡ false → ⊥
    both_ways b e d = cc

    by_test : (b : Bool) → nat_eq i 0 ≡ b → n ≡ 0
    by_test true e = new (grind (arith, nat_tests))
    by_test false e = absurd (both_ways (list_any is_alloc lines) h (made_first (grind (arith, nat_tests))))

-- a jump goes to no first block
not_first : (blocks i n : ℕ) → is_target blocks i ≡ true → i ≡ 0 → n ≡ 0
not_first blocks i n h e =
    let some = (and_parts (nat_lt 0 i) (nat_lt i blocks) h).0 in
    absurd (let no : ⊥ = grind (arith, nat_tests) in no)

-- at the first line of a block, with what is paid for it
pub enter_block : (c : Setting) (f : Code Location) (j : FlatGiven) (r : FlatOutcome) (n : ℕ) → Follows c f j r n
    → (i at credit : ℕ) (b : Block Location) → slice_get f.blocks i ≡ Some b → BlockAt c b i at credit → (fs : FlatState) (k : ℕ) (u : State)
    → Landed c at (landing f i) fs k u → k + credit + c.reserve ≤ allowed fs → (i ≡ 0 → fs.used ≡ 0) → (log : Log)
    → Logged (step_of c f j) n (record fs { block = i; next = 0 }) log r → AllPerform c.world c.floor log → Performed c f r
enter_block c f j r n go i at credit b e there fs k u a price new log goes all =
    let stands = there.block in
    let given = there.given in
    let paced = lands_on f i b e stands.paced in
    let pace = a.pace in
    let room = stands.room in
    go b b.lines (record fs { block = i; next = 0 }) k u
    (record {
      block = e;
      ahead = λ q. ap (λ i. slice_get b.lines i) (zero-add q);
      rest = stands.rest;
      used = 0;
      stands = subst (λ x. StandAt (site c) ((lines_items c.layout 0 b.lines ++ end_items c.layout c.saved i b) ++ (Label (i + 1) ∷ stands.rest)) x) (there.here ∙ sym a.place)
          stands.stands;
      fixed = a.fixed;
      framed = a.framed;
      comes = a.comes;
      output = a.output;
      known = stands.known;
      jump_known = stands.jump_known;
      credit = stands.credit;
      paid = stands.paid;
      price = omega (arith, price, given);
      pace = omega (arith, paced, pace);
      blocks = stands.blocks;
      inside = stands.inside;
      room = omega (arith, room);
      used_is = λ h. none_used i fs.used b.lines new stands.made_first h;
      passes = stands.passes;
      stood = stands;
    }) log goes all

pub enter : (c : Setting) (f : Code Location) → CodeStands c f → (j : FlatGiven) (r : FlatOutcome) (n : ℕ) → Follows c f j r n
    → (i : ℕ) (fs : FlatState) (k : ℕ) (u : State) → c.reached i ≡ true → Landed c (c.label i) (landing f i) fs k u → (i ≡ 0 → fs.used ≡ 0) → (log : Log)
    → Logged (step_of c f j) n (record fs { block = i; next = 0 }) log r → AllPerform c.world c.floor log → Performed c f r
enter c f is j r n go i fs k u there a new log goes all = by_block (slice_get f.blocks i) refl
  where
    by_owner : (b : Block Location) → slice_get f.blocks i ≡ Some b → (t : Bool) → is.own i ≡ t → Performed c f r
    by_owner b e false o = is.handed i b e there o j r n fs k u a new log goes all
    by_owner b e true o =
        let price = a.price in
        enter_block c f j r n go i (c.label i) 0 b e (is.blocks i b e there o) fs k u a (omega (arith, price)) new log goes all

    by_block : (o : Option (Block Location)) → slice_get f.blocks i ≡ o → Performed c f r
    by_block None e = undefined_next c f j r n (record fs { block = i; next = 0 }) log (no_block c f j (record fs { block = i; next = 0 }) e) goes
    by_block (Some b) e = by_owner b e (is.own i) refl

-- ---- the return

closed_known : (f : Spots) (at n x k : ℕ) → closed f at n x ≡ ThisByte k → f x ≡ ThisByte k
closed_known f at n x k h = by_test (is_in at n x) h
  where
    by_test : (b : Bool) → (if b then NoAccess else f x) ≡ ThisByte k → f x ≡ ThisByte k
    by_test true e = absurd (let no : ⊥ = cc in no)
    by_test false e = e

closed_there : (f : Spots) (at n x : ℕ) → closed f at n x ≢ NoAccess → f x ≢ NoAccess
closed_there f at n x h e = h (by_test (is_in at n x))
  where
    by_test : (b : Bool) → (if b then NoAccess else f x) ≡ NoAccess
    by_test true = refl
    by_test false = e

pub closed_spots : (c : Setting) (memory : Spots) (at n : ℕ) (u w : State) → w.bytes ≡ u.bytes → HoldsSpots c.world.memory_map memory u
    → HoldsSpots c.world.memory_map (closed memory at n) w
closed_spots c memory at n u w same spots = record {
  known = λ y k e. ap (λ (g : ℕ → ℕ). g y) same ∙ spots.known y k (closed_known memory at n y k e);
  usable = λ y there. spots.usable y (closed_there memory at n y there);
}

-- from the frame's end, wherever it stands
end_case : (c : Setting) (f : Code Location) → CodeStands c f → (fs : FlatState) (k : ℕ) (w : State) (x : Option ℕ) (rest : List Item)
    → StandAt (site c) (epilogue c.layout c.saved ++ rest) w.pc → Landed c w.pc FUNCTION_WEIGHT fs k w
    → ((t : State) → t.registers 10 ≡ w.registers 10 → ResultIn f.result x t)
    → Performed c f (FlatReturned fs.spent x (closed fs.memory (c.sp - c.area) (area f)))
end_case c f is fs k w x rest stands a held =
    let m = (ends_frame c is.setting w a.framed.pointer is.pointer is.aligned a.framed.saved a.framed.thread).from rest stands a.fixed in
    let left = m.holds in
    let few = m.few in
    let some = m.some in
    let size = (epilogue_size c.layout c.saved is.few_saved).few in
    let enough = is.setting.enough in
    let price = a.price in
    let pace = a.pace in
    let now : Spots = closed fs.memory (c.sp - c.area) (area f) in
    record {
      steps = k + m.steps;
      after = m.after;
      comes = comes_then a.comes m.comes;
      price = omega (arith, few, size, enough, price);
      pace = omega (arith, some, pace);
      output = left.output ∙ a.output;
      result = held m.after left.result;
      back = record {
        fixed = m.fixed;
        place = left.place;
        kept = left.kept;
        memory = closed_spots c fs.memory (c.sp - c.area) (area f) w m.after left.bytes a.framed.spots;
        others = λ y high away. ap (λ (g : ℕ → ℕ). g y) left.bytes ∙ a.framed.others y high away;
      };
    }

-- from a jump to the frame's end, or a copy of that
leave_case : (c : Setting) (f : Code Location) → CodeStands c f → (fs : FlatState) (k : ℕ) (w : State) (x : Option ℕ) (next left : ℕ) (rest : List Item)
    → StandAt (site c) (leave_items c.layout c.saved next left ++ (Label next ∷ rest)) w.pc → Landed c w.pc FUNCTION_WEIGHT fs k w → k + 2 + c.reserve ≤ allowed fs
    → ((t : State) → t.registers 10 ≡ w.registers 10 → ResultIn f.result x t)
    → Performed c f (FlatReturned fs.spent x (closed fs.memory (c.sp - c.area) (area f)))
leave_case c f is fs k w x next left rest stands a paid held = by_test (copies_end c.layout c.saved left && not (c.layout.falls && nat_eq c.layout.leave next)) stands
  where
    by_test : (t : Bool) → StandAt (site c) ((if t then epilogue c.layout c.saved else goto_items c.layout next c.layout.leave) ++ (Label next ∷ rest)) w.pc
        → Performed c f (FlatReturned fs.spent x (closed fs.memory (c.sp - c.area) (area f)))
    by_test true here = end_case c f is fs k w x (Label next ∷ rest) here a held
    by_test false here =
        let m = (jumps_goto (site c) c.layout w next c.layout.leave).from rest here a.fixed in
        let few = m.few in
        let size = goto_size c.layout next c.layout.leave in
        let pace = a.pace in
        end_case c f is fs (k + m.steps) m.after x is.rest
        (subst (λ q. StandAt (site c) (epilogue c.layout c.saved ++ is.rest) q) (sym m.place) is.leave)
        (record {
          place = refl;
          fixed = m.fixed;
          framed = framed_same c fs.numbers fs.memory w m.after a.framed m.holds;
          comes = comes_then a.comes m.comes;
          output = m.holds.output ∙ a.output;
          price = omega (arith, few, size, paid);
          pace = omega (arith, pace);
        })
        (λ t same. held t (same ∙ m.holds.registers 10 (lit< tt)))

pub no_result : (k : Option Class) (t : State) → ResultIn k None t
no_result None t = tt
no_result (Some k) t = tt

-- the result is in x10
record WithResult (u : State) (n : ℕ) (w : State) : Type 0 where
  pub value : w.registers 10 ≡ n
  pub others : (m : ℕ) → m < 28 → m ≢ 10 → w.registers m ≡ u.registers m
  pub bytes : w.bytes ≡ u.bytes
  pub output : w.output ≡ u.output

with_result : (u w : State) (n : ℕ) → Sets u 10 n w → WithResult u n w
with_result u w n one = record {
  value = one.value;
  others = λ m lo other. one.others m other;
  bytes = one.bytes;
  output = one.output;
}

no_numbers : Numbers
no_numbers p = None

-- what the frame's end needs, where places no longer count
result_framed : (c : Setting) (numbers : Numbers) (memory : Spots) (u w : State) (n : ℕ) → Framed c numbers memory u → WithResult u n w
    → Framed c no_numbers memory w
unfolding no_numbers
result_framed c numbers memory u w n framed h = record {
  pointer = h.others 2 (lit< tt) (λ e. absurd (omega (arith, e))) ∙ framed.pointer;
  places = λ p v good known. absurd (none_is_not v None refl known);
  spots = record { known = λ x k e. ap (λ (m : ℕ → ℕ). m x) h.bytes ∙ framed.spots.known x k e; usable = framed.spots.usable };
  clear = framed.clear;
  reach = framed.reach;
  saved = λ k r e. ap (λ (m : ℕ → ℕ). number_at m (save_at c k) 8) h.bytes ∙ framed.saved k r e;
  thread = λ m kept other out. h.others m (held_below m kept) (held_not_10 m kept) ∙ framed.thread m kept other out;
  others = λ x hi away. ap (λ (m : ℕ → ℕ). m x) h.bytes ∙ framed.others x hi away;
  unset = λ i far. refl;
}

return_value : (c : Setting) (f : Code Location) → CodeStands c f → (r : FlatOutcome) (y : ReturnValue Location) (fs : FlatState) (k : ℕ) (u : State)
    → AtJump c f (Return (Some y)) fs k u → (q : Class) → c.layout.result ≡ Some q → f.result ≡ Some q → (v : ℕ) → number_of c.addresses fs.numbers y.value ≡ Some v
    → (z : ℕ) → PassedSo y.extension q v z → FlatReturned fs.spent (Some z) (closed fs.memory (c.sp - c.area) (area f)) ≡ r → Performed c f r
return_value c f is r y fs k u a q is_q wants v known z so e =
    let l : ℕ = c.layout.leave in
    let next : ℕ = fs.block + 1 in
    let n : ℕ = passed (passed_class y.extension q) (taken (passed_class y.extension q) (operand_in c u y.value)) in
    let value : operand_in c u y.value ≡ v = operand_known c fs.numbers fs.memory u y.value v is.setting a.framed a.known known in
    let leads : Leads (site c) (result_items c.layout c.layout.result y) u (Sets u 10 n) =
    subst (λ o. Leads (site c) (result_items c.layout o y) u (Sets u 10 n)) (sym is_q) (leads_result c is.setting u q y a.framed.pointer a.known) in
    let leaves : List Item = leave_items c.layout c.saved next (left_by_value a.left) in
    let m = leads.from (leaves ++ (Label next ∷ a.rest))
    (subst (λ l. StandAt (site c) l u.pc) (append_assoc (result_items c.layout c.layout.result y) leaves (Label next ∷ a.rest)) a.stands) a.fixed in
    let holds = with_result u m.after n m.holds in
    let few = m.few in
    let size = (result_size c.layout c.layout.result y).few in
    let paid = a.paid in
    let price = a.price in
    let bound = few_standing f fs.block in
    let pace = a.pace in
    subst (λ o. Performed c f o) e
    (leave_case c f is (record fs { numbers = no_numbers }) (k + m.steps) m.after (Some z) next (left_by_value a.left) a.rest m.stands
    (record {
      place = refl;
      fixed = m.fixed;
      framed = result_framed c fs.numbers fs.memory u m.after n a.framed holds;
      comes = comes_then a.comes m.comes;
      output = holds.output ∙ a.output;
      price = omega (arith, few, size, paid, price);
      pace = omega (arith, bound, pace);
    })
    (omega (arith, few, size, paid, price))
    (λ t same. subst (λ o. ResultIn o (Some z) t) (sym wants)
    (same
    ∙ (holds.value
    ∙ (ap (λ x. passed (passed_class y.extension q) (taken (passed_class y.extension q) x)) value ∙ (so.stands ∙ ap (passed q) so.is))))))

return_nothing : (c : Setting) (f : Code Location) → CodeStands c f → (r : FlatOutcome) (fs : FlatState) (k : ℕ) (u : State)
    → AtJump c f (Return None) fs k u → FlatReturned fs.spent None (closed fs.memory (c.sp - c.area) (area f)) ≡ r → Performed c f r
return_nothing c f is r fs k u a e =
    let bound = few_standing f fs.block in
    let paid = a.paid in
    let price = a.price in
    let pace = a.pace in
    subst (λ o. Performed c f o) e
    (leave_case c f is fs k u None (fs.block + 1) a.left a.rest a.stands
    (record {
      place = refl;
      fixed = a.fixed;
      framed = a.framed;
      comes = a.comes;
      output = a.output;
      price = omega (arith, price);
      pace = omega (arith, bound, pace);
    })
    (omega (arith, paid, price)) (λ t same. no_result f.result t))

return_case : (c : Setting) (f : Code Location) → CodeStands c f → (j : FlatGiven) (r : FlatOutcome) (n : ℕ) (y : ReturnValue Location) (fs : FlatState) (k : ℕ) (u : State)
    → AtJump c f (Return (Some y)) fs k u → (log : Log) → Then c f j r n log (returns_as f c.addresses (c.sp - c.area) fs f.result y) → Performed c f r
return_case c f is j r n y fs k u a log goes = by_class f.result refl goes
  where
    by_number : (q : Class) → f.result ≡ Some q → (v : ℕ) → number_of c.addresses fs.numbers y.value ≡ Some v → (o : Option ℕ) → read_passed y.extension q v ≡ o
        → Then c f j r n log (returns f (c.sp - c.area) fs o) → Performed c f r
    by_number q wants v known None e e_goes = undefined c f fs.spent r e_goes.0
    by_number q wants v known (Some z) e e_goes = return_value c f is r y fs k u a q (is.result ∙ wants) wants v known z (passed_so y.extension q v z e) e_goes.0

    by_value : (q : Class) → f.result ≡ Some q → (o : Option ℕ) → number_of c.addresses fs.numbers y.value ≡ o
        → Then c f j r n log (returns f (c.sp - c.area) fs (option_and_then (read_passed y.extension q) o)) → Performed c f r
    by_value q wants None e e_goes = undefined c f fs.spent r e_goes.0
    by_value q wants (Some v) e e_goes = by_number q wants v e (read_passed y.extension q v) refl e_goes

    by_class : (o : Option Class) → f.result ≡ o → Then c f j r n log (returns_as f c.addresses (c.sp - c.area) fs o y) → Performed c f r
    by_class None e e_goes = undefined c f fs.spent r e_goes.0
    by_class (Some q) e e_goes = by_value q e (number_of c.addresses fs.numbers y.value) refl e_goes

-- ---- the other jumps

halt_case : (c : Setting) (f : Code Location) (r : FlatOutcome) (fs : FlatState) (k : ℕ) (u : State) → AtJump c f Halt fs k u
    → FlatEnded fs.spent Halted ≡ r → Performed c f r
unfolding Stand Stands runs
halt_case c f r fs k u a e =
    let stops : step u ≡ Err Broken = step_at c.world.memory_map u Ebreak a.fixed a.stands.1.0 in
    let paid = a.paid in
    let price = a.price in
    let last : Performed c f (FlatEnded fs.spent Halted) = record {
      steps = k + 1;
      last = u;
      stopped = a.comes.comes 1 ∙ ap (then_run (runs 0) u) stops;
      price = omega (arith, paid, price);
      output = a.output;
    } in
    subst (λ o. Performed c f o) e last

branch_case : (c : Setting) (f : Code Location) → CodeStands c f → (j : FlatGiven) (r : FlatOutcome) (n : ℕ) → Follows c f j r n
    → (on : Comparison Location) (met otherwise : ℕ) (fs : FlatState) (k : ℕ) (u : State) → AtJump c f (Branch on met otherwise) fs k u → (log : Log)
    → Then c f j r n log (branches fs met otherwise (compared c.addresses fs on)) → AllPerform c.world c.floor log → Performed c f r
unfolding computed
branch_case c f is j r n go on met otherwise fs k u a log goes all =
    by_values (number_of c.addresses fs.numbers on.left) refl (number_of c.addresses fs.numbers on.right) refl goes
  where
    known : (operand_keeps (is_place c.slots) on.left ≡ true) × (operand_keeps (is_place c.slots) on.right ≡ true)
    known = and_parts (operand_keeps (is_place c.slots) on.left) (operand_keeps (is_place c.slots) on.right) a.known

    m : Arrives (site c) c.layout.falls (fs.block + 1) (longest_size (branch_items c.layout (fs.block + 1) on met otherwise)) u
        (way_by (meets c u on) met otherwise) (Scratched u)
    m = (jumps_branch c is.setting u (fs.block + 1) on met otherwise a.framed.pointer known.0 known.1).from a.rest a.stands a.fixed

    at_way : (t : Bool) → meets c u on ≡ t → Landed c (c.label (way_by t met otherwise)) (landing f (way_by t met otherwise)) fs (k + m.steps) m.after
    at_way t e =
        subst (λ z. Landed c (c.label (way_by z met otherwise)) (landing f (way_by z met otherwise)) fs (k + m.steps) m.after) e
        (lands c f is (Branch on met otherwise) fs k u (way_by (meets c u on) met otherwise) (longest_size (branch_items c.layout (fs.block + 1) on met otherwise)) a
        (branch_items_size c.layout (fs.block + 1) on met otherwise) m)

    targets : (is_target a.blocks met ≡ true) × (is_target a.blocks otherwise ≡ true)
    targets = and_parts (is_target a.blocks met) (is_target a.blocks otherwise) a.inside

    ways : (c.reached met ≡ true) × (c.reached otherwise ≡ true)
    ways = and_parts (c.reached met) (c.reached otherwise) a.goes

    by_test : (t : Bool) → meets c u on ≡ t → Then c f j r n log (enters fs (if nat_eq (truth t) 0 then otherwise else met)) → Performed c f r
    by_test false e e_goes = enter c f is j r n go otherwise fs (k + m.steps) m.after ways.1 (at_way false e) (not_first a.blocks otherwise fs.used targets.1) log e_goes all
    by_test true e e_goes = enter c f is j r n go met fs (k + m.steps) m.after ways.0 (at_way true e) (not_first a.blocks met fs.used targets.0) log e_goes all

    by_values : (o : Option ℕ) → number_of c.addresses fs.numbers on.left ≡ o → (p : Option ℕ) → number_of c.addresses fs.numbers on.right ≡ p
        → Then c f j r n log (branches fs met otherwise (option_and_then (λ x. option_map (λ y. computed (Compare on.condition on.class) x y) p) o)) → Performed c f r
    by_values None e p d e_goes = undefined c f fs.spent r e_goes.0
    by_values (Some v) e None d e_goes = undefined c f fs.spent r e_goes.0
    by_values (Some v) e (Some w) d e_goes =
        let left : operand_in c u on.left ≡ v = operand_known c fs.numbers fs.memory u on.left v is.setting a.framed known.0 e in
        let right : operand_in c u on.right ≡ w = operand_known c fs.numbers fs.memory u on.right w is.setting a.framed known.1 d in
        by_test (holds on.condition on.class (taken on.class v) (taken on.class w))
        (ap (λ x. holds on.condition on.class (taken on.class x) (taken on.class (operand_in c u on.right))) left
        ∙ ap (λ y. holds on.condition on.class (taken on.class v) (taken on.class y)) right)
        e_goes

goto_case : (c : Setting) (f : Code Location) → CodeStands c f → (j : FlatGiven) (r : FlatOutcome) (n : ℕ) → Follows c f j r n
    → (i : ℕ) (fs : FlatState) (k : ℕ) (u : State) → AtJump c f (Goto i) fs k u → (log : Log)
    → Then c f j r n log (enters fs i) → AllPerform c.world c.floor log → Performed c f r
goto_case c f is j r n go i fs k u a log goes all =
    let m = (jumps_goto (site c) c.layout u (fs.block + 1) i).from a.rest a.stands a.fixed in
    enter c f is j r n go i fs (k + m.steps) m.after a.goes (lands c f is (Goto i) fs k u i (longest_size (goto_items c.layout (fs.block + 1) i)) a (goto_size c.layout (fs.block + 1) i) m) (not_first a.blocks i fs.used a.inside) log goes all

jump_case : (c : Setting) (f : Code Location) → CodeStands c f → (j : FlatGiven) (r : FlatOutcome) (n : ℕ) → Follows c f j r n
    → (x : Jump Location) (fs : FlatState) (k : ℕ) (u : State) → AtJump c f x fs k u → (log : Log)
    → Then c f j r n log (flat_jump f c.addresses (c.sp - c.area) fs x) → AllPerform c.world c.floor log → Performed c f r
unfolding flat_jump
jump_case c f is j r n go (Goto i) fs k u a log goes all = goto_case c f is j r n go i fs k u a log goes all
jump_case c f is j r n go (Branch on met otherwise) fs k u a log goes all = branch_case c f is j r n go on met otherwise fs k u a log goes all
jump_case c f is j r n go (Return None) fs k u a log goes all = return_nothing c f is r fs k u a goes.0
jump_case c f is j r n go (Return (Some y)) fs k u a log goes all = return_case c f is j r n y fs k u a log goes
jump_case c f is j r n go Halt fs k u a log goes all = halt_case c f r fs k u a goes.0

-- ---- each step

line_step : (c : Setting) (f : Code Location) (j : FlatGiven) (b : Block Location) (l : Line Location) (lines : List (Line Location)) (fs : FlatState) (k : ℕ) (u : State)
    → At c f b (l ∷ lines) fs k u → step_of c f j fs ≡ flat_line c.addresses (c.sp - c.area) j fs l
unfolding flat_step
line_step c f j b l lines fs k u a =
    let here : fs.next ≡ fs.next + 0 = omega arith in
    ap (step_in f c.addresses (c.sp - c.area) j fs) a.block ∙ ap (block_step f c.addresses (c.sp - c.area) j fs b) (ap (λ i. slice_get b.lines i) here ∙ a.ahead 0)

jump_step : (c : Setting) (f : Code Location) (j : FlatGiven) (b : Block Location) (fs : FlatState) (k : ℕ) (u : State)
    → At c f b [] fs k u → step_of c f j fs ≡ flat_jump f c.addresses (c.sp - c.area) fs b.jump
unfolding flat_step
jump_step c f j b fs k u a =
    let here : fs.next ≡ fs.next + 0 = omega arith in
    ap (step_in f c.addresses (c.sp - c.area) j fs) a.block ∙ ap (block_step f c.addresses (c.sp - c.area) j fs b) (ap (λ i. slice_get b.lines i) here ∙ a.ahead 0)

at_jump : (c : Setting) (f : Code Location) (b : Block Location) (fs : FlatState) (k : ℕ) (u : State) → At c f b [] fs k u → AtJump c f b.jump fs k u
at_jump c f b fs k u a =
    let price = a.price in
    let pace = a.pace in
    record {
      rest = a.rest;
      left = left_behind 0 b.lines;
      stands = a.stands;
      fixed = a.fixed;
      framed = a.framed;
      comes = a.comes;
      output = a.output;
      known = a.jump_known;
      credit = a.credit;
      paid = leb-true (jump_cost b.jump) a.credit a.paid;
      blocks = a.blocks;
      inside = a.inside;
      goes = a.stood.goes;
      price = price;
      pace = omega (arith, pace);
    }

pub follows : (c : Setting) (f : Code Location) → CodeStands c f → (j : FlatGiven) (r : FlatOutcome) (n : ℕ) → Follows c f j r n
unfolding Logged
follows c f is j r zero b lines fs k u a log goes all = absurd goes
follows c f is j r (suc n) b [] fs k u a log goes all =
    jump_case c f is j r n (follows c f is j r n) b.jump fs k u (at_jump c f b fs k u a) log
    (subst (λ e. Then c f j r n log e) (jump_step c f j b fs k u a) goes) all
follows c f is j r (suc n) b (l ∷ lines) fs k u a log goes all =
    line_case c f is j r n (follows c f is j r n) b l lines fs k u a log
    (subst (λ e. Then c f j r n log e) (line_step c f j b l lines fs k u a) goes) all
