-- The machine follows a call: up to the callee, and from there as the call goes.
use Rattle.std.proofs.Common.{◌≡◌, ℕ, suc, ◌+◌, ◌-◌, ◌*◌, ◌%◌, ◌<◌, ◌≤◌, true, List, [], ◌∷◌, ◌++◌, refl, sym, ◌∙◌, ap, subst, arith, append_assoc, ◌&&◌, nat_le, length, map, max, slice_get, Option, Some, None}
use Rattle.abi_frames.proofs.Shared.{Class, W, L, State, Item, Location, InRegister, Operand, Destination, Argument, Line, Block, Code, Label, option_map, list_all, and_parts, leb-true, longest_size, same_Some, sum_by-cons, Comes, is_place, operand_keeps, line_keeps}
use Rattle.il_ast.specs.declared.value.End.TheVariants.{Exit, Halt as Halted, Undefined, Stack, Turns}
use Rattle.il_ast.specs.Prelude.{Spent, one_call, both, LoggedNext, Logged}
use Rattle.rv_isa.specs.Prelude.{Stop, Exited, Broken}
use Rattle.rv_isa.proofs.RunLemmas.{comes_then}
use Rattle.vcode.specs.declared.place.Operand.TheVariants.{At as In}
use Rattle.vcode.specs.declared.line.Line.TheVariants.{Call}
use Rattle.vcode.specs.Prelude.{wanted_keeps, turns_of, alloc_bytes, affords}
use Rattle.flat_code.specs.Flat.{Spots, SameReach, FlatGiven, FlatAsked, FlatOutcome, FlatReturned, FlatEnded}
use Rattle.flat_code.specs.Step.{FlatState, Numbers, put, kept, held, number_of, read_all, calls, resumes}
use Rattle.abi_frames.specs.Performs.{Ready, passed, Returns, Stops, KeepsOn, Performs, PerformsAt, ReachStays, AllPerform, most_in_lines}
use Rattle.abi_frames.specs.Emission.{prepare_items, call_through, receive_items, lines_items, end_items}
use Rattle.operation_code.proofs.Leading.{StandAt, Reaches, Leads, leads_nowhere}
use Rattle.abi_frames.proofs.Leads.{leads_as}
use Rattle.abi_frames.proofs.Activations.{Setting, IsSetting, site, bottom, operand_in, Framed, operand_known, MayWrite, assigned, assigned_output, is_among, next_index}
use Rattle.abi_frames.proofs.Pacing.{few_standing}
use Rattle.abi_frames.proofs.LineCode.{leads_set_line}
use Rattle.abi_frames.proofs.Sizes.{call_parts}
use Rattle.abi_frames.proofs.Passing.{in_place}
use Rattle.abi_frames.proofs.Calling.{leads_prepared, goes_to, ready, SameFrame, same_frame, framed_back}
use Rattle.abi_frames.proofs.Simulation.{CodeStands, At, Performed, step_of, Log, Follows, Then, undefined, stands_here, nothing_taken, later_fits, may_write}

-- ---- what is known of the line

pub record CallLine (c : Setting) (to : Option (Destination Location)) (callee : Operand Location) (args : List (Argument Location)) : Type 0 where
  pub wanted : wanted_keeps (is_place c.slots) to ≡ true
  pub known : operand_keeps (is_place c.slots) callee ≡ true
  pub good : list_all (in_place c.slots) args ≡ true
  pub fits : 8 * (length args - 8) ≤ c.layout.saves

first_fits : (a m s : ℕ) → 8 * max a m ≤ s → 8 * a ≤ s
first_fits a m s h = omega (arith, h)

call_line : (c : Setting) (f : Code Location) (b : Block Location) (to : Option (Destination Location)) (callee : Operand Location)
    (args : List (Argument Location)) (lines : List (Line Location)) (fs : FlatState) (k : ℕ) (u : State)
    → At c f b (Call to callee args ∷ lines) fs k u → CallLine c to callee args
call_line c f b to callee args lines fs k u a =
    let known = (and_parts (line_keeps (is_place c.slots) (Call to callee args)) (list_all (line_keeps (is_place c.slots)) lines) a.known).0 in
    let parts = and_parts (wanted_keeps (is_place c.slots) to)
    (operand_keeps (is_place c.slots) callee && list_all (λ (x : Argument Location). operand_keeps (is_place c.slots) x.value) args) known in
    let operands = and_parts (operand_keeps (is_place c.slots) callee)
    (list_all (λ (x : Argument Location). operand_keeps (is_place c.slots) x.value) args) parts.1 in
    record {
      wanted = parts.0;
      known = operands.0;
      good = operands.1;
      fits = first_fits (length args - 8) (most_in_lines lines) c.layout.saves a.passes;
    }

-- ---- up to the callee

-- the machine has come from s to the callee at `at`, in v
pub record Departs (c : Setting) (to : Option (Destination Location)) (callee : Operand Location) (args : List (Argument Location)) (at : ℕ)
    (given : FlatGiven) (tail : List Item) (s : State) : Type 0 where
  pub steps : ℕ
  pub v : State
  pub comes : Comes s steps v
  pub some : 0 < steps
  pub few : steps ≤ longest_size (prepare_items c.layout callee args) + 2
  pub ready : Ready c.world at (bottom c) (map (λ (a : Argument Location). a.class) args) given v
  pub same : SameFrame c s v
  pub stands : StandAt (site c) (receive_items c.layout to ++ tail) (v.registers 1)
  pub output : v.output ≡ s.output

-- the items of a call, as they are run
call_assoc : (p r t tail : List Item) → (p ++ (r ++ t)) ++ tail ≡ p ++ (r ++ (t ++ tail))
call_assoc p r t tail = append_assoc p (r ++ t) tail ∙ ap (λ l. p ++ l) (append_assoc r t tail)

length-classes : (args : List (Argument Location)) → length (map (λ (a : Argument Location). a.class) args) ≡ length args
length-classes [] = refl
length-classes (a ∷ args) = let rest = length-classes args in omega (arith, rest)

departs : (c : Setting) (f : Code Location) → CodeStands c f → (b : Block Location) (to : Option (Destination Location)) (callee : Operand Location)
    (args : List (Argument Location)) (lines : List (Line Location)) (fs : FlatState) (k : ℕ) (u : State)
    → (a : At c f b (Call to callee args ∷ lines) fs k u) → (at : ℕ) (xs : List ℕ) (turns room : ℕ) → number_of c.addresses fs.numbers callee ≡ Some at
    → read_all c.addresses fs.numbers args ≡ Some xs → at % 4 ≡ 0
    → Departs c to callee args at (record { turns = turns; room = room; args = xs; memory = fs.memory })
    ((lines_items c.layout (a.used + 0) lines ++ end_items c.layout c.saved fs.block b) ++ (Label (fs.block + 1) ∷ a.rest)) u
departs c f is b to callee args lines fs k u a at xs turns room is_at is_xs even =
    let line = call_line c f b to callee args lines fs k u a in
    let tail : List Item = (lines_items c.layout (a.used + 0) lines ++ end_items c.layout c.saved fs.block b) ++ (Label (fs.block + 1) ∷ a.rest) in
    let jump : List Item = call_through callee in
    let m = (leads_prepared c is.setting u callee args a.framed.pointer line.known line.good line.fits).from (jump ++ (receive_items c.layout to ++ tail))
    (subst (λ l. StandAt (site c) l u.pc) (call_assoc (prepare_items c.layout callee args) jump (receive_items c.layout to) tail)
    (stands_here c f b (Call to callee args) lines fs k u a)) a.fixed in
    let address : operand_in c u callee ≡ at = operand_known c fs.numbers fs.memory u callee at is.setting a.framed line.known is_at in
    let goes = goes_to c is.setting u m.after callee at (receive_items c.layout to ++ tail) m.holds.address address even m.stands m.fixed in
    let gone = goes.gone in
    let some = gone.some in
    let few_more = gone.few in
    let few = m.few in
    record {
      steps = m.steps + gone.steps;
      v = goes.v;
      comes = comes_then m.comes gone.comes;
      some = omega (arith, some);
      few = omega (arith, few, few_more);
      ready = ready c is.setting fs.numbers fs.memory u m.after goes.v (receive_items c.layout to ++ tail) at turns room args xs a.framed
          m.holds.passed gone line.good line.fits is_xs (length-classes args);
      same = same_frame c u m.after goes.v (receive_items c.layout to ++ tail) at args line.fits m.holds.passed gone;
      stands = gone.stands;
      output = gone.output ∙ m.holds.passed.output;
    }

-- ---- the call returns

-- the result comes to its place
resumed : (c : Setting) (f : Code Location) (b : Block Location) (to : Option (Destination Location)) (callee : Operand Location)
    (args : List (Argument Location)) (lines : List (Line Location)) (fs : FlatState) (k : ℕ) (u : State)
    → (a : At c f b (Call to callee args ∷ lines) fs k u) → (at : ℕ) (given : FlatGiven)
    → (d : Departs c to callee args at given ((lines_items c.layout (a.used + 0) lines ++ end_items c.layout c.saved fs.block b) ++ (Label (fs.block + 1) ∷ a.rest)) u)
    → (wants : Option Class) (before : Spots) (t : Spent) (x : Option ℕ) (now : Spots) → (back : Returns c.world (bottom c) wants before d.v t x now)
    → (numbers : Numbers)
    → (m : Reaches (site c) (longest_size (receive_items c.layout to)) ((lines_items c.layout (a.used + 0) lines ++ end_items c.layout c.saved fs.block b) ++ (Label (fs.block + 1) ∷ a.rest))
    back.after (λ w. Framed c numbers now w × (w.output ≡ back.after.output)))
    → At c f b lines (record fs { next = fs.next + 1; numbers = numbers; memory = now; spent = both fs.spent t })
    (k + (d.steps + (back.steps + m.steps))) m.after
resumed c f b to callee args lines fs k u a at given d wants before t x now back numbers m =
    let cost : ℕ = 20 + 24 * length args in
    let parts = and_parts (nat_le cost a.credit) (affords (a.credit - cost) b.jump lines) a.paid in
    let enough = leb-true cost a.credit parts.0 in
    let size = call_parts c.layout to callee args in
    let few = d.few in
    let few_more = m.few in
    let price = a.price in
    let price_there = back.price in
    let pace = a.pace in
    let pace_there = back.pace in
    let sum = sum_by-cons turns_of (Call to callee args) lines in
    let room = a.room in
    let bytes = sum_by-cons alloc_bytes (Call to callee args) lines in
    record {
      block = a.block;
      ahead = λ i. ap (λ n. slice_get b.lines n) (next_index fs.next i) ∙ a.ahead (suc i);
      rest = a.rest;
      used = a.used + 0;
      stands = m.stands;
      fixed = m.fixed;
      framed = m.holds.0;
      comes = comes_then a.comes (comes_then d.comes (comes_then back.comes m.comes));
      output = m.holds.1
          ∙ (back.output
          ∙ (ap (λ o. o ++ t.output) (d.output ∙ a.output) ∙ append_assoc c.start.output fs.spent.output t.output));
      known = (and_parts (line_keeps (is_place c.slots) (Call to callee args)) (list_all (line_keeps (is_place c.slots)) lines) a.known).1;
      jump_known = a.jump_known;
      credit = a.credit - cost;
      paid = parts.1;
      price = omega (arith, enough, size, few, few_more, price, price_there);
      pace = omega (arith, pace, pace_there, sum);
      blocks = a.blocks;
      inside = a.inside;
      room = omega (arith, room, bytes);
      used_is = λ e. a.used_is e ∙ nothing_taken a.used;
      passes = later_fits (length args - 8) (most_in_lines lines) c.layout.saves a.passes;
      stood = a.stood;
    }

-- how a number stands in a place is how it is passed
pub held_is_passed : (q : Class) (n : ℕ) → passed q n ≡ held q n
held_is_passed W n = refl
held_is_passed L n = refl

-- the result that is wanted, from x10
received : (c : Setting) → IsSetting c → (numbers : Numbers) (now : Spots) (w : State) (d : Destination Location) (n : ℕ) → Framed c numbers now w
    → is_place c.slots d.place ≡ true → MayWrite c.saved d.place → w.registers 10 ≡ passed d.class n
    → Leads (site c) (receive_items c.layout (Some d)) w
    (λ z. Framed c (put d.place (Some (held d.class n)) numbers) now z × (z.output ≡ w.output))
received c is numbers now w d n framed good may result =
    let v : ℕ = w.registers 10 in
    leads_as (leads_set_line c is w d.place (In (InRegister 10)) framed.pointer good refl)
    (λ z fixed made. (
      assigned c is numbers now w z d.place v (Some (held d.class n)) good may framed made
          (λ y e. result ∙ (held_is_passed d.class n ∙ same_Some (held d.class n) y e)),
      assigned_output c w d.place v z made,
    ))

-- the return address is saved
address_saved : (c : Setting) (f : Code Location) → CodeStands c f → (b : Block Location) (to : Option (Destination Location)) (callee : Operand Location)
    (args : List (Argument Location)) (lines : List (Line Location)) (fs : FlatState) (k : ℕ) (u : State) → At c f b (Call to callee args ∷ lines) fs k u
    → is_among 1 c.saved ≡ true
address_saved c f is b to callee args lines fs k u a =
    (a.stood.calls (fs.next + 0) (Call to callee args) (a.ahead 0) refl).1

returned : (c : Setting) (f : Code Location) → CodeStands c f → (j : FlatGiven) (r : FlatOutcome) (n : ℕ) → Follows c f j r n
    → (b : Block Location) (to : Option (Destination Location)) (callee : Operand Location) (args : List (Argument Location)) (lines : List (Line Location))
    (fs : FlatState) (k : ℕ) (u : State) → (a : At c f b (Call to callee args ∷ lines) fs k u) → (at : ℕ) (given : FlatGiven)
    → (d : Departs c to callee args at given ((lines_items c.layout (a.used + 0) lines ++ end_items c.layout c.saved fs.block b) ++ (Label (fs.block + 1) ∷ a.rest)) u)
    → (t : Spent) (x : Option ℕ) (now : Spots) → Returns c.world (bottom c) (option_map (λ (q : Destination Location). q.class) to) fs.memory d.v t x now
    → SameReach fs.memory now → (log : Log)
    → LoggedNext (λ s rest. Logged (step_of c f j) n s rest r) r (resumes fs to (FlatReturned t x now)) log → AllPerform c.world c.floor log
    → Performed c f r
returned c f is j r n go b None callee args lines fs k u a at given d t x now back stays log goes all =
    let framed = framed_back c is.setting fs.numbers fs.memory now u d.v back.after a.framed d.same back.back stays (address_saved c f is b None callee args lines fs k u a) in
    let tail : List Item = (lines_items c.layout (a.used + 0) lines ++ end_items c.layout c.saved fs.block b) ++ (Label (fs.block + 1) ∷ a.rest) in
    let m = (leads_nowhere (site c) back.after (λ w. Framed c (kept fs.numbers) now w × (w.output ≡ back.after.output)) (framed, refl)).from tail
    (subst (λ q. StandAt (site c) tail q) (sym back.back.place) d.stands) back.back.fixed in
    go b lines (record fs { next = fs.next + 1; numbers = kept fs.numbers; memory = now; spent = both fs.spent t })
    (k + (d.steps + (back.steps + m.steps))) m.after
    (resumed c f b None callee args lines fs k u a at given d None fs.memory t x now back (kept fs.numbers) m) log goes all
returned c f is j r n go b (Some q) callee args lines fs k u a at given d t None now back stays log goes all =
    undefined c f (both fs.spent t) r goes.0
returned c f is j r n go b (Some q) callee args lines fs k u a at given d t (Some v) now back stays log goes all =
    let framed = framed_back c is.setting fs.numbers fs.memory now u d.v back.after a.framed d.same back.back stays (address_saved c f is b (Some q) callee args lines fs k u a) in
    let tail : List Item = (lines_items c.layout (a.used + 0) lines ++ end_items c.layout c.saved fs.block b) ++ (Label (fs.block + 1) ∷ a.rest) in
    let numbers : Numbers = put q.place (Some (held q.class v)) (kept fs.numbers) in
    let line = call_line c f b (Some q) callee args lines fs k u a in
    let may = may_write c f is b (Call (Some q) callee args) lines fs k u a q.place line.wanted (λ n. refl) in
    let m = (received c is.setting (kept fs.numbers) now back.after q v framed line.wanted may back.result).from tail
    (subst (λ p. StandAt (site c) (receive_items c.layout (Some q) ++ tail) p) (sym back.back.place) d.stands) back.back.fixed in
    go b lines (record fs { next = fs.next + 1; numbers = numbers; memory = now; spent = both fs.spent t })
    (k + (d.steps + (back.steps + m.steps))) m.after
    (resumed c f b (Some q) callee args lines fs k u a at given d (Some q.class) fs.memory t (Some v) now back numbers m) log goes all

-- ---- the run ends in the call

stopped : (c : Setting) (f : Code Location) (b : Block Location) (to : Option (Destination Location)) (callee : Operand Location)
    (args : List (Argument Location)) (lines : List (Line Location)) (fs : FlatState) (k : ℕ) (u : State)
    → (a : At c f b (Call to callee args ∷ lines) fs k u) → (at : ℕ) (given : FlatGiven) (tail : List Item)
    → (d : Departs c to callee args at given tail u) → (t : Spent) (stop : Stop) → Stops d.v t stop → Stops c.start (both one_call (both fs.spent t)) stop
stopped c f b to callee args lines fs k u a at given tail d t stop there =
    let cost : ℕ = 20 + 24 * length args in
    let enough = leb-true cost a.credit (and_parts (nat_le cost a.credit) (affords (a.credit - cost) b.jump lines) a.paid).0 in
    let size = call_parts c.layout to callee args in
    let few = d.few in
    let price = a.price in
    let price_there = there.price in
    let steps = there.steps in
    record {
      steps = k + d.steps + there.steps;
      last = there.last;
      stopped = (comes_then a.comes d.comes).comes there.steps ∙ there.stopped;
      price = omega (arith, enough, size, few, price, price_there);
      output = there.output ∙ (ap (λ o. o ++ t.output) (d.output ∙ a.output) ∙ append_assoc c.start.output fs.spent.output t.output);
    }

kept_on : (c : Setting) (f : Code Location) (b : Block Location) (to : Option (Destination Location)) (callee : Operand Location)
    (args : List (Argument Location)) (lines : List (Line Location)) (fs : FlatState) (k : ℕ) (u : State)
    → (a : At c f b (Call to callee args ∷ lines) fs k u) → (at : ℕ) (given : FlatGiven) (tail : List Item)
    → (d : Departs c to callee args at given tail u) → (t : Spent) → KeepsOn d.v t → KeepsOn c.start (both one_call (both fs.spent t))
kept_on c f b to callee args lines fs k u a at given tail d t there =
    let cost : ℕ = 20 + 24 * length args in
    let enough = leb-true cost a.credit (and_parts (nat_le cost a.credit) (affords (a.credit - cost) b.jump lines) a.paid).0 in
    let size = call_parts c.layout to callee args in
    let few = d.few in
    let some = d.some in
    let price = a.price in
    let price_there = there.price in
    let bound = few_standing f fs.block in
    let pace = a.pace in
    let pace_there = there.pace in
    record {
      steps = k + d.steps + there.steps;
      after = there.after;
      comes = comes_then (comes_then a.comes d.comes) there.comes;
      price = omega (arith, enough, size, few, price, price_there);
      pace = omega (arith, some, bound, pace, pace_there);
      output = there.output ∙ (ap (λ o. o ++ t.output) (d.output ∙ a.output) ∙ append_assoc c.start.output fs.spent.output t.output);
    }

-- ---- as the call goes

went : (c : Setting) (f : Code Location) → CodeStands c f → (j : FlatGiven) (r : FlatOutcome) (n : ℕ) → Follows c f j r n
    → (b : Block Location) (to : Option (Destination Location)) (callee : Operand Location) (args : List (Argument Location)) (lines : List (Line Location))
    (fs : FlatState) (k : ℕ) (u : State) → (a : At c f b (Call to callee args ∷ lines) fs k u) → (at : ℕ) (given : FlatGiven)
    → (d : Departs c to callee args at given ((lines_items c.layout (a.used + 0) lines ++ end_items c.layout c.saved fs.block b) ++ (Label (fs.block + 1) ∷ a.rest)) u)
    → (o : FlatOutcome) → Performs c.world (bottom c) (option_map (λ (q : Destination Location). q.class) to) fs.memory d.v o → ReachStays fs.memory o
    → (log : Log) → LoggedNext (λ s rest. Logged (step_of c f j) n s rest r) r (resumes fs to o) log → AllPerform c.world c.floor log
    → Performed c f r
went c f is j r n go b to callee args lines fs k u a at given d (FlatReturned t x now) there stays log goes all =
    returned c f is j r n go b to callee args lines fs k u a at given d t x now there stays log goes all
went c f is j r n go b to callee args lines fs k u a at given d (FlatEnded t (Exit m)) there stays log goes all =
    let tail : List Item = (lines_items c.layout (a.used + 0) lines ++ end_items c.layout c.saved fs.block b) ++ (Label (fs.block + 1) ∷ a.rest) in
    subst (λ o. Performed c f o) goes.0 (stopped c f b to callee args lines fs k u a at given tail d t (Exited m) there)
went c f is j r n go b to callee args lines fs k u a at given d (FlatEnded t Halted) there stays log goes all =
    let tail : List Item = (lines_items c.layout (a.used + 0) lines ++ end_items c.layout c.saved fs.block b) ++ (Label (fs.block + 1) ∷ a.rest) in
    subst (λ o. Performed c f o) goes.0 (stopped c f b to callee args lines fs k u a at given tail d t Broken there)
went c f is j r n go b to callee args lines fs k u a at given d (FlatEnded t Undefined) there stays log goes all =
    subst (λ o. Performed c f o) goes.0 tt
went c f is j r n go b to callee args lines fs k u a at given d (FlatEnded t Stack) there stays log goes all =
    subst (λ o. Performed c f o) goes.0 tt
went c f is j r n go b to callee args lines fs k u a at given d (FlatEnded t Turns) there stays log goes all =
    let tail : List Item = (lines_items c.layout (a.used + 0) lines ++ end_items c.layout c.saved fs.block b) ++ (Label (fs.block + 1) ∷ a.rest) in
    subst (λ o. Performed c f o) goes.0 (kept_on c f b to callee args lines fs k u a at given tail d t there)

-- ---- a call

-- what the callee is given
abbrev given_to : FlatGiven → FlatState → List ℕ → FlatGiven
given_to j fs xs = record { turns = j.turns - fs.spent.turns; room = j.room; args = xs; memory = fs.memory }

abbrev asked_by : FlatGiven → FlatState → Option (Destination Location) → List (Argument Location) → ℕ → List ℕ → FlatAsked
asked_by j fs to args at xs =
    record {
      at = at;
      classes = map (λ (a : Argument Location). a.class) args;
      wants = option_map (λ (d : Destination Location). d.class) to;
      given = given_to j fs xs;
    }

called : (c : Setting) (f : Code Location) → CodeStands c f → (j : FlatGiven) (r : FlatOutcome) (n : ℕ) → Follows c f j r n
    → (b : Block Location) (to : Option (Destination Location)) (callee : Operand Location) (args : List (Argument Location)) (lines : List (Line Location))
    (fs : FlatState) (k : ℕ) (u : State) → At c f b (Call to callee args ∷ lines) fs k u → (at : ℕ) (xs : List ℕ)
    → number_of c.addresses fs.numbers callee ≡ Some at → read_all c.addresses fs.numbers args ≡ Some xs
    → (log : Log) → Then c f j r n log (calls j fs to args (Some at) (Some xs)) → AllPerform c.world c.floor log → Performed c f r
called c f is j r n go b to callee args lines fs k u a at xs is_at is_xs [] goes all = absurd goes
called c f is j r n go b to callee args lines fs k u a at xs is_at is_xs (l ∷ log) goes all =
    let asked : l.asked ≡ asked_by j fs to args at xs = goes.0 in
    let level : c.floor ≡ bottom c = (a.stood.calls (fs.next + 0) (Call to callee args) (a.ahead 0) refl).0 in
    let performs =
    subst (λ (i : FlatAsked). PerformsAt c.world i.at (bottom c) i.classes i.wants i.given l.went) asked
    (subst (λ (p : ℕ). PerformsAt c.world l.asked.at p l.asked.classes l.asked.wants l.asked.given l.went) level all.0) in
    let even : at % 4 ≡ 0 = subst (λ (i : FlatAsked). i.at % 4 ≡ 0) asked all.1 in
    let stays = subst (λ (i : FlatAsked). ReachStays i.given.memory l.went) asked all.2 in
    let d = departs c f is b to callee args lines fs k u a at xs (j.turns - fs.spent.turns) j.room is_at is_xs even in
    went c f is j r n go b to callee args lines fs k u a at (given_to j fs xs) d l.went (performs d.v d.ready) stays log goes.1 all.3

-- the callee and the arguments are known, or the code is undefined
pub call_case : (c : Setting) (f : Code Location) → CodeStands c f → (j : FlatGiven) (r : FlatOutcome) (n : ℕ) → Follows c f j r n
    → (b : Block Location) (to : Option (Destination Location)) (callee : Operand Location) (args : List (Argument Location)) (lines : List (Line Location))
    (fs : FlatState) (k : ℕ) (u : State) → At c f b (Call to callee args ∷ lines) fs k u → (log : Log)
    → Then c f j r n log (calls j fs to args (number_of c.addresses fs.numbers callee) (read_all c.addresses fs.numbers args))
    → AllPerform c.world c.floor log → Performed c f r
call_case c f is j r n go b to callee args lines fs k u a log goes all =
    by_operands (number_of c.addresses fs.numbers callee) refl (read_all c.addresses fs.numbers args) refl goes
  where
    by_operands : (o : Option ℕ) → number_of c.addresses fs.numbers callee ≡ o → (q : Option (List ℕ)) → read_all c.addresses fs.numbers args ≡ q
        → Then c f j r n log (calls j fs to args o q) → Performed c f r
    by_operands None e q d e_goes = undefined c f fs.spent r e_goes.0
    by_operands (Some at) e None d e_goes = undefined c f fs.spent r e_goes.0
    by_operands (Some at) e (Some xs) d e_goes = called c f is j r n go b to callee args lines fs k u a at xs e d log e_goes all
