-- The virtual code simulates the endings of blocks, and so the whole function.
use Rattle.std.proofs.Common.{◌≡◌, ℕ, zero, suc, ◌+◌, ◌-◌, Bool, true, false, not, cond, nat_eq, nat_lt, List, [], ◌∷◌, length, map, replicate, refl, sym, ◌∙◌, ap, subst, slice_get, slice_set, Option, Some, None, append-nil}
use Rattle.std.specs.Option.{option_and_then, option_flatten}
use Rattle.il_ast.specs.declared.operation.Class.{Class}
use Rattle.il_ast.specs.declared.operation.Class.TheVariants.{W}
use Rattle.il_ast.specs.declared.operation.Condition.TheVariants.{NotEqual}
use Rattle.il_ast.specs.declared.operand.Val.{Val}
use Rattle.il_ast.specs.declared.operand.Val.TheVariants.{Int}
use Rattle.il_ast.specs.declared.instruction.Inst.{Inst}
use Rattle.il_ast.specs.declared.instruction.Lined.{Lined}
use Rattle.il_ast.specs.declared.block.Block.{Block}
use Rattle.il_ast.specs.declared.function.Param.{Param}
use Rattle.il_ast.specs.declared.function.Func.{Func}
use Rattle.il_ast.specs.declared.value.Value.{Value}
use Rattle.il_ast.specs.declared.value.Value.TheVariants.{Integer, Pointer, Function}
use Rattle.il_ast.specs.declared.value.End.TheVariants.{Halt as Halted, Turns}
use Rattle.il_ast.specs.Prelude.{free_all, truth, operate_two, operand, inst_effect, Spent, one_turn, both, Outcome, Returned, Ended, with_args, Next, On, Over, Event, Does, Calls, Asked, Fine, classes_of}
use Rattle.il_ast.proofs.Simulation.{Leads, MatchesEvent, Simulates}
use Rattle.il_ast.proofs.Simulated.{simulation_keeps}
use Rattle.phi_copies.specs.declared.ending.Assignment.{Assignment}
use Rattle.phi_copies.specs.declared.ending.Leave.{Leave}
use Rattle.phi_copies.specs.declared.ending.Leave.TheVariants.{Goto, Branch, Return, Halt}
use Rattle.phi_copies.specs.declared.ending.Ending.{Ending}
use Rattle.phi_copies.specs.Endings.{Endings, State as Source, begin as begin_source, weighs, in_turn, goes_on, copied, branches as source_branches, returns as source_returns, returns_in, leaves, copies_and_leaves, after_mark, marked, ends, block_step, step_in, step as source_step}
use Rattle.vcode.specs.declared.place.Operand.TheVariants.{Number}
use Rattle.vcode.specs.declared.line.Operation.TheVariants.{Compare as CompareValues}
use Rattle.vcode.specs.declared.line.Line.TheVariants.{Tick}
use Rattle.vcode.specs.declared.code.Block.{Block as VirtualBlock}
use Rattle.vcode.specs.Prelude.{held, operate, Values, virtual, put, unknown, State, value_of, ticks, line_step, jump_step, enters, compared, branches, returns, bound, begin as begin_code, step as step_code, read_result}
use Rattle.select.specs.Selected.{not_zero, operand_of, parameter_of, copy_lines, assignment_lines, ending_lines, jump_of, block_of, edge_of, all_lines, selected, result_of}
use Rattle.select.specs.Typed.{Classes, Fits, CopiesFit, LeaveFits, EndingFits, ReturnFits, ParamsFit, IsTyped}
use Rattle.select.specs.Laws.{KeepsEndings}
use Rattle.select.proofs.Going.{Setting, go, Left, Go, goes_line, goes_jump, left_further, gone, go_both}
use Rattle.select.proofs.Registers.{Holds, stands, reads, read_same, put_holds}
use Rattle.select.proofs.Yielding.{yielded_holds}
use Rattle.select.proofs.OperationLines.{copy_yields, comparison_gives}
use Rattle.select.proofs.BlockLines.{block_at, edge_at, has_ending, lines_all, none_before}
use Rattle.select.proofs.Selecting.{Whole, within, offset_in, offset, at, Related, is_at, AtInst, stopped, inst_matched}

-- ---- steps before others

leads_then : (c : Setting) (k m : ℕ) (x y z : Next (State ℕ) Outcome) → Leads (go c) k x y → Leads (go c) m y z → (n : ℕ) × Leads (go c) n x z
leads_then c zero m x y z h j = (m, subst (λ v. Leads (go c) m v z) (sym h) j)
leads_then c (suc k) m x y z h j = let r = leads_then c k m h.2.0 y z h.2.2 j in (suc r.0, (h.0, h.1, (h.2.0, h.2.1, r.1)))

event_before : (w : Whole) (t u : State ℕ) (e : Event Source Asked Outcome) → go (within w) t ≡ Does (On u) → MatchesEvent (Related w) Fine (go (within w)) e u → MatchesEvent (Related w) Fine (go (within w)) e t
event_before w t u (Does (On s)) is h = (suc h.0, (h.1.0, (t, refl, (On u, is, h.1.1)), h.1.2))
event_before w t u (Does (Over o)) is h = λ fine. let a = h fine in (suc a.0, (t, refl, (On u, is, a.1)))
event_before w t u (Calls i next) is h = (suc h.0, (h.1.0, (t, refl, (On u, is, h.1.1)), h.1.2))

-- ---- copies

record CopiesGo (c : Setting) (classes : Classes) (t : State ℕ) (cs : List Assignment) (temps : List (Option Value)) : Type 0 where
  after : State ℕ
  goes : Go c (assignment_lines classes cs) t after
  holds : Holds classes temps after.values
  memory : after.memory ≡ t.memory
  owned : after.owned ≡ t.owned
  spent : after.spent ≡ t.spent

some_temps : {xs ys : List (Option Value)} → Some xs ≡ Some ys → xs ≡ ys
some_temps h = cc

copies_go : (c : Setting) (classes : Classes) (cs : List Assignment) (t : State ℕ) (temps now : List (Option Value)) → CopiesFit classes cs → Holds classes temps t.values → copied c.globals temps cs ≡ Some now → CopiesGo c classes t cs now
copies_go c classes [] t temps now fits holds h =
    record { after = t; goes = refl; holds = subst (λ xs. Holds classes xs t.values) (some_temps h) holds; memory = refl; owned = refl; spent = refl }
copies_go c classes (a ∷ cs) t temps now fits holds h =
    by (copies_go c classes cs) (operand c.globals temps a.to.class a.value) refl h
  where
    by : ((u : State ℕ) (xs ys : List (Option Value)) → CopiesFit classes cs → Holds classes xs u.values → copied c.globals xs cs ≡ Some ys → CopiesGo c classes u cs ys) → (v : Option Value) → operand c.globals temps a.to.class a.value ≡ v → option_and_then (λ x. copied c.globals (slice_set temps a.to.temp (Some x)) cs) v ≡ Some now → CopiesGo c classes t (a ∷ cs) now
    by rest None e f = absurd (let no : ⊥ = cc in no)
    by rest (Some v) e f =
        let r = reads classes c.globals temps t.values a.to.class a.value v fits.1 holds e in
        let y = copy_yields classes c t a.to.temp a.to.class (operand_of a.value) v r (stands classes c.globals temps t.values a.to.class a.value v holds e) in
        let ls = copy_lines classes a.to.temp a.to.class (operand_of a.value) in
        let d = rest y.after (slice_set temps a.to.temp (Some v)) now fits.2 (yielded_holds c t ls a.to.temp a.to.class v classes temps fits.0 y holds) f in
        record {
          after = d.after;
          goes = go_both c ls (assignment_lines classes cs) t y.after d.after y.goes d.goes;
          holds = d.holds;
          memory = d.memory ∙ y.memory;
          owned = d.owned ∙ y.owned;
          spent = d.spent ∙ y.spent;
        }

-- ---- leaving a block

none_in : (classes : Classes) (b : Option Block) → offset_in classes b 0 ≡ 0
none_in classes None = refl
none_in classes (Some b) = none_before classes b.insts

-- a state that stands at the end of a block, beside the state of the function without phis
record AtEnd (w : Whole) (s : Source) (u : State ℕ) (b : VirtualBlock ℕ) (leave : Leave) : Type 0 where
  left : Left (within w) u b []
  jump : b.jump ≡ jump_of w.classes leave
  holds : Holds w.classes s.locals.temps u.values
  memory : u.memory ≡ s.memory
  owned : u.owned ≡ s.locals.owned
  spent : u.spent ≡ s.spent

abbrev LeaveMatched : Whole → Source → State ℕ → Leave → Type 0
LeaveMatched w s u leave = MatchesEvent (Related w) Fine (go (within w)) (leaves w.globals w.func.result s leave) u

jumps : (w : Whole) (s : Source) (u : State ℕ) (b : VirtualBlock ℕ) (leave : Leave) → AtEnd w s u b leave → go (within w) u ≡ jump_step w.globals w.func.result u (jump_of w.classes leave)
unfolding selected
jumps w s u b leave a = goes_jump (within w) u b a.left ∙ ap (jump_step w.globals w.func.result u) a.jump

enters_block : (w : Whole) (s : Source) (u : State ℕ) (b : VirtualBlock ℕ) (leave : Leave) (k : ℕ) → AtEnd w s u b leave → go (within w) u ≡ Does (On (record u { block = k; next = 0 })) → MatchesEvent (Related w) Fine (go (within w)) (Does (On (record s { block = k; next = 0 }))) u
enters_block w s u b leave k a e =
    let v : State ℕ = record u { block = k; next = 0 } in (
      1,
      (
        v,
        (u, refl, (On v, e, refl)),
        record { holds = a.holds; is = is_at w (record s { block = k; next = 0 }) v refl (sym (none_in w.classes (slice_get w.func.blocks k))) a.memory a.owned a.spent },
      ),
    )

returned_is : (u : State ℕ) (s : Source) (v : Option Value) → u.memory ≡ s.memory → u.owned ≡ s.locals.owned → u.spent ≡ s.spent → Returned u.spent v (free_all u.memory u.owned) ≡ Returned s.spent v (free_all s.memory s.locals.owned)
returned_is u s v m o p =
    ap (λ x. Returned x v (free_all u.memory u.owned)) p ∙ ap (λ x. Returned s.spent v (free_all x u.owned)) m ∙ ap (λ x. Returned s.spent v (free_all s.memory x)) o

over : (w : Whole) (u : State ℕ) (o : Outcome) → go (within w) u ≡ Does (Over o) → MatchesEvent (Related w) Fine (go (within w)) (Does (Over o)) u
over w u o e = λ fine. (1, (u, refl, (Over o, e, refl)))

-- the comparison of a branch tells whether the word is 0
tested : (classes : Classes) (globals : List Value) (temps : List (Option Value)) (u : State ℕ) (on : Val) (n : ℕ) → Holds classes temps u.values → operand globals temps W on ≡ Some (Integer n) → compared globals u (not_zero classes (operand_of on)) ≡ Some (Integer (truth (not (nat_eq n 0))))
unfolding operate_two
tested classes globals temps u on n holds e =
    let c = not_zero classes (operand_of on) in
    let g = comparison_gives classes globals u NotEqual W W (operand_of on) (Number 0) (Integer n) (Integer 0) (Integer (truth (not (nat_eq n 0))))
    (reads classes globals temps u.values W on (Integer n) tt holds e)
    (reads classes globals temps u.values W (Int 0) (Integer 0) tt holds refl)
    (stands classes globals temps u.values W on (Integer n) holds e)
    (stands classes globals temps u.values W (Int 0) (Integer 0) holds refl) refl in
    ap (option_and_then (λ x. option_and_then (λ y. operate u.memory (CompareValues c.condition c.class) x y) (value_of globals u.values c.right))) g.is_left
    ∙ ap (option_and_then (λ y. operate u.memory (CompareValues c.condition c.class) g.left y)) g.is_right
    ∙ g.gives

branches_are : (u : State ℕ) (nonzero otherwise : ℕ) (q : Bool) → branches u nonzero otherwise (Some (Integer (truth (not q)))) ≡ enters u (cond q otherwise nonzero)
branches_are u nonzero otherwise true = refl
branches_are u nonzero otherwise false = refl

leave_matched : (w : Whole) (s : Source) (u : State ℕ) (b : VirtualBlock ℕ) (leave : Leave) → LeaveFits w.classes w.func.result leave → AtEnd w s u b leave → LeaveMatched w s u leave
unfolding jump_step
leave_matched w s u b (Goto k) fits a = enters_block w s u b (Goto k) k a (jumps w s u b (Goto k) a)
leave_matched w s u b (Branch on nonzero otherwise) fits a = by (operand w.globals s.locals.temps W on) refl
  where
    by : (v : Option Value) → operand w.globals s.locals.temps W on ≡ v → MatchesEvent (Related w) Fine (go (within w)) (source_branches s nonzero otherwise v) u
    by None e = λ fine. absurd fine
    by (Some (Pointer p o)) e = λ fine. absurd fine
    by (Some (Function f)) e = λ fine. absurd fine
    by (Some (Integer n)) e =
        enters_block w s u b (Branch on nonzero otherwise) (cond (nat_eq n 0) otherwise nonzero) a
        (jumps w s u b (Branch on nonzero otherwise) a
        ∙ ap (branches u nonzero otherwise) (tested w.classes w.globals s.locals.temps u on n a.holds e)
        ∙ branches_are u nonzero otherwise (nat_eq n 0))
leave_matched w s u b (Return None) fits a =
    over w u (Returned s.spent None (free_all s.memory s.locals.owned))
    (jumps w s u b (Return None) a ∙ ap (λ o. Does (Over o)) (returned_is u s None a.memory a.owned a.spent))
leave_matched w s u b (Return (Some x)) fits a = by w.func.result fits (jumps w s u b (Return (Some x)) a)
  where
    by_value : (k : Class) (v : Option Value) → Fits w.classes k x → operand w.globals s.locals.temps k x ≡ v → go (within w) u ≡ returns u (read_result w.globals u.values k (result_of x)) → MatchesEvent (Related w) Fine (go (within w)) (source_returns s v) u
    by_value k None fit e g = λ fine. absurd fine
    by_value k (Some v) fit e g =
        over w u (Returned s.spent (Some v) (free_all s.memory s.locals.owned))
        (g ∙ ap (returns u) (read_same w.globals u.values (operand_of x) k v (reads w.classes w.globals s.locals.temps u.values k x v fit a.holds e))
        ∙ ap (λ o. Does (Over o)) (returned_is u s (Some v) a.memory a.owned a.spent))

    by : (k : Option Class) → ReturnFits w.classes k (Some x) → go (within w) u ≡ jump_step w.globals k u (jump_of w.classes (Return (Some x))) → MatchesEvent (Related w) Fine (go (within w)) (returns_in w.globals s k x) u
    by None fit g = λ fine. absurd fine
    by (Some k) fit g = by_value k (operand w.globals s.locals.temps k x) fit refl g
leave_matched w s u b Halt fits a = over w u (Ended s.spent Halted) (jumps w s u b Halt a ∙ ap (λ p. Does (Over (Ended p Halted))) a.spent)

-- ---- endings

-- the copies and the jump, behind the tick
after_tick : (w : Whole) (s : Source) (t : State ℕ) (b : VirtualBlock ℕ) (e : Ending) → EndingFits w.classes w.func.result e → Left (within w) t b (assignment_lines w.classes e.copies) → b.jump ≡ jump_of w.classes e.leave → Holds w.classes s.locals.temps t.values → t.memory ≡ s.memory → t.owned ≡ s.locals.owned → t.spent ≡ s.spent → MatchesEvent (Related w) Fine (go (within w)) (after_mark w.globals w.func.result s e) t
after_tick w s t b e fits left jump holds memory owned spent = by (copied w.globals s.locals.temps e.copies) refl
  where
    by_leave : (n : ℕ) (u : State ℕ) (x : Event Source Asked Outcome) → Leads (go (within w)) n (On t) (On u) → MatchesEvent (Related w) Fine (go (within w)) x u → MatchesEvent (Related w) Fine (go (within w)) x t
    by_leave n u (Does (On z)) h m = let r = leads_then (within w) n m.0 (On t) (On u) (On m.1.0) h m.1.1 in (r.0, (m.1.0, r.1, m.1.2))
    by_leave n u (Does (Over o)) h m = λ fine. let a = m fine in leads_then (within w) n a.0 (On t) (On u) (Over o) h a.1
    by_leave n u (Calls i next) h m = let r = leads_then (within w) n m.0 (On t) (On u) (On m.1.0) h m.1.1 in (r.0, (m.1.0, r.1, m.1.2))

    by : (now : Option (List (Option Value))) → copied w.globals s.locals.temps e.copies ≡ now → MatchesEvent (Related w) Fine (go (within w)) (copies_and_leaves w.globals w.func.result s e.leave now) t
    by None h = λ fine. absurd fine
    by (Some now) h =
        let c = within w in
        let g = copies_go c w.classes e.copies t s.locals.temps now fits.0 holds h in
        let d = gone c t g.after b (assignment_lines w.classes e.copies) [] (subst (λ ls. Left c t b ls) (sym (append-nil (assignment_lines w.classes e.copies))) left) g.goes in
        by_leave (length (assignment_lines w.classes e.copies)) g.after (leaves w.globals w.func.result (record s { locals = record { temps = now; owned = s.locals.owned } }) e.leave) d.leads
        (leave_matched w (record s { locals = record { temps = now; owned = s.locals.owned } }) g.after b e.leave fits.1
        (record { left = d.left; jump = jump; holds = g.holds; memory = g.memory ∙ memory; owned = g.owned ∙ owned; spent = g.spent ∙ spent }))

ending_matched : (w : Whole) (s : Source) (values : Values ℕ) (b : VirtualBlock ℕ) (e : Ending) → EndingFits w.classes w.func.result e → Left (within w) (at w s values) b (ending_lines w.classes e) → b.jump ≡ jump_of w.classes e.leave → Holds w.classes s.locals.temps values → MatchesEvent (Related w) Fine (go (within w)) (ends w.globals w.func.result w.given s (Some e)) (at w s values)
unfolding line_step
ending_matched w s values b e fits left jump holds = by_turn e.turn (goes_line (within w) (at w s values) b (Tick e.turn e.weight) (assignment_lines w.classes e.copies) left)
  where
    marked_so : (p : Spent) → go (within w) (at w s values) ≡ Does (On (record (at w s values) { next = offset w s.block s.next + 1; spent = p })) → MatchesEvent (Related w) Fine (go (within w)) (after_mark w.globals w.func.result (record s { spent = p }) e) (at w s values)
    marked_so p g =
        let u : State ℕ = record (at w s values) { next = offset w s.block s.next + 1; spent = p } in
        event_before w (at w s values) u (after_mark w.globals w.func.result (record s { spent = p }) e) g
        (after_tick w (record s { spent = p }) u b e fits
        (left_further (within w) (at w s values) u b (Tick e.turn e.weight) (assignment_lines w.classes e.copies) left refl refl) jump holds refl refl refl)

    by_left : (x : Bool) → nat_lt s.spent.turns w.given.turns ≡ x → go (within w) (at w s values) ≡ cond x (Does (On (record (at w s values) { next = offset w s.block s.next + 1; spent = both s.spent (one_turn e.weight) }))) (Does (Over (Ended s.spent Turns))) → MatchesEvent (Related w) Fine (go (within w)) (cond x (after_mark w.globals w.func.result (record s { spent = both s.spent (one_turn e.weight) }) e) (Does (Over (Ended s.spent Turns)))) (at w s values)
    by_left true l g = marked_so (both s.spent (one_turn e.weight)) g
    by_left false l g = over w (at w s values) (Ended s.spent Turns) g

    by_turn : (x : Bool) → go (within w) (at w s values) ≡ ticks w.given (at w s values) x e.weight → MatchesEvent (Related w) Fine (go (within w)) (marked w.given w.globals w.func.result s e x) (at w s values)
    by_turn true g = by_left (nat_lt s.spent.turns w.given.turns) refl g
    by_turn false g = marked_so (both s.spent (weighs e.weight)) g

-- ---- a step

block_ends : (w : Whole) (s : Source) (values : Values ℕ) (b : Block) → slice_get w.func.blocks s.block ≡ Some b → slice_get b.insts s.next ≡ None → Holds w.classes s.locals.temps values → MatchesEvent (Related w) Fine (go (within w)) (ends w.globals w.func.result w.given s (slice_get w.endings.endings s.block)) (at w s values)
unfolding selected
block_ends w s values b here none holds =
    let e = has_ending w.func.blocks w.endings.endings s.block b w.typed.each_ends here in
    let left : Left (within w) (at w s values) (block_of w.classes b e.ending) (ending_lines w.classes e.ending) = record {
      here = block_at w.classes w.func.blocks w.endings.endings (map (edge_of w.classes) w.endings.edges) s.block b e.ending here e.is;
      before = all_lines w.classes b.insts;
      lines = refl;
      place = ap (λ o. offset_in w.classes o s.next) here ∙ lines_all w.classes b.insts s.next none;
    } in
    subst (λ o. MatchesEvent (Related w) Fine (go (within w)) (ends w.globals w.func.result w.given s o) (at w s values)) (sym e.is)
    (ending_matched w s values (block_of w.classes b e.ending) e.ending (w.typed.endings s.block e.ending e.is) left refl holds)

edge_ends : (w : Whole) (s : Source) (values : Values ℕ) → slice_get w.func.blocks s.block ≡ None → Holds w.classes s.locals.temps values → (e : Option Ending) → slice_get w.endings.edges (s.block - length w.func.blocks) ≡ e → MatchesEvent (Related w) Fine (go (within w)) (ends w.globals w.func.result w.given s e) (at w s values)
unfolding selected
edge_ends w s values none holds None at_edge = λ fine. absurd fine
edge_ends w s values none holds (Some e) at_edge =
    ending_matched w s values (edge_of w.classes e) e (w.typed.edges (s.block - length w.func.blocks) e at_edge)
    (record {
      here = edge_at w.classes w.func.blocks w.endings.endings w.endings.edges s.block e w.typed.each_ends none at_edge;
      before = [];
      lines = refl;
      place = ap (λ o. offset_in w.classes o s.next) none;
    }) refl holds

inst_step : (w : Whole) (s : Source) (values : Values ℕ) (b : Block) (i : Lined Inst) → AtInst w s b i → Holds w.classes s.locals.temps values → MatchesEvent (Related w) Fine (go (within w)) (in_turn w.given s (goes_on w.given s (inst_effect w.globals s.locals s.memory i.item))) (at w s values)
inst_step w s values b i a holds = by (nat_lt s.spent.turns w.given.turns) refl
  where
    by : (x : Bool) → nat_lt s.spent.turns w.given.turns ≡ x → MatchesEvent (Related w) Fine (go (within w)) (cond x (goes_on w.given s (inst_effect w.globals s.locals s.memory i.item)) (Does (Over (Ended s.spent Turns)))) (at w s values)
    by true more = inst_matched w s values b i.line i.item a more holds (w.typed.insts s.block s.next b i a.here a.inst)
    by false none = over w (at w s values) (Ended s.spent Turns) (stopped w s values b i a none)

step_matched : (w : Whole) (s : Source) (values : Values ℕ) → Holds w.classes s.locals.temps values → MatchesEvent (Related w) Fine (go (within w)) (source_step w.globals w.func w.endings w.given s) (at w s values)
unfolding source_step
step_matched w s values holds = by_block (slice_get w.func.blocks s.block) refl
  where
    by_inst : (b : Block) (i : Option (Lined Inst)) → slice_get w.func.blocks s.block ≡ Some b → slice_get b.insts s.next ≡ i → MatchesEvent (Related w) Fine (go (within w)) (block_step w.globals w.func w.endings w.given s i) (at w s values)
    by_inst b (Some i) e f = inst_step w s values b i (record { here = e; inst = f }) holds
    by_inst b None e f = block_ends w s values b e f holds

    by_block : (b : Option Block) → slice_get w.func.blocks s.block ≡ b → MatchesEvent (Related w) Fine (go (within w)) (step_in w.globals w.func w.endings w.given s b) (at w s values)
    by_block (Some b) e = by_inst b (slice_get b.insts s.next) e refl
    by_block None e = edge_ends w s values e holds (slice_get w.endings.edges (s.block - length w.func.blocks)) refl

simulates : (w : Whole) → Simulates (Related w) Fine (source_step w.globals w.func w.endings w.given) (go (within w))
simulates w s t r =
    subst (λ u. MatchesEvent (Related w) Fine (go (within w)) (source_step w.globals w.func w.endings w.given s) u) (sym r.is) (step_matched w s t.values r.holds)

-- ---- the start

no_value : (n q : ℕ) (v : Value) → option_flatten (slice_get (replicate n None) q) ≡ Some v → ⊥
no_value zero q v h = cc
no_value (suc n) zero v h = cc
no_value (suc n) (suc q) v h = no_value n q v h

bound_holds : (classes : Classes) (params : List Param) (vs : List Value) (temps : List (Option Value)) (values : Values ℕ) → ParamsFit classes params → Holds classes temps values → Holds classes (with_args temps params vs) (bound virtual values (map parameter_of params) vs)
bound_holds classes [] vs temps values fits holds = holds
bound_holds classes (p ∷ ps) [] temps values fits holds = holds
bound_holds classes (p ∷ ps) (v ∷ vs) temps values fits holds =
    bound_holds classes ps vs (slice_set temps p.temp (Some v)) (put virtual p.temp (held p.class v) values) fits.1
    (put_holds classes temps values p.temp p.class v fits.0 holds)

starts : (w : Whole) → Related w (begin_source w.func w.given) (begin_code virtual (selected w.classes w.func w.endings) w.given)
unfolding selected
starts w =
    let s = begin_source w.func w.given in
    let t = begin_code virtual (selected w.classes w.func w.endings) w.given in
    record {
      holds = bound_holds w.classes w.func.params w.given.args _ unknown w.typed.params (λ q v h. absurd (no_value _ q v h));
      is = is_at w s t refl (sym (none_in w.classes (slice_get w.func.blocks 0))) refl refl refl;
    }

pub selected_keeps : (classes : Classes) (f : Func) (code : Endings) → IsTyped classes f code → KeepsEndings f code (selected classes f code)
selected_keeps classes f code typed globals =
    simulation_keeps (classes_of f.params) (begin_source f) (source_step globals f code) (begin_code virtual (selected classes f code)) (step_code virtual globals (selected classes f code))
    (λ i. Related (record { func = f; endings = code; classes = classes; typed = typed; globals = globals; given = i }))
    (λ i args. starts (record { func = f; endings = code; classes = classes; typed = typed; globals = globals; given = i }))
    (λ i. simulates (record { func = f; endings = code; classes = classes; typed = typed; globals = globals; given = i }))
