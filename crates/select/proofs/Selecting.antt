-- The virtual code simulates the function without phis, instruction by instruction and ending by ending.
use Rattle.std.proofs.Common.{◌≡◌, ℕ, suc, ◌+◌, ◌-◌, true, false, cond, nat_lt, List, [], ◌∷◌, ◌++◌, length, map, refl, sym, ◌∙◌, ap, subst, arith, append_assoc, slice_get, slice_set, Option, Some, None, option_map, option_and_then}
use Rattle.il_ast.specs.declared.operation.Class.{Class}
use Rattle.il_ast.specs.declared.operation.Class.TheVariants.{L}
use Rattle.il_ast.specs.declared.operand.Val.{Val}
use Rattle.il_ast.specs.declared.operand.Dest.{Dest}
use Rattle.il_ast.specs.declared.operand.Arg.{Arg}
use Rattle.il_ast.specs.declared.instruction.Inst.{Inst}
use Rattle.il_ast.specs.declared.instruction.Inst.TheVariants.{Unary, Binary, Alloc as AllocInst, Store as StoreInst, Blit as BlitInst, Call as CallInst}
use Rattle.il_ast.specs.declared.instruction.Lined.{Lined}
use Rattle.il_ast.specs.declared.block.Block.{Block}
use Rattle.il_ast.specs.declared.function.Func.{Func}
use Rattle.il_ast.specs.declared.value.Value.{Value}
use Rattle.il_ast.specs.declared.value.Value.TheVariants.{Integer, Pointer, Function}
use Rattle.il_ast.specs.declared.value.End.TheVariants.{Turns}
use Rattle.il_ast.specs.Prelude.{byte_count, Memory, store, copy, fresh, inst_weight, operand_class, left_class, right_class, operate_one, operate_two, InstEffect, operand, all_operands, assigned, changed, stored_class, blit_weight, call_weight, call_effect, inst_effect, Spent, one_turn, both, Outcome, Returned, Ended, On, Over, Event, Does, Calls, Asked, Given, Fine}
use Rattle.il_ast.proofs.Simulation.{Leads, Matches, MatchesEvent}
use Rattle.phi_copies.specs.Endings.{Endings, State as Source, goes_on, resumes as source_resumes}
use Rattle.vcode.specs.declared.place.Destination.{Destination}
use Rattle.vcode.specs.declared.place.Argument.{Argument}
use Rattle.vcode.specs.declared.line.Line.{Line}
use Rattle.vcode.specs.Prelude.{at_once, held, Values, virtual, put, State, value_of, read_all, line_step, changes, calls, resumes}
use Rattle.vcode.specs.declared.line.Line.TheVariants.{Tick, Store, Blit, Call}
use Rattle.vcode.specs.declared.code.Block.{Block as VirtualBlock}
use Rattle.select.specs.Selected.{operand_of, destination_of, argument_of, inst_lines, turn_lines, ending_lines, block_of, edge_of, all_lines, selected}
use Rattle.select.specs.Typed.{Classes, TakesWanted, InstFits, IsTyped}
use Rattle.select.proofs.Going.{Setting, go, Left, Go, goes_line, left_further, gone}
use Rattle.select.proofs.Registers.{Holds, stands, reads, read_same, long_same, arguments_read, put_holds}
use Rattle.select.proofs.Yielding.{Yields, yielded_holds}
use Rattle.select.proofs.OperationLines.{unary_yields, binary_yields}
use Rattle.select.proofs.BlockLines.{block_at, has_ending, lines_before, parted, lines_further}

-- all that stays fixed
pub record Whole : Type 0 where
  pub func : Func
  pub endings : Endings
  pub classes : Classes
  pub typed : IsTyped classes func endings
  pub globals : List Value
  pub given : Given

abbrev pub within : Whole → Setting
within w = record { code = selected w.classes w.func w.endings; globals = w.globals; given = w.given }

-- ---- related states

abbrev pub offset_in : Classes → Option Block → ℕ → ℕ
offset_in classes None j = 0
offset_in classes (Some b) j = lines_before classes b.insts j

abbrev pub offset : Whole → (block next : ℕ) → ℕ
offset w k j = offset_in w.classes (slice_get w.func.blocks k) j

abbrev pub make : ℕ → ℕ → Values ℕ → Memory → List ℕ → Spent → State ℕ
make b n v m o p = record { block = b; next = n; values = v; memory = m; owned = o; spent = p }

-- the state of the virtual code, with these values in its registers
abbrev pub at : Whole → Source → Values ℕ → State ℕ
at w s values = make s.block (offset w s.block s.next) values s.memory s.locals.owned s.spent

pub record Related (w : Whole) (s : Source) (t : State ℕ) : Type 0 where
  pub holds : Holds w.classes s.locals.temps t.values
  pub is : t ≡ at w s t.values

-- a state with these parts
pub is_at : (w : Whole) (s : Source) (t : State ℕ) → t.block ≡ s.block → t.next ≡ offset w s.block s.next → t.memory ≡ s.memory → t.owned ≡ s.locals.owned → t.spent ≡ s.spent → t ≡ at w s t.values
is_at w s t b n m o p =
    ap (λ x. make x t.next t.values t.memory t.owned t.spent) b
    ∙ ap (λ x. make s.block x t.values t.memory t.owned t.spent) n
    ∙ ap (λ x. make s.block (offset w s.block s.next) t.values x t.owned t.spent) m
    ∙ ap (λ x. make s.block (offset w s.block s.next) t.values s.memory x t.spent) o
    ∙ ap (λ x. make s.block (offset w s.block s.next) t.values s.memory s.locals.owned x) p

-- ---- where an instruction stands

-- an instruction is next
pub record AtInst (w : Whole) (s : Source) (b : Block) (i : Lined Inst) : Type 0 where
  pub here : slice_get w.func.blocks s.block ≡ Some b
  pub inst : slice_get b.insts s.next ≡ Some i

record Ready (w : Whole) (s : Source) (values : Values ℕ) (i : Lined Inst) : Type 0 where
  block : VirtualBlock ℕ
  behind : List (Line ℕ)
  left : Left (within w) (at w s values) block (turn_lines w.classes i ++ behind)

ready : (w : Whole) (s : Source) (values : Values ℕ) (b : Block) (i : Lined Inst) → AtInst w s b i → Ready w s values i
unfolding selected
ready w s values b i a =
    let e = has_ending w.func.blocks w.endings.endings s.block b w.typed.each_ends a.here in
    let r = parted w.classes b.insts s.next i a.inst in
    let lines : all_lines w.classes b.insts ++ ending_lines w.classes e.ending ≡ r.before ++ (turn_lines w.classes i ++ (r.behind ++ ending_lines w.classes e.ending)) =
    ap (λ ls. ls ++ ending_lines w.classes e.ending) r.is
    ∙ append_assoc r.before (turn_lines w.classes i ++ r.behind) (ending_lines w.classes e.ending)
    ∙ ap (λ ls. r.before ++ ls) (append_assoc (turn_lines w.classes i) r.behind (ending_lines w.classes e.ending)) in
    record {
      block = block_of w.classes b e.ending;
      behind = r.behind ++ ending_lines w.classes e.ending;
      left = record {
        here = block_at w.classes w.func.blocks w.endings.endings (map (edge_of w.classes) w.endings.edges) s.block b e.ending a.here e.is;
        before = r.before;
        lines = lines;
        place = ap (λ o. offset_in w.classes o s.next) a.here ∙ r.place;
      };
    }

-- ---- the turn of an instruction

-- after the tick
abbrev pub ticked : Whole → Source → Values ℕ → ℕ → State ℕ
ticked w s values weight = record (at w s values) { next = offset w s.block s.next + 1; spent = both s.spent (one_turn weight) }

-- it comes to a related state
abbrev pub ComesTo : Whole → State ℕ → Source → Type 0
ComesTo w t s = (k : ℕ) × ((u : State ℕ) × Leads (go (within w)) k (On t) (On u) × Related w s u)

record Ticked (w : Whole) (s : Source) (values : Values ℕ) (i : Lined Inst) : Type 0 where
  block : VirtualBlock ℕ
  behind : List (Line ℕ)
  goes : go (within w) (at w s values) ≡ Does (On (ticked w s values (inst_weight i.item)))
  left : Left (within w) (ticked w s values (inst_weight i.item)) block (inst_lines w.classes i.item ++ behind)

tick : (w : Whole) (s : Source) (values : Values ℕ) (b : Block) (i : Lined Inst) → AtInst w s b i → nat_lt s.spent.turns w.given.turns ≡ true → Ticked w s values i
unfolding line_step
tick w s values b i a more =
    let r = ready w s values b i a in
    let t = at w s values in
    let weight = inst_weight i.item in
    let u = ticked w s values weight in
    record {
      block = r.block;
      behind = r.behind;
      goes =
          goes_line (within w) t r.block (Tick true weight) (inst_lines w.classes i.item ++ r.behind) r.left
          ∙ ap (λ x. cond x (Does (On u)) (Does (Over (Ended s.spent Turns)))) more;
      left = left_further (within w) t u r.block (Tick true weight) (inst_lines w.classes i.item ++ r.behind) r.left refl refl;
    }

pub stopped : (w : Whole) (s : Source) (values : Values ℕ) (b : Block) (i : Lined Inst) → AtInst w s b i → nat_lt s.spent.turns w.given.turns ≡ false → go (within w) (at w s values) ≡ Does (Over (Ended s.spent Turns))
unfolding line_step
stopped w s values b i a none =
    let r = ready w s values b i a in
    let t = at w s values in
    let weight = inst_weight i.item in
    goes_line (within w) t r.block (Tick true weight) (inst_lines w.classes i.item ++ r.behind) r.left
    ∙ ap (λ x. cond x (Does (On (ticked w s values weight))) (Does (Over (Ended s.spent Turns)))) none

-- the state behind the instruction
abbrev next_of : Source → ℕ → Source
next_of s weight = record s { next = s.next + 1; spent = both s.spent (one_turn weight) }

-- the lines of the instruction lead to a state that is related to `now`
pub lines_come : (w : Whole) (s now : Source) (values : Values ℕ) (b : Block) (i : Lined Inst) (u : State ℕ) → AtInst w s b i → nat_lt s.spent.turns w.given.turns ≡ true → Go (within w) (inst_lines w.classes i.item) (ticked w s values (inst_weight i.item)) u → now.block ≡ s.block → now.next ≡ s.next + 1 → u.memory ≡ now.memory → u.owned ≡ now.locals.owned → u.spent ≡ now.spent → Holds w.classes now.locals.temps u.values → ComesTo w (at w s values) now
lines_come w s now values b i u a more g block next memory owned spent holds =
    let c = within w in
    let r = tick w s values b i a more in
    let t = at w s values in
    let t2 = ticked w s values (inst_weight i.item) in
    let d = gone c t2 u r.block (inst_lines w.classes i.item) r.behind r.left g in
    let further = lines_further w.classes b.insts s.next i a.inst in
    let from : offset w s.block s.next ≡ lines_before w.classes b.insts s.next = ap (λ o. offset_in w.classes o s.next) a.here in
    let to : offset w now.block now.next ≡ lines_before w.classes b.insts (s.next + 1) = ap (λ k. offset w k now.next) block ∙ ap (λ o. offset_in w.classes o now.next) a.here ∙ ap (lines_before w.classes b.insts) next in
    let dn = d.next in
    let place : u.next ≡ offset w now.block now.next = omega (arith, further, from, to, dn) in (
      suc (length (inst_lines w.classes i.item)),
      (
        u,
        (t, refl, (On t2, r.goes, d.leads)),
        record { holds = holds; is = is_at w now u (d.block ∙ sym block) place memory owned spent },
      ),
    )

-- ---- instructions that write a value

abbrev pub lined : ℕ → Inst → Lined Inst
lined line x = record { line = line; item = x }

-- what an instruction with this effect owes
abbrev pub Matched : Whole → Source → Values ℕ → InstEffect → Type 0
Matched w s values e = MatchesEvent (Related w) Fine (go (within w)) (goes_on w.given s e) (at w s values)

value_matched : (w : Whole) (s : Source) (values : Values ℕ) (b : Block) (i : Lined Inst) (p : ℕ) (k : Class) (x : Value) → AtInst w s b i → nat_lt s.spent.turns w.given.turns ≡ true → Holds w.classes s.locals.temps values → w.classes p ≡ k → inst_weight i.item ≡ 1 → Yields (within w) (ticked w s values (inst_weight i.item)) (inst_lines w.classes i.item) p (held k x) → Matched w s values (assigned s.locals s.memory p (Some x))
value_matched w s values b i p k x a more holds class weight y =
    lines_come w s (record (next_of s 1) { locals = record s.locals { temps = slice_set s.locals.temps p (Some x) } }) values b i y.after a more y.goes refl refl y.memory y.owned
    (y.spent ∙ ap (λ n. both s.spent (one_turn n)) weight)
    (yielded_holds (within w) (ticked w s values (inst_weight i.item)) (inst_lines w.classes i.item) p k x w.classes s.locals.temps class y holds)

unary_matched : (w : Whole) (s : Source) (values : Values ℕ) (b : Block) (line : ℕ) (to : Dest) (op : _) (a : Val) → AtInst w s b (lined line (Unary to op a)) → nat_lt s.spent.turns w.given.turns ≡ true → Holds w.classes s.locals.temps values → InstFits w.classes (Unary to op a) → Matched w s values (inst_effect w.globals s.locals s.memory (Unary to op a))
unfolding inst_effect
unary_matched w s values b line to op a here more holds fits = by (operand w.globals s.locals.temps (operand_class op to.class) a) refl
  where
    by_value : (u : Value) (x : Option Value) → operand w.globals s.locals.temps (operand_class op to.class) a ≡ Some u → operate_one s.memory op to.class u ≡ x → Matched w s values (assigned s.locals s.memory to.temp x)
    by_value u None e f = λ fine. absurd fine
    by_value u (Some x) e f =
        value_matched w s values b (lined line (Unary to op a)) to.temp to.class x here more holds fits.0 refl
        (unary_yields w.classes (within w) (ticked w s values 1) to.temp op to.class (operand_of a) u x fits.1
        (reads w.classes w.globals s.locals.temps values (operand_class op to.class) a u fits.2 holds e)
        (stands w.classes w.globals s.locals.temps values (operand_class op to.class) a u holds e) f)

    by : (u : Option Value) → operand w.globals s.locals.temps (operand_class op to.class) a ≡ u → Matched w s values (assigned s.locals s.memory to.temp (option_and_then (operate_one s.memory op to.class) u))
    by None e = λ fine. absurd fine
    by (Some u) e = by_value u (operate_one s.memory op to.class u) e refl

binary_matched : (w : Whole) (s : Source) (values : Values ℕ) (b : Block) (line : ℕ) (to : Dest) (op : _) (a c : Val) → AtInst w s b (lined line (Binary to op a c)) → nat_lt s.spent.turns w.given.turns ≡ true → Holds w.classes s.locals.temps values → InstFits w.classes (Binary to op a c) → Matched w s values (inst_effect w.globals s.locals s.memory (Binary to op a c))
unfolding inst_effect
binary_matched w s values b line to op a c here more holds fits = by (operand w.globals s.locals.temps (left_class op to.class) a) (operand w.globals s.locals.temps (right_class op to.class) c) refl refl
  where
    by_value : (u v : Value) (x : Option Value) → operand w.globals s.locals.temps (left_class op to.class) a ≡ Some u → operand w.globals s.locals.temps (right_class op to.class) c ≡ Some v → operate_two s.memory op to.class u v ≡ x → Matched w s values (assigned s.locals s.memory to.temp x)
    by_value u v None e f g = λ fine. absurd fine
    by_value u v (Some x) e f g =
        value_matched w s values b (lined line (Binary to op a c)) to.temp to.class x here more holds fits.0 refl
        (binary_yields w.classes (within w) (ticked w s values 1) to.temp op to.class (operand_of a) (operand_of c) u v x
        (reads w.classes w.globals s.locals.temps values (left_class op to.class) a u fits.1 holds e)
        (reads w.classes w.globals s.locals.temps values (right_class op to.class) c v fits.2 holds f)
        (stands w.classes w.globals s.locals.temps values (left_class op to.class) a u holds e)
        (stands w.classes w.globals s.locals.temps values (right_class op to.class) c v holds f) g)

    by : (u v : Option Value) → operand w.globals s.locals.temps (left_class op to.class) a ≡ u → operand w.globals s.locals.temps (right_class op to.class) c ≡ v → Matched w s values (assigned s.locals s.memory to.temp (option_and_then (λ y. option_and_then (λ z. operate_two s.memory op to.class y z) v) u))
    by None v e f = λ fine. absurd fine
    by (Some u) None e f = λ fine. absurd fine
    by (Some u) (Some v) e f = by_value u v (operate_two s.memory op to.class u v) e f refl

alloc_matched : (w : Whole) (s : Source) (values : Values ℕ) (b : Block) (line : ℕ) (to : Dest) (alignment : _) (size : ℕ) → AtInst w s b (lined line (AllocInst to alignment size)) → nat_lt s.spent.turns w.given.turns ≡ true → Holds w.classes s.locals.temps values → InstFits w.classes (AllocInst to alignment size) → Matched w s values (inst_effect w.globals s.locals s.memory (AllocInst to alignment size))
unfolding inst_effect line_step
alloc_matched w s values b line to alignment size here more holds fits =
    let x = Pointer (length s.memory) 0 in
    let t = ticked w s values 1 in
    let u : State ℕ = record t { next = t.next + 1; values = put virtual to.temp x values; memory = fresh s.memory size; owned = s.locals.owned ++ length s.memory ∷ [] } in
    lines_come w s
    (record (next_of s 1) { locals = record { temps = slice_set s.locals.temps to.temp (Some x); owned = s.locals.owned ++ length s.memory ∷ [] }; memory = fresh s.memory size })
    values b (lined line (AllocInst to alignment size)) u here more (u, refl, refl, refl, refl) refl refl refl refl refl
    (put_holds w.classes s.locals.temps values to.temp L x fits holds)

-- ---- instructions that change memory

memory_matched : (w : Whole) (s : Source) (values : Values ℕ) (b : Block) (i : Lined Inst) (l : Line ℕ) (m : Memory) → AtInst w s b i → nat_lt s.spent.turns w.given.turns ≡ true → Holds w.classes s.locals.temps values → inst_lines w.classes i.item ≡ l ∷ [] → line_step virtual w.globals w.given (ticked w s values (inst_weight i.item)) l ≡ changes (ticked w s values (inst_weight i.item)) (Some m) → Matched w s values (changed s.locals (inst_weight i.item) (Some m))
memory_matched w s values b i l m here more holds lines e =
    let t = ticked w s values (inst_weight i.item) in
    let u : State ℕ = record t { next = t.next + 1; memory = m } in
    lines_come w s (record (next_of s (inst_weight i.item)) { memory = m }) values b i u here more
    (subst (λ ls. Go (within w) ls t u) (sym lines) (u, e, refl, refl, refl)) refl refl refl refl refl holds

store_matched : (w : Whole) (s : Source) (values : Values ℕ) (b : Block) (line : ℕ) (size : _) (a p : Val) → AtInst w s b (lined line (StoreInst size a p)) → nat_lt s.spent.turns w.given.turns ≡ true → Holds w.classes s.locals.temps values → InstFits w.classes (StoreInst size a p) → Matched w s values (inst_effect w.globals s.locals s.memory (StoreInst size a p))
unfolding inst_effect line_step
store_matched w s values b line size a p here more holds fits = by (operand w.globals s.locals.temps (stored_class size) a) (operand w.globals s.locals.temps L p) refl refl
  where
    by_memory : (v q : Value) (m : Option Memory) → operand w.globals s.locals.temps (stored_class size) a ≡ Some v → operand w.globals s.locals.temps L p ≡ Some q → store s.memory (byte_count size) q v ≡ m → Matched w s values (changed s.locals 1 m)
    by_memory v q None e f g = λ fine. absurd fine
    by_memory v q (Some m) e f g =
        let r = read_same w.globals values (operand_of a) (stored_class size) v (reads w.classes w.globals s.locals.temps values (stored_class size) a v fits.0 holds e) in
        let d = long_same w.globals values (operand_of p) q (reads w.classes w.globals s.locals.temps values L p q fits.1 holds f) in
        memory_matched w s values b (lined line (StoreInst size a p)) (Store size (operand_of a) (at_once (operand_of p))) m here more holds refl
        (ap (λ o. changes (ticked w s values 1) (option_and_then (λ y. option_and_then (λ z. store s.memory (byte_count size) z y) (value_of w.globals values (operand_of p))) o)) r
        ∙ ap (λ o. changes (ticked w s values 1) (option_and_then (λ z. store s.memory (byte_count size) z v) o)) d
        ∙ ap (changes (ticked w s values 1)) g)

    by : (v q : Option Value) → operand w.globals s.locals.temps (stored_class size) a ≡ v → operand w.globals s.locals.temps L p ≡ q → Matched w s values (changed s.locals 1 (option_and_then (λ y. option_and_then (λ z. store s.memory (byte_count size) z y) q) v))
    by None q e f = λ fine. absurd fine
    by (Some v) None e f = λ fine. absurd fine
    by (Some v) (Some q) e f = by_memory v q (store s.memory (byte_count size) q v) e f refl

blit_matched : (w : Whole) (s : Source) (values : Values ℕ) (b : Block) (line : ℕ) (from to : Val) (count : ℕ) → AtInst w s b (lined line (BlitInst from to count)) → nat_lt s.spent.turns w.given.turns ≡ true → Holds w.classes s.locals.temps values → InstFits w.classes (BlitInst from to count) → Matched w s values (inst_effect w.globals s.locals s.memory (BlitInst from to count))
unfolding inst_effect line_step
blit_matched w s values b line from to count here more holds fits = by (operand w.globals s.locals.temps L from) (operand w.globals s.locals.temps L to) refl refl
  where
    by_memory : (p q : Value) (m : Option Memory) → operand w.globals s.locals.temps L from ≡ Some p → operand w.globals s.locals.temps L to ≡ Some q → copy s.memory count p q ≡ m → Matched w s values (changed s.locals (blit_weight count) m)
    by_memory p q None e f g = λ fine. absurd fine
    by_memory p q (Some m) e f g =
        let r = long_same w.globals values (operand_of from) p (reads w.classes w.globals s.locals.temps values L from p fits.0 holds e) in
        let d = long_same w.globals values (operand_of to) q (reads w.classes w.globals s.locals.temps values L to q fits.1 holds f) in
        memory_matched w s values b (lined line (BlitInst from to count)) (Blit (operand_of from) (operand_of to) count) m here more holds refl
        (ap (λ o. changes (ticked w s values (blit_weight count)) (option_and_then (λ y. option_and_then (λ z. copy s.memory count y z) (value_of w.globals values (operand_of to))) o)) r
        ∙ ap (λ o. changes (ticked w s values (blit_weight count)) (option_and_then (λ z. copy s.memory count p z) o)) d
        ∙ ap (changes (ticked w s values (blit_weight count))) g)

    by : (p q : Option Value) → operand w.globals s.locals.temps L from ≡ p → operand w.globals s.locals.temps L to ≡ q → Matched w s values (changed s.locals (blit_weight count) (option_and_then (λ y. option_and_then (λ z. copy s.memory count y z) q) p))
    by None q e f = λ fine. absurd fine
    by (Some p) None e f = λ fine. absurd fine
    by (Some p) (Some q) e f = by_memory p q (copy s.memory count p q) e f refl

-- ---- calls

same_classes : (args : List Arg) → map (λ (a : Argument ℕ). a.class) (map argument_of args) ≡ map (λ (a : Arg). a.class) args
same_classes [] = refl
same_classes (a ∷ args) = ap (λ ks. a.class ∷ ks) (same_classes args)

same_wants : (to : Option Dest) → option_map (λ (d : Destination ℕ). d.class) (option_map destination_of to) ≡ option_map (λ (d : Dest). d.class) to
same_wants None = refl
same_wants (Some d) = refl

-- what stands behind the call, however it goes
abbrev Resumed : Whole → Source → Values ℕ → Option Dest → List Arg → Val → Outcome → Type 0
Resumed w s values to args callee o =
    Matches (Related w) Fine (go (within w)) (source_resumes (next_of s (call_weight args)) to o)
    (resumes virtual (ticked w s values (call_weight args)) (option_map destination_of to) o)

call_place : (w : Whole) (s : Source) (b : Block) (line : ℕ) (to : Option Dest) (callee : Val) (args : List Arg) → AtInst w s b (lined line (CallInst to callee args)) → offset w s.block s.next + 1 + 1 ≡ offset w s.block (s.next + 1)
call_place w s b line to callee args a =
    let further = lines_further w.classes b.insts s.next (lined line (CallInst to callee args)) a.inst in
    let from : offset w s.block s.next ≡ lines_before w.classes b.insts s.next = ap (λ o. offset_in w.classes o s.next) a.here in
    let next : offset w s.block (s.next + 1) ≡ lines_before w.classes b.insts (s.next + 1) = ap (λ o. offset_in w.classes o (s.next + 1)) a.here in
    omega (arith, further, from, next)

call_received : (w : Whole) (s : Source) (values : Values ℕ) (b : Block) (line : ℕ) (to : Option Dest) (callee : Val) (args : List Arg) → AtInst w s b (lined line (CallInst to callee args)) → Holds w.classes s.locals.temps values → TakesWanted w.classes to → (t : Spent) (v : Option Value) (m : Memory) → Resumed w s values to args callee (Returned t v m)
call_received w s values b line None callee args a holds takes t v m =
    let u : State ℕ = record (ticked w s values (call_weight args)) { next = offset w s.block s.next + 1 + 1; memory = m; spent = both (both s.spent (one_turn (call_weight args))) t } in
    (0, (u, refl, record { holds = holds; is = is_at w (record (next_of s (call_weight args)) { memory = m; spent = both (both s.spent (one_turn (call_weight args))) t }) u refl (call_place w s b line None callee args a) refl refl refl }))
call_received w s values b line (Some d) callee args a holds takes t None m = λ fine. absurd fine
call_received w s values b line (Some d) callee args a holds takes t (Some v) m =
    let u : State ℕ = record (ticked w s values (call_weight args)) { next = offset w s.block s.next + 1 + 1; values = put virtual d.temp (held d.class v) values; memory = m; spent = both (both s.spent (one_turn (call_weight args))) t } in (
      0,
      (
        u,
        refl,
        record {
          holds = put_holds w.classes s.locals.temps values d.temp d.class v takes holds;
          is = is_at w (record (next_of s (call_weight args)) { locals = record s.locals { temps = slice_set s.locals.temps d.temp (Some v) }; memory = m; spent = both (both s.spent (one_turn (call_weight args))) t }) u refl (call_place w s b line (Some d) callee args a) refl refl refl;
        },
      ),
    )

call_resumed : (w : Whole) (s : Source) (values : Values ℕ) (b : Block) (line : ℕ) (to : Option Dest) (callee : Val) (args : List Arg) → AtInst w s b (lined line (CallInst to callee args)) → Holds w.classes s.locals.temps values → TakesWanted w.classes to → (o : Outcome) → Resumed w s values to args callee o
call_resumed w s values b line to callee args a holds takes (Returned t v m) = call_received w s values b line to callee args a holds takes t v m
call_resumed w s values b line to callee args a holds takes (Ended t e) = λ fine. (0, refl)

call_matched : (w : Whole) (s : Source) (values : Values ℕ) (b : Block) (line : ℕ) (to : Option Dest) (callee : Val) (args : List Arg) → AtInst w s b (lined line (CallInst to callee args)) → nat_lt s.spent.turns w.given.turns ≡ true → Holds w.classes s.locals.temps values → InstFits w.classes (CallInst to callee args) → Matched w s values (inst_effect w.globals s.locals s.memory (CallInst to callee args))
unfolding inst_effect line_step
call_matched w s values b line to callee args here more holds fits = by (operand w.globals s.locals.temps L callee) (all_operands w.globals s.locals.temps args) refl refl
  where
    by : (f : Option Value) (vs : Option (List Value)) → operand w.globals s.locals.temps L callee ≡ f → all_operands w.globals s.locals.temps args ≡ vs → Matched w s values (call_effect to args f vs)
    by None vs e g = λ fine. absurd fine
    by (Some f) None e g = λ fine. absurd fine
    by (Some (Integer n)) (Some vs) e g = λ fine. absurd fine
    by (Some (Pointer p o)) (Some vs) e g = λ fine. absurd fine
    by (Some (Function f)) (Some vs) e g =
        let c = within w in
        let i = lined line (CallInst to callee args) in
        let t = at w s values in
        let t2 = ticked w s values (call_weight args) in
        let r = tick w s values b i here more in
        let known = long_same w.globals values (operand_of callee) (Function f) (reads w.classes w.globals s.locals.temps values L callee (Function f) fits.1 holds e) in
        let given = arguments_read w.classes w.globals s.locals.temps values holds args vs fits.2 g in
        let call : List Class → Option Class → Event (State ℕ) Asked Outcome = λ ks wants. Calls (record { call = record { callee = f; classes = ks; wants = wants; args = vs }; turns = w.given.turns - (s.spent.turns + 1); room = w.given.room; memory = s.memory }) (resumes virtual t2 (option_map destination_of to)) in (
          1,
          (
            t2,
            (t, refl, (On t2, r.goes, refl)),
            (
              resumes virtual t2 (option_map destination_of to),
              goes_line c t2 r.block (Call (option_map destination_of to) (operand_of callee) (map argument_of args)) r.behind r.left
                  ∙ ap (λ o. calls virtual w.given t2 (option_map destination_of to) (map argument_of args) o (read_all w.globals values (map argument_of args))) known
                  ∙ ap (λ o. calls virtual w.given t2 (option_map destination_of to) (map argument_of args) (Some (Function f)) o) given
                  ∙ ap (λ ks. call ks (option_map (λ (d : Destination ℕ). d.class) (option_map destination_of to))) (same_classes args)
                  ∙ ap (call (map (λ (a : Arg). a.class) args)) (same_wants to),
              call_resumed w s values b line to callee args here holds fits.0,
            ),
          ),
        )

-- ---- every instruction

pub inst_matched : (w : Whole) (s : Source) (values : Values ℕ) (b : Block) (line : ℕ) (x : Inst) → AtInst w s b (lined line x) → nat_lt s.spent.turns w.given.turns ≡ true → Holds w.classes s.locals.temps values → InstFits w.classes x → Matched w s values (inst_effect w.globals s.locals s.memory x)
inst_matched w s values b line (Unary to op a) here more holds fits = unary_matched w s values b line to op a here more holds fits
inst_matched w s values b line (Binary to op a c) here more holds fits = binary_matched w s values b line to op a c here more holds fits
inst_matched w s values b line (AllocInst to alignment size) here more holds fits = alloc_matched w s values b line to alignment size here more holds fits
inst_matched w s values b line (StoreInst size a p) here more holds fits = store_matched w s values b line size a p here more holds fits
inst_matched w s values b line (BlitInst from to count) here more holds fits = blit_matched w s values b line from to count here more holds fits
inst_matched w s values b line (CallInst to callee args) here more holds fits = call_matched w s values b line to callee args here more holds fits
