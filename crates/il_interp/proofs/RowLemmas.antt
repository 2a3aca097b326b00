-- Instructions on integers, one further.
use Rattle.std.proofs.Common.{◌≡◌, ℕ, suc, ◌+◌, ◌-◌, ◌%◌, ◌^◌, ◌<◌, ◌≤◌, List, refl, ap, sym, subst, ◌∙◌, arith, slice_get, slice_set, Option, Some, None, option_and_then}
use Rattle.il_ast.specs.declared.operation.Class.{Class}
use Rattle.il_ast.specs.declared.operation.Class.TheVariants.{W, L}
use Rattle.il_ast.specs.declared.operation.BinaryOp.{BinaryOp}
use Rattle.il_ast.specs.declared.operand.Dest.{Dest}
use Rattle.il_ast.specs.declared.operand.Val.{Val}
use Rattle.il_ast.specs.declared.instruction.Lined.{Lined}
use Rattle.il_ast.specs.declared.instruction.Inst.{Inst}
use Rattle.il_ast.specs.declared.instruction.Inst.TheVariants.{Binary}
use Rattle.il_ast.specs.declared.block.Block.{Block}
use Rattle.il_ast.specs.declared.function.Func.{Func}
use Rattle.il_ast.specs.declared.program.InText.{InText}
use Rattle.il_ast.specs.declared.program.Program.{Program}
use Rattle.il_ast.specs.declared.value.Value.{Value}
use Rattle.il_ast.specs.declared.value.Value.TheVariants.{Integer}
use Rattle.il_ast.specs.declared.value.End.{End}
use Rattle.il_ast.specs.Prelude.{globals_of, Behaviour, modulus, in_place, Memory, left_class, right_class, on_integers, operate_two, effect, turn_of, turn_in, inst_effect, after_inst, assigned, operand, value_at, Done}
use Rattle.il_interp.specs.declared.state.State.{State}
use Rattle.il_interp.specs.Machine.{rest_of, On, stepped, act_of, env_of, react, turn_in_function, step, go_on, machine}
use Rattle.il_interp.specs.Rows.{Held, held, in_class, Does, further_on, GoesOn}

-- ---- one operation

pub reduced : (k : Class) (n : ℕ) → n < 2 ^ 64 → n % modulus k ≡ in_class k n
reduced W n lt = refl
reduced L n lt = omega (arith, lt)

in_its_place : (k : Class) (n : ℕ) → in_place k (Integer n) ≡ Some (Integer (in_class k n))
in_its_place W n = refl
in_its_place L n = refl

-- the value of an operand that is an integer
pub operand_is : (globals : List Value) (temps : List (Option Value)) (k : Class) (v : Val) (n : ℕ) → value_at globals temps v ≡ Some (Integer n)
    → operand globals temps k v ≡ Some (Integer (in_class k n))
operand_is globals temps k v n h = ap (option_and_then (in_place k)) h ∙ in_its_place k n

operated : (m : Memory) (op : BinaryOp) (c : Class) (l r : Option Value) (a b made : ℕ) → l ≡ Some (Integer a) → r ≡ Some (Integer b) → on_integers op c a b ≡ Some made
    → option_and_then (λ u. option_and_then (λ v. operate_two m op c u v) r) l ≡ Some (Integer made)
unfolding operate_two
operated m op c l r a b made hl hr h =
    ap (option_and_then (λ u. option_and_then (λ v. operate_two m op c u v) r)) hl
    ∙ (ap (option_and_then (λ v. operate_two m op c (Integer a) v)) hr ∙ ap (λ o. option_and_then (λ n. Some (Integer n)) o) h)

pub does_binary : (old new : List (Option Value)) (to : Dest) (op : BinaryOp) (left right : Val) (a b made : ℕ)
    → ((globals : List Value) → value_at globals old left ≡ Some (Integer a)) → ((globals : List Value) → value_at globals old right ≡ Some (Integer b))
    → on_integers op to.class (in_class (left_class op to.class) a) (in_class (right_class op to.class) b) ≡ Some made
    → new ≡ slice_set old to.temp (Some (Integer made)) → (globals : List Value) (m : Memory) → Does globals (held old m) (Binary to op left right) (held new m)
unfolding inst_effect
does_binary old new to op left right a b made hl hr h n globals m owned =
    ap (assigned (record { temps = old; owned = owned }) m to.temp)
    (operated m op to.class (operand globals old (left_class op to.class) left) (operand globals old (right_class op to.class) right)
    (in_class (left_class op to.class) a) (in_class (right_class op to.class) b) made
    (operand_is globals old (left_class op to.class) left a (hl globals)) (operand_is globals old (right_class op to.class) right b (hr globals)) h)
    ∙ ap (λ temps. Done 1 (record { temps = temps; owned = owned }) m) (sym n)

-- ---- one turn of a row

pub stays : (p : Program) (text : ℕ) (insts : List (Lined Inst)) (here : Held) (next : ℕ) → GoesOn p text insts here next here next
stays p text insts here next f b st hf ht hb hi hh hn n =
    let none : next - next + n ≡ n = omega arith in
    ap (λ k. machine p k st) none ∙ (ap (λ k. machine p n (further_on st k (held st.frame.temps st.memory))) hn ∙ ap (λ x. machine p n (further_on st next x)) hh)

turn_is : (p : Program) (text : ℕ) (insts : List (Lined Inst)) (at : ℕ) (x : Lined Inst) (cur new : Held) (f : InText Func) (b : Block) (st : State)
    → slice_get p.functions st.frame.function ≡ Some f → f.text ≡ text → slice_get f.item.blocks st.frame.block ≡ Some b → b.insts ≡ insts
    → slice_get insts at ≡ Some x → Does (globals_of p text) cur x.item new → step p (further_on st at cur) ≡ On (further_on st (at + 1) new)
unfolding step effect
turn_is p text insts at x cur new f b st hf ht hb hi hx d =
    let here : Does (globals_of p f.text) cur x.item new = subst (λ t. Does (globals_of p t) cur x.item new) (sym ht) d in
    ap (turn_in_function p (further_on st at cur)) hf
    ∙ (ap (λ o. react p (further_on st at cur) (turn_of (env_of p f) (act_of (further_on st at cur).frame) cur.memory o)) hb
    ∙ (ap (λ o. react p (further_on st at cur) (turn_in (env_of p f) (act_of (further_on st at cur).frame) cur.memory b o)) (ap (λ xs. slice_get xs at) hi ∙ hx)
    ∙ ap (λ e. react p (further_on st at cur) (after_inst st.frame.block at (record { temps = cur.temps; owned = st.frame.owned }) e)) (here st.frame.owned)))

pub one_further : (p : Program) (text : ℕ) (insts : List (Lined Inst)) (old cur new : Held) (next at : ℕ) (x : Lined Inst) → next ≤ at → slice_get insts at ≡ Some x
    → Does (globals_of p text) cur x.item new → GoesOn p text insts old next cur at → GoesOn p text insts old next new (at + 1)
unfolding machine
one_further p text insts old cur new next at x le hx d inv f b st hf ht hb hi hh hn n =
    let count : at + 1 - next + n ≡ at - next + suc n = omega (arith, le) in
    ap (λ k. machine p k st) count
    ∙ (inv f b st hf ht hb hi hh hn (suc n) ∙ ap (go_on (machine p n)) (turn_is p text insts at x cur new f b st hf ht hb hi hx d))

-- ---- one turn

rests : (p : Program) (new : State) (end : Option End) (n : ℕ) → go_on (machine p n) (stepped new end) ≡ rest_of p new end n
rests p new None n = refl
rests p new (Some e) n = refl

pub one_turn : (p : Program) (n : ℕ) (st new : State) (end : Option End) → step p st ≡ stepped new end → machine p (suc n) st ≡ rest_of p new end n
unfolding machine
one_turn p n st new end h = ap (go_on (machine p n)) h ∙ rests p new end n

-- ---- rows, one after another

pub gone_on : (p : Program) (left done n : ℕ) (st new : State) (end : Option End) (whole : Behaviour) → done ≤ left → machine p (left + n) st ≡ whole
    → ((k : ℕ) → machine p (done + k) st ≡ rest_of p new end k) → rest_of p new end (left - done + n) ≡ whole
gone_on p left done n st new end whole le inv h =
    let count : done + (left - done + n) ≡ left + n = omega (arith, le) in
    sym (h (left - done + n)) ∙ (ap (λ k. machine p k st) count ∙ inv)
