-- The weight of ticks pays for the lines behind them.
use Rattle.std.proofs.Common.{◌≡◌, ℕ, ◌+◌, ◌-◌, ◌*◌, ◌<◌, ◌≤◌, Bool, true, false, cond, nat_le, ◌&&◌, List, [], ◌∷◌, ◌++◌, length, map, refl, sym, ◌∙◌, ap, subst, arith, append_assoc, Option, Some, None}
use Rattle.std.proofs.lemmas.List.{length-map, append-nil}
use Rattle.std.proofs.lemmas.Bool.{le-leb, leb-true, and_from}
use Rattle.il_ast.specs.declared.operation.Class.{Class}
use Rattle.il_ast.specs.declared.operation.Class.TheVariants.{W, L}
use Rattle.il_ast.specs.declared.operation.Extension.{Extension}
use Rattle.il_ast.specs.declared.operation.Extension.TheVariants.{SignedWord, UnsignedWord, SignedHalf, UnsignedHalf, SignedByte, UnsignedByte}
use Rattle.il_ast.specs.declared.operation.UnaryOp.{UnaryOp}
use Rattle.il_ast.specs.declared.operation.UnaryOp.TheVariants.{Neg, Copy, Extend, LoadLong, Load as LoadNarrow}
use Rattle.il_ast.specs.declared.operation.BinaryOp.{BinaryOp}
use Rattle.il_ast.specs.declared.operation.BinaryOp.TheVariants.{Add, Sub, Mul, And, Or, Xor, Div, Rem, Udiv, Urem, Sar, Shr, Shl, Compare as CompareOf}
use Rattle.il_ast.specs.declared.operand.Val.{Val}
use Rattle.il_ast.specs.declared.instruction.Inst.{Inst}
use Rattle.il_ast.specs.declared.instruction.Inst.TheVariants.{Unary, Binary, Alloc as AllocInst, Store as StoreInst, Blit as BlitInst, Call as CallInst}
use Rattle.il_ast.specs.declared.instruction.Jump.{Jump as SourceJump}
use Rattle.il_ast.specs.declared.instruction.Jump.TheVariants.{Goto as GotoLabel, Branch as BranchLabel, Return as ReturnVal, Halt as HaltJump}
use Rattle.il_ast.specs.declared.instruction.Lined.{Lined}
use Rattle.il_ast.specs.declared.function.Func.{Func}
use Rattle.il_ast.specs.Prelude.{inst_weight}
use Rattle.phi_copies.specs.declared.ending.Assignment.{Assignment}
use Rattle.phi_copies.specs.declared.ending.Ending.{Ending}
use Rattle.phi_copies.specs.Copies.{phis_at}
use Rattle.phi_copies.specs.Lowered.{Edge, straight, IsJumpEnding, IsEndEnding, IsOnEdge}
use Rattle.rv_isa.specs.declared.instruction.RegOp.{RegOp}
use Rattle.rv_isa.specs.declared.instruction.RegOp.TheVariants.{Add as AddReg, Sub as SubReg, Sll as SllReg, Srl as SrlReg, Sra as SraReg, Xor as XorReg, Or as OrReg, And as AndReg, Mul as MulReg, Div as DivReg, Divu as DivuReg, Rem as RemReg, Remu as RemuReg}
use Rattle.rv_isa.specs.declared.instruction.RegWOp.TheVariants.{Addw, Subw, Sllw, Srlw, Sraw, Mulw, Divw, Divuw, Remw, Remuw}
use Rattle.rv_isa.specs.declared.instruction.LoadOp.{LoadOp}
use Rattle.rv_isa.specs.declared.instruction.LoadOp.TheVariants.{Ld}
use Rattle.phi_copies.specs.declared.ending.Leave.TheVariants.{Return as ReturnWith}
use Rattle.vcode.specs.declared.line.Operation.{Operation}
use Rattle.vcode.specs.declared.line.Operation.TheVariants.{Reg, RegW, Compare}
use Rattle.vcode.specs.declared.place.Operand.{Operand}
use Rattle.vcode.specs.declared.place.Operand.TheVariants.{At, Number, Name}
use Rattle.vcode.specs.declared.line.Line.{Line}
use Rattle.vcode.specs.Prelude.{at_once, is_immediate, operand_cost, operation_cost, line_cost, branch_cost, jump_cost, affords}
use Rattle.vcode.specs.declared.line.Line.TheVariants.{Tick, Set, Operate, Load, Store, Alloc, Blit, Call}
use Rattle.vcode.specs.declared.line.Jump.{Jump}
use Rattle.select.specs.Selected.{is_whole, are_whole, word, comparison_of, not_zero, word_line, word_of, bits_of_words, bit_lines, operand_of, argument_of, extend_lines, copy_lines, load_of, as_word, unary_lines, binary_lines, inst_lines, turn_lines, all_lines, assignment_lines, ending_lines, jump_of}
use Rattle.select.specs.Typed.{Classes}
use Rattle.il_ast.proofs.Truth.{and_first, and_second}

-- ---- lines that are no ticks

abbrev pub IsQuiet : Line ℕ → Type 0
IsQuiet (Tick turn w) = ⊥
IsQuiet (Set to a) = Unit {0}
IsQuiet (Operate to op a b) = Unit {0}
IsQuiet (Load to op at) = Unit {0}
IsQuiet (Store size a at) = Unit {0}
IsQuiet (Alloc to size) = Unit {0}
IsQuiet (Blit from to count) = Unit {0}
IsQuiet (Call to callee args) = Unit {0}

abbrev Pays : ℕ → Jump ℕ → Line ℕ → List (Line ℕ) → Bool
Pays c jump l ls = nat_le (line_cost l) c && affords (c - line_cost l) jump ls

quiet_pays : (c : ℕ) (jump : Jump ℕ) (l : Line ℕ) (ls : List (Line ℕ)) → IsQuiet l → affords c jump (l ∷ ls) ≡ Pays c jump l ls
quiet_pays c jump (Tick turn w) ls q = absurd q
quiet_pays c jump (Set to a) ls q = refl
quiet_pays c jump (Operate to op a b) ls q = refl
quiet_pays c jump (Load to op at) ls q = refl
quiet_pays c jump (Store size a at) ls q = refl
quiet_pays c jump (Alloc to size) ls q = refl
quiet_pays c jump (Blit from to count) ls q = refl
quiet_pays c jump (Call to callee args) ls q = refl

-- more credit pays for as much
quiet_more : (c d : ℕ) (jump : Jump ℕ) (l : Line ℕ) (ls : List (Line ℕ)) → ((x y : ℕ) → x ≤ y → affords x jump ls ≡ true → affords y jump ls ≡ true) → IsQuiet l → c ≤ d → affords c jump (l ∷ ls) ≡ true → affords d jump (l ∷ ls) ≡ true
quiet_more c d jump l ls rest q le h =
    let n = line_cost l in
    let paid = sym (quiet_pays c jump l ls q) ∙ h in
    let first = leb-true n c (and_first (nat_le n c) (affords (c - n) jump ls) paid) in
    quiet_pays d jump l ls q
    ∙ and_from (nat_le n d) (affords (d - n) jump ls) (le-leb n d (omega (arith, first, le)))
    (rest (c - n) (d - n) (omega (arith, le)) (and_second (nat_le n c) (affords (c - n) jump ls) paid))

pub affords_more : (c d : ℕ) (jump : Jump ℕ) (ls : List (Line ℕ)) → c ≤ d → affords c jump ls ≡ true → affords d jump ls ≡ true
affords_more c d jump [] le h = let cost = leb-true (jump_cost jump) c h in le-leb (jump_cost jump) d (omega (arith, cost, le))
affords_more c d jump (Tick turn w ∷ ls) le h = affords_more (c + 32 * w) (d + 32 * w) jump ls (omega (arith, le)) h
affords_more c d jump (Set to a ∷ ls) le h = quiet_more c d jump (Set to a) ls (λ x y. affords_more x y jump ls) tt le h
affords_more c d jump (Operate to op a b ∷ ls) le h = quiet_more c d jump (Operate to op a b) ls (λ x y. affords_more x y jump ls) tt le h
affords_more c d jump (Load to op at ∷ ls) le h = quiet_more c d jump (Load to op at) ls (λ x y. affords_more x y jump ls) tt le h
affords_more c d jump (Store size a at ∷ ls) le h = quiet_more c d jump (Store size a at) ls (λ x y. affords_more x y jump ls) tt le h
affords_more c d jump (Alloc to size ∷ ls) le h = quiet_more c d jump (Alloc to size) ls (λ x y. affords_more x y jump ls) tt le h
affords_more c d jump (Blit from to count ∷ ls) le h = quiet_more c d jump (Blit from to count) ls (λ x y. affords_more x y jump ls) tt le h
affords_more c d jump (Call to callee args ∷ ls) le h = quiet_more c d jump (Call to callee args) ls (λ x y. affords_more x y jump ls) tt le h

-- ---- what lines cost together

abbrev pub Costs : List (Line ℕ) → ℕ → Type 0
Costs [] n = Unit {0}
Costs (l ∷ ls) n = IsQuiet l × (line_cost l ≤ n) × Costs ls (n - line_cost l)

-- what lines cost is paid for, and what is left pays for the rest
pub costs_paid : (ls rest : List (Line ℕ)) (n c : ℕ) (jump : Jump ℕ) → Costs ls n → n ≤ c → affords (c - n) jump rest ≡ true → affords c jump (ls ++ rest) ≡ true
costs_paid [] rest n c jump h le paid = affords_more (c - n) c jump rest (omega arith) paid
costs_paid (l ∷ ls) rest n c jump h le paid =
    let k = line_cost l in
    let few = h.1 in
    let same : c - k - (n - k) ≡ c - n = omega (arith, few, le) in
    quiet_pays c jump l (ls ++ rest) h.0
    ∙ and_from (nat_le k c) (affords (c - k) jump (ls ++ rest)) (le-leb k c (omega (arith, few, le)))
    (costs_paid ls rest (n - k) (c - k) jump h.2 (omega (arith, le)) (ap (λ m. affords m jump rest) same ∙ paid))

pub costs_more : (ls : List (Line ℕ)) (n m : ℕ) → n ≤ m → Costs ls n → Costs ls m
costs_more [] n m le h = tt
costs_more (l ∷ ls) n m le h = let few = h.1 in (h.0, omega (arith, few, le), costs_more ls (n - line_cost l) (m - line_cost l) (omega (arith, le)) h.2)

pub costs_both : (ls ks : List (Line ℕ)) (n m : ℕ) → Costs ls n → Costs ks m → Costs (ls ++ ks) (n + m)
costs_both [] ks n m h k = costs_more ks m (n + m) (omega arith) k
costs_both (l ∷ ls) ks n m h k =
    let few = h.1 in
    let same : n - line_cost l + m ≡ n + m - line_cost l = omega (arith, few) in
    (h.0, omega (arith, few), subst (Costs (ls ++ ks)) same (costs_both ls ks (n - line_cost l) m h.2 k))

-- ---- operands

number_cost : (b : Bool) → cond b 1 9 ≤ 9
number_cost true = omega arith
number_cost false = omega arith

operand_few : (a : Operand ℕ) → operand_cost a ≤ 9
operand_few (At p) = omega arith
operand_few (Number n) = number_cost (is_immediate n)
operand_few (Name g) = omega arith

-- ---- instructions

word_costs : (classes : Classes) (t : ℕ) (a : Operand ℕ) → Costs (word_of classes t a ∷ []) 14
word_costs classes t a = by (is_whole classes a)
  where
    by : (whole : Bool) → Costs (word_line t a whole ∷ []) 14
    by true = let few = operand_few (word a) in (tt, omega (arith, few), tt)
    by false = let few = operand_few a in (tt, omega (arith, few), tt)

copy_costs : (classes : Classes) (t : ℕ) (k : Class) (a : Operand ℕ) → Costs (copy_lines classes t k a) 14
copy_costs classes t W a = word_costs classes t a
copy_costs classes t L a = let few = operand_few a in (tt, omega (arith, few), tt)

-- ---- endings

pub assignments_cost : (classes : Classes) (cs : List Assignment) → Costs (assignment_lines classes cs) (14 * length cs)
assignments_cost classes [] = tt
assignments_cost classes (c ∷ cs) =
    let sum : 14 + 14 * length cs ≡ 14 * length (c ∷ cs) = omega arith in
    subst (Costs (assignment_lines classes (c ∷ cs))) sum
    (costs_both (copy_lines classes c.to.temp c.to.class (operand_of c.value)) (assignment_lines classes cs) 14 (14 * length cs) (copy_costs classes c.to.temp c.to.class (operand_of c.value)) (assignments_cost classes cs))

operation_few : (op : Operation) → operation_cost op ≤ 6
operation_few (Reg op) = omega arith
operation_few (RegW op) = omega arith
operation_few (Compare on k) = omega arith

operate_costs : (t : ℕ) (op : Operation) (a b : Operand ℕ) → Costs (Operate t op a b ∷ []) 32
operate_costs t op a b =
    let x = operand_few a in
    let y = operand_few b in
    let z = operation_few op in
    (tt, omega (arith, x, y, z), tt)

low_costs : (t : ℕ) (op : RegOp) (a b : Operand ℕ) → Costs (Operate t (Reg op) a b ∷ as_word t (At t) ∷ []) 32
low_costs t op a b = let x = operand_few a in let y = operand_few b in (tt, omega (arith, x, y), (tt, omega (arith, x, y), tt))

bits_cost : (classes : Classes) (t : ℕ) (op : RegOp) (a b : Operand ℕ) → Costs (bit_lines classes t op a b) 32
bits_cost classes t op a b = by (are_whole classes a b)
  where
    by : (whole : Bool) → Costs (bits_of_words t op a b whole) 32
    by true = operate_costs t (Reg op) (word a) (word b)
    by false = low_costs t op a b

extend_costs : (classes : Classes) (t : ℕ) (e : Extension) (a : Operand ℕ) → Costs (extend_lines classes t e a) 32
extend_costs classes t SignedWord a = costs_more (word_of classes t a ∷ []) 14 32 (omega arith) (word_costs classes t a)
extend_costs classes t UnsignedWord a = let x = operand_few a in (tt, omega (arith, x), (tt, omega (arith, x), tt))
extend_costs classes t SignedHalf a = let x = operand_few a in (tt, omega (arith, x), (tt, omega (arith, x), tt))
extend_costs classes t UnsignedHalf a = let x = operand_few a in (tt, omega (arith, x), (tt, omega (arith, x), tt))
extend_costs classes t SignedByte a = let x = operand_few a in (tt, omega (arith, x), (tt, omega (arith, x), tt))
extend_costs classes t UnsignedByte a = operate_costs t (Reg AndReg) a (Number 255)

load_costs : (t : ℕ) (op : LoadOp) (a : Operand ℕ) → Costs (Load t op (at_once a) ∷ []) 32
load_costs t op a = let x = operand_few a in (tt, omega (arith, x), tt)

unary_costs : (classes : Classes) (t : ℕ) (op : UnaryOp) (k : Class) (a : Operand ℕ) → Costs (unary_lines classes t op k a) 32
unary_costs classes t Neg W a = operate_costs t (RegW Subw) (Number 0) a
unary_costs classes t Neg L a = operate_costs t (Reg SubReg) (Number 0) a
unary_costs classes t Copy k a = costs_more (copy_lines classes t k a) 14 32 (omega arith) (copy_costs classes t k a)
unary_costs classes t (Extend e) k a = extend_costs classes t e a
unary_costs classes t LoadLong k a = load_costs t Ld a
unary_costs classes t (LoadNarrow e) k a = load_costs t (load_of e k) a

binary_costs : (classes : Classes) (t : ℕ) (op : BinaryOp) (k : Class) (a b : Operand ℕ) → Costs (binary_lines classes t op k a b) 32
binary_costs classes t Add W a b = operate_costs t (RegW Addw) a b
binary_costs classes t Add L a b = operate_costs t (Reg AddReg) a b
binary_costs classes t Sub W a b = operate_costs t (RegW Subw) a b
binary_costs classes t Sub L a b = operate_costs t (Reg SubReg) a b
binary_costs classes t Mul W a b = operate_costs t (RegW Mulw) a b
binary_costs classes t Mul L a b = operate_costs t (Reg MulReg) a b
binary_costs classes t And W a b = bits_cost classes t AndReg a b
binary_costs classes t And L a b = operate_costs t (Reg AndReg) a b
binary_costs classes t Or W a b = bits_cost classes t OrReg a b
binary_costs classes t Or L a b = operate_costs t (Reg OrReg) a b
binary_costs classes t Xor W a b = bits_cost classes t XorReg a b
binary_costs classes t Xor L a b = operate_costs t (Reg XorReg) a b
binary_costs classes t Div W a b = operate_costs t (RegW Divw) a b
binary_costs classes t Div L a b = operate_costs t (Reg DivReg) a b
binary_costs classes t Rem W a b = operate_costs t (RegW Remw) a b
binary_costs classes t Rem L a b = operate_costs t (Reg RemReg) a b
binary_costs classes t Udiv W a b = operate_costs t (RegW Divuw) a b
binary_costs classes t Udiv L a b = operate_costs t (Reg DivuReg) a b
binary_costs classes t Urem W a b = operate_costs t (RegW Remuw) a b
binary_costs classes t Urem L a b = operate_costs t (Reg RemuReg) a b
binary_costs classes t Sar W a b = operate_costs t (RegW Sraw) a b
binary_costs classes t Sar L a b = operate_costs t (Reg SraReg) a b
binary_costs classes t Shr W a b = operate_costs t (RegW Srlw) a b
binary_costs classes t Shr L a b = operate_costs t (Reg SrlReg) a b
binary_costs classes t Shl W a b = operate_costs t (RegW Sllw) a b
binary_costs classes t Shl L a b = operate_costs t (Reg SllReg) a b
binary_costs classes t (CompareOf on j) k a b =
    let c = comparison_of classes on j a b in operate_costs t (Compare c.condition c.class) c.left c.right

inst_costs : (classes : Classes) (x : Inst) → Costs (inst_lines classes x) (32 * inst_weight x)
inst_costs classes (Unary to op a) = unary_costs classes to.temp op to.class (operand_of a)
inst_costs classes (Binary to op a b) = binary_costs classes to.temp op to.class (operand_of a) (operand_of b)
inst_costs classes (AllocInst to alignment size) = (tt, omega arith, tt)
inst_costs classes (StoreInst size a at) =
    let x = operand_few (operand_of a) in let y = operand_few (operand_of at) in (tt, omega (arith, x, y), tt)
inst_costs classes (BlitInst from to count) =
    let x = operand_few (operand_of from) in let y = operand_few (operand_of to) in (tt, omega (arith, x, y), tt)
inst_costs classes (CallInst to callee args) =
    let long : length (map argument_of args) ≡ length args = length-map args argument_of in
    (tt, omega (arith, long), tt)

-- ---- blocks

-- an ending whose weight pays for its copies and its jump
abbrev pub EndingPays : Classes → Ending → Type 0
EndingPays classes e = 14 * length e.copies + jump_cost (jump_of classes e.leave) ≤ 32 * e.weight

pub ending_pays : (classes : Classes) (e : Ending) → EndingPays classes e → affords 0 (jump_of classes e.leave) (ending_lines classes e) ≡ true
ending_pays classes e h =
    let n = 14 * length e.copies in
    let enough : jump_cost (jump_of classes e.leave) ≤ 0 + 32 * e.weight - n = omega (arith, h) in
    subst (λ ls. affords (0 + 32 * e.weight) (jump_of classes e.leave) ls ≡ true) (append-nil (assignment_lines classes e.copies))
    (costs_paid (assignment_lines classes e.copies) [] n (0 + 32 * e.weight) (jump_of classes e.leave) (assignments_cost classes e.copies) (omega (arith, h))
    (le-leb (jump_cost (jump_of classes e.leave)) (0 + 32 * e.weight - n) enough))

pub insts_pay : (classes : Classes) (insts : List (Lined Inst)) (jump : Jump ℕ) (rest : List (Line ℕ)) → affords 0 jump rest ≡ true → affords 0 jump (all_lines classes insts ++ rest) ≡ true
insts_pay classes [] jump rest h = h
insts_pay classes (i ∷ insts) jump rest h =
    let n = 32 * inst_weight i.item in
    let left : 0 ≡ 0 + n - n = omega arith in
    ap (λ ls. affords 0 jump ls) (append_assoc (turn_lines classes i) (all_lines classes insts) rest)
    ∙ costs_paid (inst_lines classes i.item) (all_lines classes insts ++ rest) n (0 + n) jump (inst_costs classes i.item) (omega arith)
    (subst (λ m. affords m jump (all_lines classes insts ++ rest) ≡ true) left (insts_pay classes insts jump rest h))

-- ---- the endings of a lowered function

return_few : (classes : Classes) (a : Option Val) → jump_cost (jump_of classes (ReturnWith a)) ≤ 32
return_few classes None = omega arith
return_few classes (Some a) = let x = operand_few (operand_of a) in omega (arith, x)

branch_few : (k : Class) → branch_cost k ≤ 7
branch_few W = omega arith
branch_few L = omega arith

jump_ending_pays : (classes : Classes) (f : Func) (from number : ℕ) (j : SourceJump) (e : Ending) → IsJumpEnding f from number j e → EndingPays classes e
jump_ending_pays classes f from number (GotoLabel l) e is =
    let few = is.1.few in subst (EndingPays classes) (sym is.0) (omega (arith, few))
jump_ending_pays classes f from number (BranchLabel on nonzero otherwise) e is =
    let c = not_zero classes (operand_of on) in
    let x = operand_few c.left in
    let y = operand_few c.right in
    let z = branch_few c.class in
    subst (EndingPays classes) (sym is) (omega (arith, x, y, z))
jump_ending_pays classes f from number (ReturnVal a) e is = let x = return_few classes a in subst (EndingPays classes) (sym is) (omega (arith, x))
jump_ending_pays classes f from number HaltJump e is = subst (EndingPays classes) (sym is) (omega arith)

pub end_ending_pays : (classes : Classes) (f : Func) (from number : ℕ) (j : Option (Lined SourceJump)) (e : Ending) → IsEndEnding f from number j e → EndingPays classes e
end_ending_pays classes f from number None e is = subst (EndingPays classes) (sym is) (omega arith)
end_ending_pays classes f from number (Some j) e is = jump_ending_pays classes f from number (straight j.item) e is

pub edge_pays : (classes : Classes) (f : Func) (w : Edge) (e : Ending) → 0 < length (phis_at f.blocks w.to) → IsOnEdge f w e → EndingPays classes e
edge_pays classes f w e some is = let few = is.1.few in subst (EndingPays classes) (sym is.0) (omega (arith, few, some))
