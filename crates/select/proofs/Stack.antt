-- The virtual code of a function passes no more arguments on the stack, and makes no larger blocks of memory, than the function does: so it takes no more of the stack.
use Rattle.std.proofs.Common.{◌≡◌, ℕ, ◌+◌, ◌≤◌, List, [], ◌∷◌, ◌++◌, length, map, refl, sym, subst, arith, append_assoc, max}
use Rattle.std.proofs.lemmas.List.{length-map}
use Rattle.il_ast.specs.declared.instruction.Inst.{Inst}
use Rattle.il_ast.specs.declared.instruction.Inst.TheVariants.{Unary, Binary, Alloc as AllocInst, Store as StoreInst, Blit as BlitInst, Call as CallInst}
use Rattle.il_ast.specs.declared.instruction.Lined.{Lined}
use Rattle.il_ast.specs.declared.block.Block.{Block}
use Rattle.il_ast.specs.declared.function.Func.{Func}
use Rattle.il_ast.specs.Prelude.{args_on_stack as inst_args, largest_in, largest_of, alloc_area, phi_count, need}
use Rattle.phi_copies.specs.declared.ending.Assignment.{Assignment}
use Rattle.phi_copies.specs.declared.ending.Ending.{Ending}
use Rattle.phi_copies.specs.Endings.{Endings}
use Rattle.phi_copies.specs.Lowered.{IsLowered}
use Rattle.vcode.specs.declared.place.Operand.{Operand}
use Rattle.vcode.specs.declared.line.Line.{Line}
use Rattle.vcode.specs.declared.line.Line.TheVariants.{Tick, Set, Operate, Load, Store, Alloc, Blit, Call}
use Rattle.vcode.specs.declared.code.Block.{Block as VirtualBlock}
use Rattle.vcode.specs.Prelude.{most_in_lines, most_in_blocks, outgoing, frame_bound, area}
use Rattle.select.specs.Selected.{operand_of, argument_of, inst_lines, turn_lines, all_lines, copy_lines, unary_lines, binary_lines, assignment_lines, ending_lines, edge_of, blocks_of, selected}
use Rattle.select.specs.Typed.{Classes}
use Rattle.select.proofs.UsedPlaces.{Sets, copy_sets, unary_sets, binary_sets}
use Rattle.select.proofs.Regular.{area_is}

-- ---- arguments past the eighth

none_passed : (t : ℕ) (xs : List (Operand ℕ)) (ls : List (Line ℕ)) → Sets t xs ls → most_in_lines ls ≡ 0
none_passed t xs [] s = refl
none_passed t xs (Tick turn w ∷ ls) s = absurd s
none_passed t xs (Set p a ∷ ls) s = let e = none_passed t xs ls s.2 in omega (arith, e)
none_passed t xs (Operate p op a b ∷ ls) s = let e = none_passed t xs ls s.3 in omega (arith, e)
none_passed t xs (Load p op a ∷ ls) s = let e = none_passed t xs ls s.2 in omega (arith, e)
none_passed t xs (Store size a at ∷ ls) s = absurd s
none_passed t xs (Alloc p size ∷ ls) s = absurd s
none_passed t xs (Blit from to count ∷ ls) s = absurd s
none_passed t xs (Call to callee args ∷ ls) s = absurd s

both_most : (xs ys : List (Line ℕ)) (n : ℕ) → most_in_lines xs ≤ n → most_in_lines ys ≤ n → most_in_lines (xs ++ ys) ≤ n
both_most [] ys n h k = k
both_most (x ∷ xs) ys n h k = let rest = both_most xs ys n (omega (arith, h)) k in omega (arith, h, rest)

inst_passes : (classes : Classes) (x : Inst) → most_in_lines (inst_lines classes x) ≤ inst_args x
inst_passes classes (Unary to op a) = let e = none_passed to.temp (operand_of a ∷ []) (unary_lines classes to.temp op to.class (operand_of a)) (unary_sets classes to.temp op to.class (operand_of a)) in omega (arith, e)
inst_passes classes (Binary to op a b) = let e = none_passed to.temp (operand_of a ∷ operand_of b ∷ []) (binary_lines classes to.temp op to.class (operand_of a) (operand_of b)) (binary_sets classes to.temp op to.class (operand_of a) (operand_of b)) in omega (arith, e)
inst_passes classes (AllocInst to alignment size) = omega arith
inst_passes classes (StoreInst size a at) = omega arith
inst_passes classes (BlitInst from to count) = omega arith
inst_passes classes (CallInst to callee args) =
    let one : length (map argument_of args) ≡ length args = length-map args argument_of in
    omega (arith, one)

copies_pass : (classes : Classes) (cs : List Assignment) → most_in_lines (assignment_lines classes cs) ≤ 0
copies_pass classes [] = omega arith
copies_pass classes (c ∷ cs) =
    let e = none_passed c.to.temp (operand_of c.value ∷ []) (copy_lines classes c.to.temp c.to.class (operand_of c.value)) (copy_sets classes c.to.temp c.to.class (operand_of c.value)) in
    both_most (copy_lines classes c.to.temp c.to.class (operand_of c.value)) (assignment_lines classes cs) 0 (omega (arith, e)) (copies_pass classes cs)

insts_pass : (classes : Classes) (insts : List (Lined Inst)) (rest : List (Line ℕ)) → most_in_lines rest ≤ 0 → most_in_lines (all_lines classes insts ++ rest) ≤ largest_in insts
insts_pass classes [] rest h = h
insts_pass classes (i ∷ insts) rest h =
    let one = inst_passes classes i.item in
    let more = insts_pass classes insts rest h in
    let all = both_most (inst_lines classes i.item) (all_lines classes insts ++ rest) (max (inst_args i.item) (largest_in insts)) (omega (arith, one)) (omega (arith, more)) in
    subst (λ ls. most_in_lines ls ≤ max (inst_args i.item) (largest_in insts)) (sym (append_assoc (turn_lines classes i) (all_lines classes insts) rest)) (omega (arith, all))

edges_pass : (classes : Classes) (es : List Ending) → most_in_blocks (map (edge_of classes) es) ≤ 0
edges_pass classes [] = omega arith
edges_pass classes (e ∷ es) = let one = copies_pass classes e.copies in let rest = edges_pass classes es in omega (arith, one, rest)

blocks_pass : (classes : Classes) (bs : List Block) (es : List Ending) (rest : List (VirtualBlock ℕ)) → most_in_blocks rest ≤ 0 → most_in_blocks (blocks_of classes bs es ++ rest) ≤ largest_of bs
blocks_pass classes [] es rest h = h
blocks_pass classes (b ∷ bs) [] rest h = omega (arith, h)
blocks_pass classes (b ∷ bs) (e ∷ es) rest h =
    let copies = copies_pass classes e.copies in
    let one = insts_pass classes b.insts (ending_lines classes e) (omega (arith, copies)) in
    let more = blocks_pass classes bs es rest h in
    omega (arith, one, more)

code_passes : (classes : Classes) (f : Func) (code : Endings) → outgoing (selected classes f code) ≤ largest_of f.blocks
unfolding selected
code_passes classes f code = blocks_pass classes f.blocks code.endings (map (edge_of classes) code.edges) (edges_pass classes code.edges)

-- ---- blocks of memory

code_area : (classes : Classes) (f : Func) (code : Endings) → IsLowered f code → area (selected classes f code) ≡ alloc_area f
unfolding selected
code_area classes f code is = area_is classes f code is

-- ---- in all

pub takes_no_more : (classes : Classes) (f : Func) (code : Endings) → IsLowered f code → frame_bound (selected classes f code) (length f.temps + phi_count f) ≤ need f
takes_no_more classes f code is =
    let bytes = code_area classes f code is in
    let passed = code_passes classes f code in
    omega (arith, bytes, passed)
