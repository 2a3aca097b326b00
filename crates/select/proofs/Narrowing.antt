-- In the virtual code of a good function no register and no weight is longer than 32 bits.
use Rattle.std.proofs.Common.{◌≡◌, ℕ, ◌+◌, ◌<◌, ◌≤◌, ◌^◌, Bool, true, false, nat_le, ◌&&◌, List, [], ◌∷◌, ◌++◌, length, map, refl, ◌∙◌, ap, arith, inl, inr, slice_get, Option, Some, None, sum_by, flat_map}
use Rattle.std.proofs.Math.Nat.{mod-eq_of_lt}
use Rattle.std.proofs.lemmas.Bool.Decides.{nat_tests}
use Rattle.std.proofs.lemmas.List.Sums.{sum_by-cons}
use Rattle.il_ast.specs.declared.limits.TheConstants.{FUNCTION_WEIGHT}
use Rattle.il_ast.specs.declared.operation.Class.{Class}
use Rattle.il_ast.specs.declared.operation.Class.TheVariants.{L}
use Rattle.il_ast.specs.declared.operation.Condition.TheVariants.{NotEqual}
use Rattle.il_ast.specs.declared.operand.Val.{Val}
use Rattle.il_ast.specs.declared.operand.Val.TheVariants.{Int, Temp, Global}
use Rattle.il_ast.specs.declared.operand.Dest.{Dest}
use Rattle.il_ast.specs.declared.operand.Arg.{Arg}
use Rattle.il_ast.specs.declared.instruction.Inst.{Inst}
use Rattle.il_ast.specs.declared.instruction.Inst.TheVariants.{Unary, Binary, Alloc, Store, Blit, Call}
use Rattle.il_ast.specs.declared.instruction.Jump.{Jump}
use Rattle.il_ast.specs.declared.instruction.Jump.TheVariants.{Goto, Branch, Return, Halt}
use Rattle.il_ast.specs.declared.instruction.Lined.{Lined}
use Rattle.il_ast.specs.declared.block.Block.{Block}
use Rattle.il_ast.specs.declared.function.Param.{Param}
use Rattle.il_ast.specs.declared.function.Func.{Func}
use Rattle.il_ast.specs.Prelude.{operand_class, left_class, right_class, stored_class, inst_weight, block_weight, weight}
use Rattle.il_types.specs.declared.site.Operand.{Operand as Reading}
use Rattle.il_types.specs.Prelude.{definer, param_definers, block_definers, arg_operands, operand_at}
use Rattle.phi_copies.specs.declared.ending.Assignment.{Assignment}
use Rattle.phi_copies.specs.declared.ending.Leave.{Leave}
use Rattle.phi_copies.specs.declared.ending.Leave.TheVariants.{Goto as GotoBlock, Branch as BranchTo, Return as ReturnWith, Halt as HaltRun}
use Rattle.phi_copies.specs.declared.ending.Ending.{Ending}
use Rattle.phi_copies.specs.Good.{IsGoodFunction}
use Rattle.phi_copies.specs.Copies.{phis_of, phis_at}
use Rattle.phi_copies.specs.Endings.{Endings}
use Rattle.phi_copies.specs.Lowered.{Edge, target, block_edges, all_edges, straight, IsJumpEnding, IsEndEnding, IsBlockEnding, AreEndings, IsOnEdge, AreOnEdges, IsLowered}
use Rattle.phi_copies.proofs.Counting.{is_small}
use Rattle.phi_copies.proofs.EdgePlaces.{phis_counted}
use Rattle.vcode.specs.declared.place.Operand.TheVariants.{At, Number}
use Rattle.vcode.specs.declared.place.Destination.{Destination}
use Rattle.vcode.specs.declared.line.Comparison.{Comparison}
use Rattle.vcode.specs.declared.line.Line.{Line}
use Rattle.vcode.specs.declared.line.Line.TheVariants.{Tick}
use Rattle.vcode.specs.declared.code.Block.{Block as VirtualBlock}
use Rattle.vcode.specs.declared.code.Code.{Code}
use Rattle.vcode.specs.Prelude.{operand_keeps, jump_keeps}
use Rattle.select.specs.Selected.{are_whole, words_compared, not_zero, operand_of, inst_lines, turn_lines, all_lines, copy_lines, assignment_lines, ending_lines, jump_of, block_of, edge_of, blocks_of, parameter_of, selected, classes_in}
use Rattle.select.specs.Typed.{Classes}
use Rattle.select.specs.Narrow.{listed, narrow, narrow_val, narrow_dest, narrow_arg, narrow_parameter, narrow_inst, narrow_turns, narrow_copies, narrow_ending, narrow_leave, narrow_block, narrow_edge, narrow_blocks, narrow_code}
use Rattle.select.proofs.LoweredTyping.{own_temps, param_among}
use Rattle.select.proofs.TableOf.{same_classes}
use Rattle.select.proofs.Known.{registers, Below, Within, within, AllCopies, EndingKeeps, end_ending_keeps, on_edge_keeps}
use Rattle.il_ast.proofs.Truth.{and_first}
use Rattle.phi_copies.proofs.Members.{Among, among_left}

-- ---- operands

pub small : (n : ℕ) → n < 2 ^ 32 → narrow n ≡ n
small n h = mod-eq_of_lt h

register_small : (f : Func) → IsGoodFunction f → (n : ℕ) → n < registers f → narrow n ≡ n
register_small f good n h = let few = (is_small f good).temporaries in small n (omega (arith, few, h))

value_small : (f : Func) → IsGoodFunction f → (a : Val) → operand_keeps (Below f) (operand_of a) ≡ true → narrow_val a ≡ a
value_small f good (Int n) h = refl
value_small f good (Temp t) h = ap Temp (register_small f good t (let lt : t < registers f = grind (arith, nat_tests) in lt))
value_small f good (Global g) h = refl

dest_small : (f : Func) → IsGoodFunction f → (d : Dest) → d.temp < registers f → narrow_dest d ≡ d
dest_small f good d h = let to : ℕ → Dest = λ n. record { temp = n; class = d.class } in ap to (register_small f good d.temp h)

-- ---- instructions

own : (f : Func) (n : ℕ) → n < length f.temps → n < registers f
own f n h = omega (arith, h)

args_small : (f : Func) → IsGoodFunction f → (line : ℕ) (args : List Arg) → ((o : Reading) → Among o (arg_operands line args) → operand_keeps (Below f) (operand_of o.value) ≡ true) → map narrow_arg args ≡ args
args_small f good line [] each = refl
args_small f good line (a ∷ args) each =
    let with : Val → Arg = λ v. record { class = a.class; value = v } in
    ap (λ x. x ∷ map narrow_arg args) (ap with (value_small f good a.value (each (operand_at line a.class a.value) (inl refl))))
    ∙ ap (λ xs. a ∷ xs) (args_small f good line args (λ o h. each o (inr h)))

inst_small : (f : Func) → IsGoodFunction f → (line : ℕ) (x : Inst) → Within f line x → narrow_inst x ≡ x
inst_small f good line (Unary to op a) w =
    ap (λ d. Unary d op (narrow_val a)) (dest_small f good to (own f to.temp (w.defines (definer line to) (inl refl))))
    ∙ ap (λ v. Unary to op v) (value_small f good a (w.reads_all (operand_at line (operand_class op to.class) a) (inl refl)))
inst_small f good line (Binary to op a b) w =
    ap (λ d. Binary d op (narrow_val a) (narrow_val b)) (dest_small f good to (own f to.temp (w.defines (definer line to) (inl refl))))
    ∙ ap (λ v. Binary to op v (narrow_val b)) (value_small f good a (w.reads_all (operand_at line (left_class op to.class) a) (inl refl)))
    ∙ ap (λ v. Binary to op a v) (value_small f good b (w.reads_all (operand_at line (right_class op to.class) b) (inr (inl refl))))
inst_small f good line (Alloc to alignment size) w =
    ap (λ d. Alloc d alignment size) (dest_small f good to (own f to.temp (w.defines (definer line to) (inl refl))))
inst_small f good line (Store size a at) w =
    ap (λ v. Store size v (narrow_val at)) (value_small f good a (w.reads_all (operand_at line (stored_class size) a) (inl refl)))
    ∙ ap (λ v. Store size a v) (value_small f good at (w.reads_all (operand_at line L at) (inr (inl refl))))
inst_small f good line (Blit from to count) w =
    ap (λ v. Blit v (narrow_val to) count) (value_small f good from (w.reads_all (operand_at line L from) (inl refl)))
    ∙ ap (λ v. Blit from v count) (value_small f good to (w.reads_all (operand_at line L to) (inr (inl refl))))
inst_small f good line (Call None callee args) w =
    ap (λ v. Call None v (map narrow_arg args)) (value_small f good callee (w.reads_all (operand_at line L callee) (inl refl)))
    ∙ ap (λ v. Call None callee v) (args_small f good line args (λ o h. w.reads_all o (inr h)))
inst_small f good line (Call (Some to) callee args) w =
    ap (λ d. Call (Some d) (narrow_val callee) (map narrow_arg args)) (dest_small f good to (own f to.temp (w.defines (definer line to) (inl refl))))
    ∙ ap (λ v. Call (Some to) v (map narrow_arg args)) (value_small f good callee (w.reads_all (operand_at line L callee) (inl refl)))
    ∙ ap (λ v. Call (Some to) callee v) (args_small f good line args (λ o h. w.reads_all o (inr h)))

-- ---- weights

among_sum : {A : Type 0} (g : A → ℕ) (xs : List A) (x : A) → Among x xs → g x ≤ sum_by g xs
among_sum g [] x a = absurd a
among_sum g (y ∷ xs) x (inl e) = let all = sum_by-cons g y xs in let same = ap g e in omega (arith, all, same)
among_sum g (y ∷ xs) x (inr a) = let all = sum_by-cons g y xs in let le = among_sum g xs x a in omega (arith, all, le)

pub light : (f : Func) → IsGoodFunction f → weight f ≤ FUNCTION_WEIGHT
light f good =
    let heavy = and_first (nat_le (weight f) FUNCTION_WEIGHT) _ good.limits in
    let le : weight f ≤ FUNCTION_WEIGHT = grind (arith, nat_tests) in
    le

weight_small : (f : Func) → IsGoodFunction f → (b : Block) (i : Lined Inst) → Among b f.blocks → Among i b.insts → narrow (inst_weight i.item) ≡ inst_weight i.item
weight_small f good b i here at =
    let le = light f good in
    let of_block = among_sum block_weight f.blocks b here in
    let of_inst = among_sum (λ (x : Lined Inst). inst_weight x.item) b.insts i at in
    small (inst_weight i.item) (omega (arith, le, of_block, of_inst))

turns_small : (classes : Classes) (f : Func) → IsGoodFunction f → (b : Block) → Among b f.blocks → (insts : List (Lined Inst)) → ((i : Lined Inst) → Among i insts → Among i b.insts) → narrow_turns classes insts ≡ all_lines classes insts
turns_small classes f good b here [] sub = refl
turns_small classes f good b here (i ∷ insts) sub =
    let at = sub i (inl refl) in
    ap (λ n. (Tick true n ∷ inst_lines classes (narrow_inst i.item)) ++ narrow_turns classes insts) (weight_small f good b i here at)
    ∙ ap (λ x. (Tick true (inst_weight i.item) ∷ inst_lines classes x) ++ narrow_turns classes insts) (inst_small f good i.line i.item (within f good b i here at))
    ∙ ap (λ ls. turn_lines classes i ++ ls) (turns_small classes f good b here insts (λ j a. sub j (inr a)))

-- ---- endings

copies_small : (classes : Classes) (f : Func) → IsGoodFunction f → (cs : List Assignment) → AllCopies f cs → narrow_copies classes cs ≡ assignment_lines classes cs
copies_small classes f good [] h = refl
copies_small classes f good (c ∷ cs) h =
    ap (λ n. copy_lines classes n c.to.class (operand_of (narrow_val c.value)) ++ narrow_copies classes cs) (register_small f good c.to.temp h.0.to)
    ∙ ap (λ v. copy_lines classes c.to.temp c.to.class (operand_of v) ++ narrow_copies classes cs) (value_small f good c.value h.0.value)
    ∙ ap (λ ls. copy_lines classes c.to.temp c.to.class (operand_of c.value) ++ ls) (copies_small classes f good cs h.1)

-- the operand of a branch keeps what the comparison does
tested_keeps : (classes : Classes) (test : ℕ → Bool) (a : Val) → (operand_keeps test (not_zero classes (operand_of a)).left && operand_keeps test (not_zero classes (operand_of a)).right) ≡ true → operand_keeps test (operand_of a) ≡ true
tested_keeps classes test (Int n) h = refl
tested_keeps classes test (Temp t) h = by (are_whole classes (At t) (Number 0)) h
  where
    compared : Bool → Comparison ℕ
    compared whole = words_compared NotEqual (At t) (Number 0) whole

    by : (whole : Bool) → (operand_keeps test (compared whole).left && operand_keeps test (compared whole).right) ≡ true → test t ≡ true
    by true e = and_first (test t) true e
    by false e = and_first (test t) true e
tested_keeps classes test (Global g) h = refl

leave_small : (classes : Classes) (f : Func) → IsGoodFunction f → (l : Leave) → jump_keeps (Below f) (jump_of classes l) ≡ true → narrow_leave l ≡ l
leave_small classes f good (GotoBlock k) h = refl
leave_small classes f good (BranchTo on nonzero otherwise) h = ap (λ v. BranchTo v nonzero otherwise) (value_small f good on (tested_keeps classes (Below f) on h))
leave_small classes f good (ReturnWith None) h = refl
leave_small classes f good (ReturnWith (Some a)) h = ap (λ v. ReturnWith (Some v)) (value_small f good a h)
leave_small classes f good HaltRun h = refl

-- an ending without anything long
record IsSmallEnding (classes : Classes) (e : Ending) : Type 0 where
  lines : narrow_ending classes e ≡ ending_lines classes e
  leave : narrow_leave e.leave ≡ e.leave

ending_small : (classes : Classes) (f : Func) → IsGoodFunction f → (e : Ending) → EndingKeeps classes f e → e.weight ≤ 44001 → IsSmallEnding classes e
ending_small classes f good e k le =
    record {
      lines = ap (λ n. Tick e.turn n ∷ narrow_copies classes e.copies) (small e.weight (omega (arith, le))) ∙ ap (λ ls. Tick e.turn e.weight ∷ ls) (copies_small classes f good e.copies k.copies);
      leave = leave_small classes f good e.leave k.leaves;
    }

phis_few : (f : Func) → IsGoodFunction f → (k : ℕ) → length (phis_at f.blocks k) ≤ 44000
phis_few f good k = by (slice_get f.blocks k) refl
  where
    by : (b : Option Block) → slice_get f.blocks k ≡ b → length (phis_of b) ≤ 44000
    by None e = omega arith
    by (Some b) e = let all = phis_counted f.blocks k b e in let few = (is_small f good).temporaries in omega (arith, all, few)

jump_weight : (f : Func) → IsGoodFunction f → (from number : ℕ) (j : Jump) (e : Ending) → IsJumpEnding f from number j e → e.weight ≤ 44001
jump_weight f good from number (Goto l) e is = let few = phis_few f good (target f.blocks l) in let same = ap (λ (x : Ending). x.weight) is.0 in omega (arith, few, same)
jump_weight f good from number (Branch on nonzero otherwise) e is = let same = ap (λ (x : Ending). x.weight) is in omega (arith, same)
jump_weight f good from number (Return a) e is = let same = ap (λ (x : Ending). x.weight) is in omega (arith, same)
jump_weight f good from number Halt e is = let same = ap (λ (x : Ending). x.weight) is in omega (arith, same)

end_weight_few : (f : Func) → IsGoodFunction f → (from number : ℕ) (j : Option (Lined Jump)) (e : Ending) → IsEndEnding f from number j e → e.weight ≤ 44001
end_weight_few f good from number None e is = let same = ap (λ (x : Ending). x.weight) is in omega (arith, same)
end_weight_few f good from number (Some j) e is = jump_weight f good from number (straight j.item) e is

-- ---- blocks

block_small : (classes : Classes) (f : Func) → IsGoodFunction f → (b : Block) (n : ℕ) (e : Ending) → Among b f.blocks → IsBlockEnding f n b e → narrow_block classes b e ≡ block_of classes b e
block_small classes f good b n e a is =
    let s = ending_small classes f good e (end_ending_keeps classes f good b b.jump n e a refl is) (end_weight_few f good b.label n b.jump e is) in
    let with : List (Line ℕ) → Leave → VirtualBlock ℕ = λ ls l. record { lines = ls; jump = jump_of classes l } in
    ap (λ ls. with (ls ++ narrow_ending classes e) (narrow_leave e.leave)) (turns_small classes f good b a b.insts (λ i h. h))
    ∙ ap (λ ls. with (all_lines classes b.insts ++ ls) (narrow_leave e.leave)) s.lines
    ∙ ap (with (all_lines classes b.insts ++ ending_lines classes e)) s.leave

blocks_small : (classes : Classes) (f : Func) → IsGoodFunction f → (n : ℕ) (bs : List Block) (es : List Ending) → AreEndings f n bs es → ((b : Block) → Among b bs → Among b f.blocks) → narrow_blocks classes bs es ≡ blocks_of classes bs es
blocks_small classes f good n [] es are sub = refl
blocks_small classes f good n (b ∷ bs) [] are sub = refl
blocks_small classes f good n (b ∷ bs) (e ∷ es) are sub =
    ap (λ x. x ∷ narrow_blocks classes bs es) (block_small classes f good b n e (sub b (inl refl)) are.0)
    ∙ ap (λ xs. block_of classes b e ∷ xs) (blocks_small classes f good (n + length (block_edges f b)) bs es are.1 (λ c a. sub c (inr a)))

-- ---- edges

edge_small : (classes : Classes) (f : Func) → IsGoodFunction f → (w : Edge) (e : Ending) → IsOnEdge f w e → narrow_edge classes e ≡ edge_of classes e
edge_small classes f good w e is =
    let few = phis_few f good w.to in
    let same = ap (λ (x : Ending). x.weight) is.0 in
    let s = ending_small classes f good e (on_edge_keeps classes f w e is) (omega (arith, few, same)) in
    let with : List (Line ℕ) → Leave → VirtualBlock ℕ = λ ls l. record { lines = ls; jump = jump_of classes l } in
    ap (λ ls. with ls (narrow_leave e.leave)) s.lines ∙ ap (with (ending_lines classes e)) s.leave

edges_small : (classes : Classes) (f : Func) → IsGoodFunction f → (ws : List Edge) (es : List Ending) → AreOnEdges f ws es → map (narrow_edge classes) es ≡ map (edge_of classes) es
edges_small classes f good [] [] are = refl
edges_small classes f good [] (e ∷ es) are = absurd are
edges_small classes f good (w ∷ ws) [] are = absurd are
edges_small classes f good (w ∷ ws) (e ∷ es) are =
    ap (λ x. x ∷ map (narrow_edge classes) es) (edge_small classes f good w e are.0) ∙ ap (λ xs. edge_of classes e ∷ xs) (edges_small classes f good ws es are.1)

-- ---- all of it

params_small : (f : Func) → IsGoodFunction f → (ps : List Param) → ((p : Param) → Among p ps → Among p f.params) → map narrow_parameter ps ≡ map parameter_of ps
params_small f good [] sub = refl
params_small f good (p ∷ ps) sub =
    let low = own_temps f (record { line = p.line; temp = p.temp; class = p.class }) (among_left _ (flat_map param_definers f.params) (flat_map block_definers f.blocks) (param_among f.params p (sub p (inl refl)))) in
    ap (λ n. record { place = n; class = p.class } ∷ map narrow_parameter ps) (register_small f good p.temp (own f p.temp low))
    ∙ ap (λ xs. parameter_of p ∷ xs) (params_small f good ps (λ q a. sub q (inr a)))

pub nothing_long : (classes : Classes) (f : Func) (code : Endings) → IsGoodFunction f → IsLowered f code → narrow_code classes f code ≡ selected classes f code
unfolding narrow_code selected
nothing_long classes f code good is =
    let made : List (Destination ℕ) → List (VirtualBlock ℕ) → Code ℕ = λ ps bs. record { result = f.result; params = ps; blocks = bs } in
    ap (λ ps. made ps (narrow_blocks classes f.blocks code.endings ++ map (narrow_edge classes) code.edges)) (params_small f good f.params (λ p a. a))
    ∙ ap (λ bs. made (map parameter_of f.params) (bs ++ map (narrow_edge classes) code.edges)) (blocks_small classes f good 0 f.blocks code.endings is.endings (λ b a. a))
    ∙ ap (λ bs. made (map parameter_of f.params) (blocks_of classes f.blocks code.endings ++ bs)) (edges_small classes f good (all_edges f f.blocks) code.edges is.edges)

-- by a table of the classes
pub is_selected_by : (f : Func) (code : Endings) → IsGoodFunction f → IsLowered f code → (given table : List Class) → given ≡ table → ((t : ℕ) → listed table t ≡ classes_in f t) → narrow_code (listed given) f code ≡ selected (classes_in f) f code
is_selected_by f code good lowered given table is each =
    ap (λ (cs : List Class). narrow_code (listed cs) f code) is
    ∙ ap (λ classes. narrow_code classes f code) (same_classes f table each)
    ∙ nothing_long (classes_in f) f code good lowered
