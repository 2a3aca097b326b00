-- The virtual code of a lowered function of a good text is regular.
use Rattle.std.proofs.Common.{◌≡◌, ℕ, suc, ◌+◌, ◌<◌, ◌≤◌, Bool, true, false, not, nat_lt, nat_le, ◌||◌, List, [], ◌∷◌, ◌++◌, length, map, refl, sym, ◌∙◌, ap, subst, arith, append_assoc, ◌⊎◌, inl, inr, nat_eq, Option, Some, None, option_map}
use Rattle.std.specs.List.{list_all, list_any, sum_by}
use Rattle.std.proofs.lemmas.List.{length-append, length-map}
use Rattle.std.proofs.lemmas.List.Sums.{sum_by-cons, sum_by-append}
use Rattle.std.proofs.lemmas.Bool.{lt-ltb, le-leb, leb-true, and_from}
use Rattle.il_ast.specs.declared.limits.TheConstants.{FUNCTION_WEIGHT}
use Rattle.il_ast.specs.declared.instruction.Inst.{Inst}
use Rattle.il_ast.specs.declared.instruction.Inst.TheVariants.{Unary, Binary, Alloc as AllocInst, Store as StoreInst, Blit as BlitInst, Call as CallInst}
use Rattle.il_ast.specs.declared.instruction.Jump.{Jump}
use Rattle.il_ast.specs.declared.instruction.Jump.TheVariants.{Goto, Branch, Return, Halt}
use Rattle.il_ast.specs.declared.instruction.Lined.{Lined}
use Rattle.il_ast.specs.declared.block.Phi.{Phi}
use Rattle.il_ast.specs.declared.block.Block.{Block}
use Rattle.il_ast.specs.declared.function.Func.{Func}
use Rattle.il_ast.specs.Prelude.{inst_weight, block_weight, weight, alloc_bytes as inst_bytes, alloc_area}
use Rattle.il_types.specs.declared.rule.Rule.TheVariants.{AllocInEntry}
use Rattle.il_types.specs.Prelude.{when, first, has_few_args, jump_sites, is_alloc as is_alloc_inst, in_insts, has_wrong_size, wrong_alloc_in}
use Rattle.phi_copies.specs.declared.ending.Assignment.{Assignment}
use Rattle.phi_copies.specs.declared.ending.Ending.{Ending}
use Rattle.phi_copies.specs.Good.{IsGoodFunction}
use Rattle.phi_copies.specs.Copies.{phis_at}
use Rattle.phi_copies.specs.Endings.{Endings}
use Rattle.phi_copies.specs.Lowered.{or_zero, target, Edge, edge_with, edge, jump_edges, end_edges, block_edges, all_edges, past_edge, branch_target, straight, straight_if, IsGoto, IsJumpEnding, IsEndEnding, AreEndings, IsOnEdge, IsLowered}
use Rattle.phi_copies.proofs.EntryNumbers.{on_edges_many}
use Rattle.vcode.specs.declared.line.Line.{Line}
use Rattle.vcode.specs.Prelude.{at_once, is_paid, is_target as is_target_in, leads_inside, is_alloc, allocs_first, alloc_bytes, turns_of, passes_few, IsRegular}
use Rattle.vcode.specs.declared.line.Line.TheVariants.{Tick, Alloc, Store, Blit, Call}
use Rattle.vcode.specs.declared.code.Block.{Block as VirtualBlock}
use Rattle.select.specs.Selected.{operand_of, destination_of, argument_of, inst_lines, turn_lines, all_lines, copy_lines, assignment_lines, ending_lines, jump_of, block_of, edge_of, blocks_of, parameter_of, selected, binary_lines}
use Rattle.select.specs.Typed.{Classes}
use Rattle.select.proofs.Paying.{ending_pays, insts_pay, end_ending_pays, edge_pays}
use Rattle.select.proofs.EachBlock.{blocks_all, Branches, Leaves, edges_all, IsTarget, is_target}
use Rattle.select.proofs.UsedPlaces.{copy_sets, unary_sets, binary_sets, no_alloc, no_area, no_turn, all_few}
use Rattle.il_ast.proofs.Truth.{and_first, and_second}
use Rattle.phi_copies.proofs.PhiRules.{not_broken, neither_first, neither_second, none_among}
use Rattle.phi_copies.proofs.Members.{Among}

-- ---- tests

neither : (p : Line ℕ → Bool) (xs ys : List (Line ℕ)) → list_any p xs ≡ false → list_any p ys ≡ false → list_any p (xs ++ ys) ≡ false
neither p [] ys h k = k
neither p (x ∷ xs) ys h k = by (p x) h (neither p xs ys)
  where
    by : (b : Bool) → (b || list_any p xs) ≡ false → (list_any p xs ≡ false → list_any p ys ≡ false → list_any p (xs ++ ys) ≡ false) → (b || list_any p (xs ++ ys)) ≡ false
    by true e rest = e
    by false e rest = rest e k

-- ---- every block is paid for

paid_blocks : (classes : Classes) (f : Func) (code : Endings) → IsLowered f code → list_all is_paid (blocks_of classes f.blocks code.endings ++ map (edge_of classes) code.edges) ≡ true
paid_blocks classes f code is =
    blocks_all classes f is_paid (0 + length (all_edges f f.blocks)) 0 f.blocks code.endings (map (edge_of classes) code.edges) is.endings refl
    (λ b e m a h le. insts_pay classes b.insts (jump_of classes e.leave) (ending_lines classes e) (ending_pays classes e (end_ending_pays classes f b.label m b.jump e h)))
    (edges_all classes f is_paid f.blocks code.edges is.edges (λ w e l h. ending_pays classes e (edge_pays classes f w e l.some h)))

-- ---- jumps lead to blocks behind the first

length_blocks : (classes : Classes) (f : Func) (n : ℕ) (bs : List Block) (es : List Ending) → AreEndings f n bs es → length (blocks_of classes bs es) ≡ length bs
length_blocks classes f n [] es are = refl
length_blocks classes f n (b ∷ bs) [] are = absurd are
length_blocks classes f n (b ∷ bs) (e ∷ es) are = ap suc (length_blocks classes f (n + length (block_edges f b)) bs es are.1)

-- all blocks
abbrev total : Func → ℕ
total f = length f.blocks + length (all_edges f f.blocks)

total_is : (classes : Classes) (f : Func) (code : Endings) → IsLowered f code → length (blocks_of classes f.blocks code.endings ++ map (edge_of classes) code.edges) ≡ total f
total_is classes f code is =
    length-append (blocks_of classes f.blocks code.endings) (map (edge_of classes) code.edges)
    ∙ ap (λ n. n + length (map (edge_of classes) code.edges)) (length_blocks classes f 0 f.blocks code.endings is.endings)
    ∙ ap (λ n. length f.blocks + n) (length-map code.edges (edge_of classes) ∙ on_edges_many f (all_edges f f.blocks) code.edges is.edges)

inside_at : (n k : ℕ) → 0 < k → k < n → is_target_in n k ≡ true
inside_at n k h j = and_from (nat_lt 0 k) (nat_lt k n) (lt-ltb 0 k h) (lt-ltb k n j)

label_inside : (f : Func) (l : ℕ) → IsTarget f l → is_target_in (total f) (target f.blocks l) ≡ true
label_inside f l t =
    let first = t.not_first in
    let within = t.within in
    ap (λ o. is_target_in (total f) (or_zero o)) t.is ∙ inside_at (total f) t.place first (omega (arith, within))

-- a branch, past an edge or not
side_inside : (f : Func) (l number : ℕ) (phis : List Phi) → IsTarget f l → (0 < length phis → number < length (all_edges f f.blocks)) → is_target_in (total f) (past_edge f number (target f.blocks l) phis) ≡ true
side_inside f l number [] t h = label_inside f l t
side_inside f l number (p ∷ ps) t h =
    let within = h (omega arith) in
    let some = t.within in
    inside_at (total f) (length f.blocks + number) (omega (arith, some)) (omega (arith, within))

edge_long : (from k : ℕ) (phis : List Phi) → 0 < length phis → length (edge_with from k phis) ≡ 1
edge_long from k [] h = absurd (omega (arith, h))
edge_long from k (p ∷ ps) h = refl

-- an ending that leads to blocks behind the first
abbrev LeadsInside : Classes → Func → Ending → Type 0
LeadsInside classes f d = leads_inside (total f) (jump_of classes d.leave) ≡ true

goto_inside : (classes : Classes) (f : Func) (from l : ℕ) (d : Ending) → IsTarget f l → IsGoto f from (target f.blocks l) d → LeadsInside classes f d
goto_inside classes f from l d t is = subst (LeadsInside classes f) (sym is.0) (label_inside f l t)

jump_inside : (classes : Classes) (f : Func) → IsGoodFunction f → (b : Block) (j : Lined Jump) (x : Jump) (m : ℕ) (d : Ending) → Among b f.blocks → b.jump ≡ Some j → j.item ≡ x → m + length (block_edges f b) ≤ length (all_edges f f.blocks) → IsJumpEnding f b.label m (straight x) d → LeadsInside classes f d
jump_inside classes f good b j (Goto l) m d a e i le is =
    goto_inside classes f b.label l d (is_target f good b j l j.line a e (subst (λ y. Among (record { line = j.line; number = l }) (jump_sites j.line y)) (sym i) (inl refl))) is
jump_inside classes f good b j (Branch on nonzero otherwise) m d a e i le is = by_ways (nat_eq nonzero otherwise) refl is
  where
    from : ℕ
    from = b.label

    t1 : ℕ
    t1 = target f.blocks nonzero

    t2 : ℕ
    t2 = target f.blocks otherwise

    one : IsTarget f nonzero
    one = is_target f good b j nonzero j.line a e (subst (λ y. Among (record { line = j.line; number = nonzero }) (jump_sites j.line y)) (sym i) (inl refl))

    two : IsTarget f otherwise
    two = is_target f good b j otherwise j.line a e (subst (λ y. Among (record { line = j.line; number = otherwise }) (jump_sites j.line y)) (sym i) (inr (inl refl)))

    by_ways : (q : Bool) → nat_eq nonzero otherwise ≡ q → IsJumpEnding f b.label m (straight_if q on nonzero otherwise) d → LeadsInside classes f d
    by_ways true differ h = goto_inside classes f b.label nonzero d one h
    by_ways false differ h =
        let edges : block_edges f b ≡ edge f from t1 ++ edge f from t2 = ap (end_edges f from) e ∙ (ap (λ y. jump_edges f from (straight y)) i ∙ ap (λ q. jump_edges f from (straight_if q on nonzero otherwise)) differ) in
        let long : length (block_edges f b) ≡ length (edge f from t1) + length (edge f from t2) = ap length edges ∙ length-append (edge f from t1) (edge f from t2) in
        subst (LeadsInside classes f) (sym h)
        (and_from (is_target_in (total f) (branch_target f m t1)) (is_target_in (total f) (branch_target f (m + length (edge f from t1)) t2))
        (side_inside f nonzero m (phis_at f.blocks t1) one (λ h. let n = edge_long from t1 (phis_at f.blocks t1) h in omega (arith, n, long, le)))
        (side_inside f otherwise (m + length (edge f from t1)) (phis_at f.blocks t2) two (λ h. let n = edge_long from t2 (phis_at f.blocks t2) h in omega (arith, n, long, le))))
jump_inside classes f good b j (Return v) m d a e i le is = subst (LeadsInside classes f) (sym is) refl
jump_inside classes f good b j Halt m d a e i le is = subst (LeadsInside classes f) (sym is) refl

end_inside : (classes : Classes) (f : Func) → IsGoodFunction f → (b : Block) (j : Option (Lined Jump)) (m : ℕ) (d : Ending) → Among b f.blocks → b.jump ≡ j → m + length (block_edges f b) ≤ length (all_edges f f.blocks) → IsEndEnding f b.label m j d → LeadsInside classes f d
end_inside classes f good b None m d a e le is = subst (LeadsInside classes f) (sym is) refl
end_inside classes f good b (Some j) m d a e le is = jump_inside classes f good b j j.item m d a e refl le is

edge_inside : (f : Func) → IsGoodFunction f → (b : Block) (l : ℕ) → Among b f.blocks → Branches b l → is_target_in (total f) (target f.blocks l) ≡ true
edge_inside f good b l a br = label_inside f l (is_target f good b br.jump l br.jump.line a br.ends (subst (λ y. Among (record { line = br.jump.line; number = l }) (jump_sites br.jump.line y)) (sym br.is) (by br.label)))
  where
    by : (l ≡ br.nonzero) ⊎ (l ≡ br.otherwise) → Among (record { line = br.jump.line; number = l }) (jump_sites br.jump.line (Branch br.on br.nonzero br.otherwise))
    by (inl e) = inl (ap (λ n. record { line = br.jump.line; number = n }) e)
    by (inr e) = inr (inl (ap (λ n. record { line = br.jump.line; number = n }) e))

on_edge_inside : (classes : Classes) (f : Func) → IsGoodFunction f → (w : Edge) (e : Ending) → Leaves f f.blocks w → IsOnEdge f w e → LeadsInside classes f e
on_edge_inside classes f good w e l is =
    subst (LeadsInside classes f) (sym is.0)
    (ap (λ (x : Edge). is_target_in (total f) x.to) l.is ∙ edge_inside f good l.block l.label l.there l.branches)

pub inside_blocks : (classes : Classes) (f : Func) (code : Endings) → IsGoodFunction f → IsLowered f code → list_all (λ (b : VirtualBlock ℕ). leads_inside (total f) b.jump) (blocks_of classes f.blocks code.endings ++ map (edge_of classes) code.edges) ≡ true
inside_blocks classes f code good is =
    let none : 0 + length (all_edges f f.blocks) ≡ length (all_edges f f.blocks) = omega arith in
    blocks_all classes f (λ (b : VirtualBlock ℕ). leads_inside (total f) b.jump) (length (all_edges f f.blocks)) 0 f.blocks code.endings (map (edge_of classes) code.edges) is.endings none
    (λ b e m a h le. end_inside classes f good b b.jump m e a refl le h)
    (edges_all classes f (λ (b : VirtualBlock ℕ). leads_inside (total f) b.jump) f.blocks code.edges is.edges (λ w e l h. on_edge_inside classes f good w e l h))

-- ---- blocks of memory are made in the first block

inst_no_alloc : (classes : Classes) (x : Inst) → is_alloc_inst x ≡ false → list_any is_alloc (inst_lines classes x) ≡ false
inst_no_alloc classes (Unary to op a) h = no_alloc to.temp (operand_of a ∷ []) _ (unary_sets classes to.temp op to.class (operand_of a))
inst_no_alloc classes (Binary to op a b) h = no_alloc to.temp (operand_of a ∷ operand_of b ∷ []) (binary_lines classes to.temp op to.class (operand_of a) (operand_of b)) (binary_sets classes to.temp op to.class (operand_of a) (operand_of b))
inst_no_alloc classes (AllocInst to alignment size) h = absurd (let no : ⊥ = cc in no)
inst_no_alloc classes (StoreInst size a at) h = refl
inst_no_alloc classes (BlitInst from to count) h = refl
inst_no_alloc classes (CallInst to callee args) h = refl

copies_no_alloc : (classes : Classes) (cs : List Assignment) → list_any is_alloc (assignment_lines classes cs) ≡ false
copies_no_alloc classes [] = refl
copies_no_alloc classes (c ∷ cs) =
    neither is_alloc (copy_lines classes c.to.temp c.to.class (operand_of c.value)) (assignment_lines classes cs)
    (no_alloc c.to.temp (operand_of c.value ∷ []) _ (copy_sets classes c.to.temp c.to.class (operand_of c.value))) (copies_no_alloc classes cs)

insts_no_alloc : (classes : Classes) (insts : List (Lined Inst)) (rest : List (Line ℕ)) → first (λ (i : Lined Inst). when (is_alloc_inst i.item) i.line) insts ≡ None → list_any is_alloc rest ≡ false → list_any is_alloc (all_lines classes insts ++ rest) ≡ false
insts_no_alloc classes [] rest h k = k
insts_no_alloc classes (i ∷ insts) rest h k =
    let here = not_broken (is_alloc_inst i.item) i.line (neither_first (when (is_alloc_inst i.item) i.line) _ h) in
    ap (list_any is_alloc) (append_assoc (turn_lines classes i) (all_lines classes insts) rest)
    ∙ neither is_alloc (inst_lines classes i.item) (all_lines classes insts ++ rest) (inst_no_alloc classes i.item here)
    (insts_no_alloc classes insts rest (neither_second (when (is_alloc_inst i.item) i.line) _ h) k)

abbrev makes_none : VirtualBlock ℕ → Bool
makes_none b = not (list_any is_alloc b.lines)

none_made : (classes : Classes) (b : Block) (e : Ending) → first (λ (i : Lined Inst). when (is_alloc_inst i.item) i.line) b.insts ≡ None → makes_none (block_of classes b e) ≡ true
none_made classes b e h = ap not (insts_no_alloc classes b.insts (ending_lines classes e) h (copies_no_alloc classes e.copies))

first_alone : (classes : Classes) (f : Func) (n : ℕ) (blocks : List Block) (es : List Ending) (rest : List (VirtualBlock ℕ)) → AreEndings f n blocks es → wrong_alloc_in blocks ≡ None → list_all makes_none rest ≡ true → allocs_first (blocks_of classes blocks es ++ rest) ≡ true
first_alone classes f n [] es rest are h edges = by rest edges
  where
    by : (bs : List (VirtualBlock ℕ)) → list_all makes_none bs ≡ true → allocs_first bs ≡ true
    by [] e = refl
    by (b ∷ bs) e = and_second (makes_none b) (list_all makes_none bs) e
first_alone classes f n (b ∷ blocks) [] rest are h edges = absurd are
first_alone classes f n (b ∷ blocks) (e ∷ es) rest are h edges =
    let others = neither_second (in_insts has_wrong_size (b ∷ [])) (in_insts is_alloc_inst blocks) h in
    blocks_all classes f makes_none (n + length (block_edges f b) + length (all_edges f blocks)) (n + length (block_edges f b)) blocks es rest are.1 refl
    (λ c d m a is le. none_made classes c d (none_among (λ (x : Block). first (λ (i : Lined Inst). when (is_alloc_inst i.item) i.line) x.insts) blocks c others a)) edges

allocs_are_first : (classes : Classes) (f : Func) (code : Endings) → IsGoodFunction f → IsLowered f code → allocs_first (blocks_of classes f.blocks code.endings ++ map (edge_of classes) code.edges) ≡ true
allocs_are_first classes f code good is =
    first_alone classes f 0 f.blocks code.endings (map (edge_of classes) code.edges) is.endings (good.rules AllocInEntry)
    (edges_all classes f makes_none f.blocks code.edges is.edges (λ w e l h. ap not (copies_no_alloc classes e.copies)))

-- ---- the stack that they take

one_of : (m : Line ℕ → ℕ) (l : Line ℕ) → sum_by m (l ∷ []) ≡ m l
one_of m l = let all = sum_by-cons m l [] in omega (arith, all)

inst_area : (classes : Classes) (x : Inst) → sum_by alloc_bytes (inst_lines classes x) ≡ inst_bytes x
inst_area classes (Unary to op a) = no_area to.temp (operand_of a ∷ []) _ (unary_sets classes to.temp op to.class (operand_of a))
inst_area classes (Binary to op a b) = no_area to.temp (operand_of a ∷ operand_of b ∷ []) (binary_lines classes to.temp op to.class (operand_of a) (operand_of b)) (binary_sets classes to.temp op to.class (operand_of a) (operand_of b))
inst_area classes (AllocInst to alignment size) = one_of alloc_bytes (Alloc (Some to.temp) size)
inst_area classes (StoreInst size a at) = one_of alloc_bytes (Store size (operand_of a) (at_once (operand_of at)))
inst_area classes (BlitInst from to count) = one_of alloc_bytes (Blit (operand_of from) (operand_of to) count)
inst_area classes (CallInst to callee args) = one_of alloc_bytes (Call (option_map destination_of to) (operand_of callee) (map argument_of args))

copies_area : (classes : Classes) (cs : List Assignment) → sum_by alloc_bytes (assignment_lines classes cs) ≡ 0
copies_area classes [] = refl
copies_area classes (c ∷ cs) =
    let all = sum_by-append alloc_bytes (copy_lines classes c.to.temp c.to.class (operand_of c.value)) (assignment_lines classes cs) in
    let one = no_area c.to.temp (operand_of c.value ∷ []) _ (copy_sets classes c.to.temp c.to.class (operand_of c.value)) in
    let rest = copies_area classes cs in
    omega (arith, all, one, rest)

ending_area : (classes : Classes) (e : Ending) → sum_by alloc_bytes (ending_lines classes e) ≡ 0
ending_area classes e =
    let all = sum_by-cons alloc_bytes (Tick e.turn e.weight) (assignment_lines classes e.copies) in
    let rest = copies_area classes e.copies in
    omega (arith, all, rest)

insts_area : (classes : Classes) (insts : List (Lined Inst)) → sum_by alloc_bytes (all_lines classes insts) ≡ sum_by (λ (i : Lined Inst). inst_bytes i.item) insts
insts_area classes [] = refl
insts_area classes (i ∷ insts) =
    let both = sum_by-append alloc_bytes (turn_lines classes i) (all_lines classes insts) in
    let tick = sum_by-cons alloc_bytes (Tick true (inst_weight i.item)) (inst_lines classes i.item) in
    let one = inst_area classes i.item in
    let rest = insts_area classes insts in
    let all = sum_by-cons (λ (x : Lined Inst). inst_bytes x.item) i insts in
    omega (arith, both, tick, one, rest, all)

abbrev bytes_in : VirtualBlock ℕ → ℕ
bytes_in b = sum_by alloc_bytes b.lines

block_area : (classes : Classes) (b : Block) (e : Ending) → bytes_in (block_of classes b e) ≡ sum_by (λ (i : Lined Inst). inst_bytes i.item) b.insts
block_area classes b e =
    let both = sum_by-append alloc_bytes (all_lines classes b.insts) (ending_lines classes e) in
    let one = insts_area classes b.insts in
    let none = ending_area classes e in
    omega (arith, both, one, none)

edges_area : (classes : Classes) (es : List Ending) → sum_by bytes_in (map (edge_of classes) es) ≡ 0
edges_area classes [] = refl
edges_area classes (e ∷ es) =
    let all = sum_by-cons bytes_in (edge_of classes e) (map (edge_of classes) es) in
    let one = ending_area classes e in
    let rest = edges_area classes es in
    omega (arith, all, one, rest)

blocks_area : (classes : Classes) (f : Func) (n : ℕ) (bs : List Block) (es : List Ending) → AreEndings f n bs es → sum_by bytes_in (blocks_of classes bs es) ≡ sum_by (λ (b : Block). sum_by (λ (i : Lined Inst). inst_bytes i.item) b.insts) bs
blocks_area classes f n [] es are = refl
blocks_area classes f n (b ∷ bs) [] are = absurd are
blocks_area classes f n (b ∷ bs) (e ∷ es) are =
    let all = sum_by-cons bytes_in (block_of classes b e) (blocks_of classes bs es) in
    let source = sum_by-cons (λ (c : Block). sum_by (λ (i : Lined Inst). inst_bytes i.item) c.insts) b bs in
    let one = block_area classes b e in
    let rest = blocks_area classes f (n + length (block_edges f b)) bs es are.1 in
    omega (arith, all, source, one, rest)

pub area_is : (classes : Classes) (f : Func) (code : Endings) → IsLowered f code → sum_by bytes_in (blocks_of classes f.blocks code.endings ++ map (edge_of classes) code.edges) ≡ alloc_area f
area_is classes f code is =
    let both = sum_by-append bytes_in (blocks_of classes f.blocks code.endings) (map (edge_of classes) code.edges) in
    let one = blocks_area classes f 0 f.blocks code.endings is.endings in
    let none = edges_area classes code.edges in
    omega (arith, both, one, none)

-- ---- the turns of a block

inst_turns : (classes : Classes) (x : Inst) → sum_by turns_of (inst_lines classes x) ≡ 0
inst_turns classes (Unary to op a) = no_turn to.temp (operand_of a ∷ []) _ (unary_sets classes to.temp op to.class (operand_of a))
inst_turns classes (Binary to op a b) = no_turn to.temp (operand_of a ∷ operand_of b ∷ []) (binary_lines classes to.temp op to.class (operand_of a) (operand_of b)) (binary_sets classes to.temp op to.class (operand_of a) (operand_of b))
inst_turns classes (AllocInst to alignment size) = one_of turns_of (Alloc (Some to.temp) size)
inst_turns classes (StoreInst size a at) = one_of turns_of (Store size (operand_of a) (at_once (operand_of at)))
inst_turns classes (BlitInst from to count) = one_of turns_of (Blit (operand_of from) (operand_of to) count)
inst_turns classes (CallInst to callee args) = one_of turns_of (Call (option_map destination_of to) (operand_of callee) (map argument_of args))

copies_turns : (classes : Classes) (cs : List Assignment) → sum_by turns_of (assignment_lines classes cs) ≡ 0
copies_turns classes [] = refl
copies_turns classes (c ∷ cs) =
    let all = sum_by-append turns_of (copy_lines classes c.to.temp c.to.class (operand_of c.value)) (assignment_lines classes cs) in
    let one = no_turn c.to.temp (operand_of c.value ∷ []) _ (copy_sets classes c.to.temp c.to.class (operand_of c.value)) in
    let rest = copies_turns classes cs in
    omega (arith, all, one, rest)

tick_turns : (turn : Bool) (w : ℕ) → turns_of {P = ℕ} (Tick turn w) ≤ 1
tick_turns true w = omega arith
tick_turns false w = omega arith

ending_turns : (classes : Classes) (e : Ending) → sum_by turns_of (ending_lines classes e) ≤ 1
ending_turns classes e =
    let all = sum_by-cons turns_of (Tick e.turn e.weight) (assignment_lines classes e.copies) in
    let one = tick_turns e.turn e.weight in
    let rest = copies_turns classes e.copies in
    omega (arith, all, one, rest)

insts_turns : (classes : Classes) (insts : List (Lined Inst)) → sum_by turns_of (all_lines classes insts) ≡ length insts
insts_turns classes [] = refl
insts_turns classes (i ∷ insts) =
    let both = sum_by-append turns_of (turn_lines classes i) (all_lines classes insts) in
    let tick = sum_by-cons turns_of (Tick true (inst_weight i.item)) (inst_lines classes i.item) in
    let one = inst_turns classes i.item in
    let rest = insts_turns classes insts in
    omega (arith, both, tick, one, rest)

some_weight : (x : Inst) → 1 ≤ inst_weight x
some_weight (Unary to op a) = omega arith
some_weight (Binary to op a b) = omega arith
some_weight (AllocInst to alignment size) = omega arith
some_weight (StoreInst size a at) = omega arith
some_weight (BlitInst from to count) = omega arith
some_weight (CallInst to callee args) = omega arith

insts_weigh : (insts : List (Lined Inst)) → length insts ≤ sum_by (λ (i : Lined Inst). inst_weight i.item) insts
insts_weigh [] = omega arith
insts_weigh (i ∷ insts) =
    let all = sum_by-cons (λ (x : Lined Inst). inst_weight x.item) i insts in
    let one = some_weight i.item in
    let rest = insts_weigh insts in
    omega (arith, all, one, rest)

block_weighs : (bs : List Block) (b : Block) → Among b bs → length b.insts + 1 ≤ sum_by block_weight bs
block_weighs [] b a = absurd a
block_weighs (c ∷ bs) b (inl e) =
    let all = sum_by-cons block_weight c bs in
    let insts = insts_weigh c.insts in
    let same : length b.insts ≡ length c.insts = ap (λ (x : Block). length x.insts) e in
    omega (arith, all, insts, same)
block_weighs (c ∷ bs) b (inr a) =
    let all = sum_by-cons block_weight c bs in
    let rest = block_weighs bs b a in
    omega (arith, all, rest)

few_turns : (classes : Classes) (f : Func) → IsGoodFunction f → (b : Block) (e : Ending) → Among b f.blocks → sum_by turns_of (all_lines classes b.insts ++ ending_lines classes e) ≤ FUNCTION_WEIGHT
few_turns classes f good b e a =
    let heavy = leb-true (weight f) FUNCTION_WEIGHT (and_first (nat_le (weight f) FUNCTION_WEIGHT) _ good.limits) in
    let block = block_weighs f.blocks b a in
    let both = sum_by-append turns_of (all_lines classes b.insts) (ending_lines classes e) in
    let insts = insts_turns classes b.insts in
    let end = ending_turns classes e in
    omega (arith, heavy, block, both, insts, end)

abbrev is_paced : VirtualBlock ℕ → Bool
is_paced b = nat_le (sum_by turns_of b.lines) FUNCTION_WEIGHT

paced_blocks : (classes : Classes) (f : Func) (code : Endings) → IsGoodFunction f → IsLowered f code → list_all is_paced (blocks_of classes f.blocks code.endings ++ map (edge_of classes) code.edges) ≡ true
paced_blocks classes f code good is =
    blocks_all classes f is_paced (0 + length (all_edges f f.blocks)) 0 f.blocks code.endings (map (edge_of classes) code.edges) is.endings refl
    (λ b e m a h le. le-leb _ FUNCTION_WEIGHT (few_turns classes f good b e a))
    (edges_all classes f is_paced f.blocks code.edges is.edges (λ w e l h. let one = ending_turns classes e in le-leb _ FUNCTION_WEIGHT (omega (arith, one))))

-- ---- the arguments of calls

inst_few : (classes : Classes) (x : Inst) → has_few_args x ≡ true → list_all passes_few (inst_lines classes x) ≡ true
inst_few classes (Unary to op a) h = all_few to.temp (operand_of a ∷ []) _ (unary_sets classes to.temp op to.class (operand_of a))
inst_few classes (Binary to op a b) h = all_few to.temp (operand_of a ∷ operand_of b ∷ []) (binary_lines classes to.temp op to.class (operand_of a) (operand_of b)) (binary_sets classes to.temp op to.class (operand_of a) (operand_of b))
inst_few classes (AllocInst to alignment size) h = refl
inst_few classes (StoreInst size a at) h = refl
inst_few classes (BlitInst from to count) h = refl
inst_few classes (CallInst to callee args) h = and_from (nat_le (length (map argument_of args)) 64) true (ap (λ n. nat_le n 64) (length-map args argument_of) ∙ h) refl

all_both : (p : Line ℕ → Bool) (xs ys : List (Line ℕ)) → list_all p xs ≡ true → list_all p ys ≡ true → list_all p (xs ++ ys) ≡ true
all_both p [] ys h k = k
all_both p (x ∷ xs) ys h k = and_from (p x) (list_all p (xs ++ ys)) (and_first (p x) (list_all p xs) h) (all_both p xs ys (and_second (p x) (list_all p xs) h) k)

copies_few : (classes : Classes) (cs : List Assignment) → list_all passes_few (assignment_lines classes cs) ≡ true
copies_few classes [] = refl
copies_few classes (c ∷ cs) =
    all_both passes_few (copy_lines classes c.to.temp c.to.class (operand_of c.value)) (assignment_lines classes cs)
    (all_few c.to.temp (operand_of c.value ∷ []) _ (copy_sets classes c.to.temp c.to.class (operand_of c.value))) (copies_few classes cs)

insts_few : (classes : Classes) (insts : List (Lined Inst)) (rest : List (Line ℕ)) → list_all (λ (i : Lined Inst). has_few_args i.item) insts ≡ true → list_all passes_few rest ≡ true → list_all passes_few (all_lines classes insts ++ rest) ≡ true
insts_few classes [] rest h k = k
insts_few classes (i ∷ insts) rest h k =
    ap (list_all passes_few) (append_assoc (turn_lines classes i) (all_lines classes insts) rest)
    ∙ all_both passes_few (inst_lines classes i.item) (all_lines classes insts ++ rest)
    (inst_few classes i.item (and_first (has_few_args i.item) (list_all (λ (x : Lined Inst). has_few_args x.item) insts) h))
    (insts_few classes insts rest (and_second (has_few_args i.item) (list_all (λ (x : Lined Inst). has_few_args x.item) insts) h) k)

abbrev calls_few : Block → Bool
calls_few b = list_all (λ (i : Lined Inst). has_few_args i.item) b.insts

all_among : (p : Block → Bool) (bs : List Block) (b : Block) → list_all p bs ≡ true → Among b bs → p b ≡ true
all_among p [] b h a = absurd a
all_among p (c ∷ bs) b h (inl e) = ap p e ∙ and_first (p c) (list_all p bs) h
all_among p (c ∷ bs) b h (inr a) = all_among p bs b (and_second (p c) (list_all p bs) h) a

few_blocks : (classes : Classes) (f : Func) (code : Endings) → IsLowered f code → list_all calls_few f.blocks ≡ true → list_all (λ (b : VirtualBlock ℕ). list_all passes_few b.lines) (blocks_of classes f.blocks code.endings ++ map (edge_of classes) code.edges) ≡ true
few_blocks classes f code is h =
    blocks_all classes f (λ (b : VirtualBlock ℕ). list_all passes_few b.lines) (0 + length (all_edges f f.blocks)) 0 f.blocks code.endings (map (edge_of classes) code.edges) is.endings refl
    (λ b e m a d le. insts_few classes b.insts (ending_lines classes e) (all_among calls_few f.blocks b h a) (copies_few classes e.copies))
    (edges_all classes f (λ (b : VirtualBlock ℕ). list_all passes_few b.lines) f.blocks code.edges is.edges (λ w e l d. copies_few classes e.copies))

-- ---- the whole

calls_within : (f : Func) → IsGoodFunction f → list_all calls_few f.blocks ≡ true
calls_within f good =
    let behind_weight = and_second (nat_le (weight f) FUNCTION_WEIGHT) _ good.limits in
    let behind_temps = and_second (nat_le (length f.temps) 4000) _ behind_weight in
    let behind_params = and_second (nat_le (length f.params) 64) _ behind_temps in
    and_second (nat_le (alloc_area f) 1048576) _ behind_params

limits_of : (f : Func) → IsGoodFunction f → (length f.params ≤ 64) × (alloc_area f ≤ 1048576)
limits_of f good =
    let behind_weight = and_second (nat_le (weight f) FUNCTION_WEIGHT) _ good.limits in
    let behind_temps = and_second (nat_le (length f.temps) 4000) _ behind_weight in
    let behind_params = and_second (nat_le (length f.params) 64) _ behind_temps in
    (leb-true (length f.params) 64 (and_first (nat_le (length f.params) 64) _ behind_temps), leb-true (alloc_area f) 1048576 (and_first (nat_le (alloc_area f) 1048576) _ behind_params))

pub regular : (classes : Classes) (f : Func) (code : Endings) → IsGoodFunction f → IsLowered f code → IsRegular (selected classes f code)
unfolding selected
regular classes f code good is =
    let few = (limits_of f good).0 in
    let params : length (map parameter_of f.params) ≡ length f.params = length-map f.params parameter_of in
    let bytes = (limits_of f good).1 in
    let all = area_is classes f code is in
    record {
      few_params = le-leb (length (map parameter_of f.params)) 64 (omega (arith, few, params));
      inside = ap (λ n. list_all (λ (b : VirtualBlock ℕ). leads_inside n b.jump) (blocks_of classes f.blocks code.endings ++ map (edge_of classes) code.edges)) (total_is classes f code is) ∙ inside_blocks classes f code good is;
      first = allocs_are_first classes f code good is;
      small = le-leb _ 1048576 (omega (arith, bytes, all));
      paid = paid_blocks classes f code is;
      paced = paced_blocks classes f code good is;
      few_args = few_blocks classes f code is (calls_within f good);
    }

pub few_params : (f : Func) → IsGoodFunction f → length f.params ≤ 64
few_params f good = (limits_of f good).0
