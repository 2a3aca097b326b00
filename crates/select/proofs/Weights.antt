-- The code of a function of a good text weighs no more than the function: each copy of a phi is paid by an argument of the phi.
use Rattle.std.proofs.Common.{◌≡◌, inl, inr, ℕ, zero, suc, ◌+◌, ◌≤◌, Bool, true, false, cond, not, ◌&&◌, ◌||◌, nat_eq, nat_lt, List, [], ◌∷◌, ◌++◌, length, map, refl, sym, ◌∙◌, ap, subst, arith, slice_get, Option, Some, None}
use Rattle.std.specs.List.{list_all, sum_by, position_from}
use Rattle.std.proofs.lemmas.Iterator.Adapters.{position_from-zero}
use Rattle.std.proofs.lemmas.Bool.Decides.{nat_tests}
use Rattle.std.proofs.lemmas.List.Sums.{sum_by-cons, sum_by-append}
use Rattle.std.proofs.lemmas.Bool.{and_parts, not-false}
use Rattle.il_ast.specs.declared.instruction.Inst.{Inst}
use Rattle.il_ast.specs.declared.instruction.Inst.TheVariants.{Unary, Binary, Alloc as AllocInst, Store as StoreInst, Blit as BlitInst, Call as CallInst}
use Rattle.il_ast.specs.declared.instruction.Jump.{Jump}
use Rattle.il_ast.specs.declared.instruction.Jump.TheVariants.{Goto, Branch as BranchJump, Return, Halt}
use Rattle.il_ast.specs.declared.instruction.Lined.{Lined}
use Rattle.il_ast.specs.declared.operand.Val.{Val}
use Rattle.il_ast.specs.declared.block.Phi.{Phi}
use Rattle.il_ast.specs.declared.block.PhiArg.{PhiArg}
use Rattle.il_ast.specs.declared.block.Block.{Block}
use Rattle.il_ast.specs.declared.function.Func.{Func}
use Rattle.il_ast.specs.Prelude.{inst_weight, block_weight, weight}
use Rattle.il_types.specs.declared.site.Site.{Site}
use Rattle.il_types.specs.declared.rule.Rule.TheVariants.{DistinctLocals, PhiCoversPredecessors}
use Rattle.il_types.specs.Prelude.{when, first, times, goes_to, first_repeated, param_sites, label_sites, phi_sites, jumps_to, names_from, is_predecessor, covers, uncovered_in, jump_sites}
use Rattle.phi_copies.specs.declared.ending.Assignment.{Assignment}
use Rattle.phi_copies.specs.declared.ending.Ending.{Ending}
use Rattle.phi_copies.specs.Good.{IsGoodFunction}
use Rattle.phi_copies.specs.Copies.{phis_of, phis_at}
use Rattle.phi_copies.specs.Endings.{Endings}
use Rattle.phi_copies.specs.Lowered.{target, or_zero, Edge, edge, edge_with, straight_if, straight, jump_edges, end_edges, block_edges, all_edges, IsJumpEnding, IsEndEnding, IsBlockEnding, AreEndings, AreOnEdges, IsLowered}
use Rattle.vcode.specs.declared.place.Operand.{Operand}
use Rattle.vcode.specs.declared.line.Line.{Line}
use Rattle.vcode.specs.declared.line.Line.TheVariants.{Tick, Set, Operate, Load, Store, Alloc, Blit, Call}
use Rattle.vcode.specs.declared.code.Block.{Block as VirtualBlock}
use Rattle.vcode.specs.Prelude.{code_weight, weight_of}
use Rattle.select.specs.Selected.{operand_of, inst_lines, turn_lines, all_lines, copy_lines, unary_lines, binary_lines, assignment_lines, ending_lines, edge_of, blocks_of, selected}
use Rattle.select.specs.Typed.{Classes}
use Rattle.select.proofs.UsedPlaces.{Sets, copy_sets, unary_sets, binary_sets}
use Rattle.select.proofs.EachBlock.{IsTarget, is_target}
use Rattle.select.proofs.Sums.{total, one, sum_total, count_total, total_plus, total_both, total_less, total_ones, exchanged, at_most_once}
use Rattle.il_ast.proofs.Truth.{equal_turned}
use Rattle.phi_copies.proofs.PhiRules.{not_broken, neither_second, none_among}
use Rattle.phi_copies.proofs.Members.{Among}

-- ---- what lines weigh

sets_weigh : (t : ℕ) (xs : List (Operand ℕ)) (ls : List (Line ℕ)) → Sets t xs ls → sum_by weight_of ls ≡ 0
sets_weigh t xs [] s = refl
sets_weigh t xs (Tick turn w ∷ ls) s = absurd s
sets_weigh t xs (Set p a ∷ ls) s = let here = sum_by-cons weight_of (Set p a) ls in let rest = sets_weigh t xs ls s.2 in omega (arith, here, rest)
sets_weigh t xs (Operate p op a b ∷ ls) s = let here = sum_by-cons weight_of (Operate p op a b) ls in let rest = sets_weigh t xs ls s.3 in omega (arith, here, rest)
sets_weigh t xs (Load p op a ∷ ls) s = let here = sum_by-cons weight_of (Load p op a) ls in let rest = sets_weigh t xs ls s.2 in omega (arith, here, rest)
sets_weigh t xs (Store size a at ∷ ls) s = absurd s
sets_weigh t xs (Alloc p size ∷ ls) s = absurd s
sets_weigh t xs (Blit from to count ∷ ls) s = absurd s
sets_weigh t xs (Call to callee args ∷ ls) s = absurd s

inst_weighs : (classes : Classes) (x : Inst) → sum_by weight_of (inst_lines classes x) ≡ 0
inst_weighs classes (Unary to op a) = sets_weigh to.temp (operand_of a ∷ []) (unary_lines classes to.temp op to.class (operand_of a)) (unary_sets classes to.temp op to.class (operand_of a))
inst_weighs classes (Binary to op a b) = sets_weigh to.temp (operand_of a ∷ operand_of b ∷ []) (binary_lines classes to.temp op to.class (operand_of a) (operand_of b)) (binary_sets classes to.temp op to.class (operand_of a) (operand_of b))
inst_weighs classes (AllocInst to alignment size) = refl
inst_weighs classes (StoreInst size a at) = refl
inst_weighs classes (BlitInst from to count) = refl
inst_weighs classes (CallInst to callee args) = refl

insts_weigh : (classes : Classes) (insts : List (Lined Inst)) → sum_by weight_of (all_lines classes insts) ≡ sum_by (λ (i : Lined Inst). inst_weight i.item) insts
insts_weigh classes [] = refl
insts_weigh classes (i ∷ insts) =
    let whole : sum_by weight_of (turn_lines classes i ++ all_lines classes insts) ≡ sum_by weight_of (turn_lines classes i) + sum_by weight_of (all_lines classes insts) = sum_by-append weight_of (turn_lines classes i) (all_lines classes insts) in
    let tick : sum_by weight_of (turn_lines classes i) ≡ inst_weight i.item + sum_by weight_of (inst_lines classes i.item) = sum_by-cons weight_of (Tick true (inst_weight i.item)) (inst_lines classes i.item) in
    let lines = inst_weighs classes i.item in
    let rest = insts_weigh classes insts in
    let sums : sum_by (λ (k : Lined Inst). inst_weight k.item) (i ∷ insts) ≡ inst_weight i.item + sum_by (λ (k : Lined Inst). inst_weight k.item) insts = sum_by-cons (λ (k : Lined Inst). inst_weight k.item) i insts in
    omega (arith, whole, tick, lines, rest, sums)

copies_weigh : (classes : Classes) (cs : List Assignment) → sum_by weight_of (assignment_lines classes cs) ≡ 0
copies_weigh classes [] = refl
copies_weigh classes (c ∷ cs) =
    let whole = sum_by-append weight_of (copy_lines classes c.to.temp c.to.class (operand_of c.value)) (assignment_lines classes cs) in
    let here = sets_weigh c.to.temp (operand_of c.value ∷ []) (copy_lines classes c.to.temp c.to.class (operand_of c.value)) (copy_sets classes c.to.temp c.to.class (operand_of c.value)) in
    let rest = copies_weigh classes cs in
    omega (arith, whole, here, rest)

ending_weighs : (classes : Classes) (e : Ending) → sum_by weight_of (ending_lines classes e) ≡ e.weight
ending_weighs classes e =
    let tick : sum_by weight_of (ending_lines classes e) ≡ e.weight + sum_by weight_of (assignment_lines classes e.copies) = sum_by-cons weight_of (Tick e.turn e.weight) (assignment_lines classes e.copies) in
    let copies = copies_weigh classes e.copies in
    omega (arith, tick, copies)

-- ---- each block has a label of its own

times_label : (l : ℕ) (blocks : List Block) → times l (label_sites blocks) ≡ total (λ (c : Block). one (nat_eq l c.label)) blocks
times_label l blocks = count_total (λ (s : Site). nat_eq s.number l) (label_sites blocks) ∙ each blocks
  where
    each : (bs : List Block) → total (λ (s : Site). one (nat_eq s.number l)) (label_sites bs) ≡ total (λ (c : Block). one (nat_eq l c.label)) bs
    each [] = refl
    each (b ∷ bs) = ap (λ q. one q + total (λ (s : Site). one (nat_eq s.number l)) (label_sites bs)) (equal_turned b.label l) ∙ ap (λ n. one (nat_eq l b.label) + n) (each bs)

site_among : (blocks : List Block) (b : Block) → Among b blocks → Among (record { line = b.line; number = b.label }) (label_sites blocks)
site_among [] b a = absurd a
site_among (c ∷ blocks) b (inl e) = inl (ap (λ (x : Block). record { line = x.line; number = x.label }) e)
site_among (c ∷ blocks) b (inr a) = inr (site_among blocks b a)

own_label : (f : Func) → IsGoodFunction f → (l : ℕ) → total (λ (c : Block). one (nat_eq l c.label)) f.blocks ≤ 1
own_label f good l =
    at_most_once (λ (c : Block). nat_eq l c.label) f.blocks
    (λ b a same.
    let none = neither_second (first_repeated (param_sites f.params)) (first_repeated (label_sites f.blocks)) (good.rules DistinctLocals) in
    let once = not_broken (nat_lt 1 (times b.label (label_sites f.blocks))) b.line
    (none_among (λ (s : Site). when (nat_lt 1 (times s.number (label_sites f.blocks))) s.line) (label_sites f.blocks) (record { line = b.line; number = b.label }) none (site_among f.blocks b a)) in
    let few : times b.label (label_sites f.blocks) ≤ 1 = grind (arith, nat_tests) in
    let is : b.label ≡ l = grind (arith, nat_tests) in
    subst (λ n. total (λ (c : Block). one (nat_eq n c.label)) f.blocks ≤ 1) is (subst (λ n. n ≤ 1) (times_label b.label f.blocks) few))

-- ---- a block has no more predecessors than a phi of it has arguments

all_among : {A : Type 0} (test : A → Bool) (xs : List A) (x : A) → list_all test xs ≡ true → Among x xs → test x ≡ true
all_among test [] x h a = absurd a
all_among test (y ∷ xs) x h (inl e) = ap test e ∙ (and_parts (test y) (list_all test xs) h).0
all_among test (y ∷ xs) x h (inr a) = all_among test xs x (and_parts (test y) (list_all test xs) h).1 a

phi_covers : (f : Func) → IsGoodFunction f → (b : Block) (p : Phi) → Among b f.blocks → Among p b.phis → covers f.blocks b.label p.args ≡ true
phi_covers f good b p a there =
    let here = none_among (uncovered_in f.blocks) f.blocks b (good.rules PhiCoversPredecessors) a in
    not-false (covers f.blocks b.label p.args)
    (not_broken (not (covers f.blocks b.label p.args)) p.line
    (none_among (λ (q : Phi). when (not (covers f.blocks b.label q.args)) q.line) b.phis p (neither_second (first_repeated (phi_sites b.phis)) (first (λ (q : Phi). when (not (covers f.blocks b.label q.args)) q.line) b.phis) here) there))

named_once : (q : Bool) (n : ℕ) → (not q || nat_lt 0 n) ≡ true → one q ≤ n
named_once true n h = grind (arith, nat_tests)
named_once false n h = omega arith

predecessors_few : (f : Func) → IsGoodFunction f → (b : Block) (p : Phi) → Among b f.blocks → Among p b.phis → total (λ (c : Block). one (jumps_to b.label c.jump)) f.blocks ≤ length p.args
predecessors_few f good b p a there =
    let all = (and_parts (list_all (λ (x : PhiArg). nat_eq (names_from x.from p.args) 1 && is_predecessor f.blocks b.label x.from) p.args) _ (phi_covers f good b p a there)).1 in
    let named = total_less (λ (c : Block). one (jumps_to b.label c.jump)) (λ (c : Block). total (λ (x : PhiArg). one (nat_eq x.from c.label)) p.args) f.blocks
    (λ c h. subst (λ n. one (jumps_to b.label c.jump) ≤ n) (count_total (λ (x : PhiArg). nat_eq x.from c.label) p.args)
    (named_once (jumps_to b.label c.jump) (names_from c.label p.args) (all_among (λ (k : Block). not (jumps_to b.label k.jump) || nat_lt 0 (names_from k.label p.args)) f.blocks c all h))) in
    let turned = exchanged (λ (c : Block) (x : PhiArg). one (nat_eq x.from c.label)) f.blocks p.args in
    let few = total_less (λ (x : PhiArg). total (λ (c : Block). one (nat_eq x.from c.label)) f.blocks) (λ (x : PhiArg). 1) p.args (λ x h. own_label f good x.from) in
    let ones = total_ones p.args in
    omega (arith, named, turned, few, ones)

-- ---- the phis that a block copies are paid by their arguments

abbrev worth : Bool → ℕ → ℕ
worth q n = cond q n 0

-- how many phis the block b has, if block c may go there
abbrev copied : Block → Block → ℕ
copied c b = worth (jumps_to b.label c.jump) (length b.phis)

copies_paid : (f : Func) → IsGoodFunction f → (b : Block) → Among b f.blocks → total (λ (c : Block). copied c b) f.blocks ≤ total (λ (p : Phi). length p.args) b.phis
copies_paid f good b a = by b.phis (λ p h. predecessors_few f good b p a h)
  where
    none : (bs : List Block) → total (λ (c : Block). worth (jumps_to b.label c.jump) 0) bs ≡ 0
    none [] = refl
    none (c ∷ bs) = let rest = none bs in let here = zeros (jumps_to b.label c.jump) in omega (arith, rest, here)
      where
        zeros : (q : Bool) → worth q 0 ≡ 0
        zeros true = refl
        zeros false = refl

    split : (n : ℕ) (bs : List Block) → total (λ (c : Block). cond (jumps_to b.label c.jump) (suc n) 0) bs ≡ total (λ (c : Block). one (jumps_to b.label c.jump)) bs + total (λ (c : Block). cond (jumps_to b.label c.jump) n 0) bs
    split n [] = omega arith
    split n (c ∷ bs) = let rest = split n bs in let here = parts (jumps_to b.label c.jump) in omega (arith, rest, here)
      where
        parts : (q : Bool) → cond q (suc n) 0 ≡ one q + cond q n 0
        parts true = omega arith
        parts false = omega arith

    by : (ps : List Phi) → ((p : Phi) → Among p ps → total (λ (c : Block). one (jumps_to b.label c.jump)) f.blocks ≤ length p.args) → total (λ (c : Block). cond (jumps_to b.label c.jump) (length ps) 0) f.blocks ≤ total (λ (p : Phi). length p.args) ps
    by [] h = let zero_all = none f.blocks in omega (arith, zero_all)
    by (p ∷ ps) h =
        let parts = split (length ps) f.blocks in
        let here = h p (inl refl) in
        let rest = by ps (λ q a2. h q (inr a2)) in
        omega (arith, parts, here, rest)

-- ---- what a block's ending and edges weigh

record Found (p : Block → Bool) (i k : ℕ) (blocks : List Block) : Type 0 where
  place : ℕ
  block : Block
  is : k ≡ i + place
  there : slice_get blocks place ≡ Some block
  passes : p block ≡ true

found_there : (p : Block → Bool) (i k : ℕ) (blocks : List Block) → position_from p i blocks ≡ Some k → Found p i k blocks
found_there p i k [] h = absurd (let no : ⊥ = cc in no)
found_there p i k (b ∷ blocks) h = by (p b) refl h (found_there p (i + 1) k blocks)
  where
    by : (q : Bool) → p b ≡ q → cond q (Some i) (position_from p (i + 1) blocks) ≡ Some k → (position_from p (i + 1) blocks ≡ Some k → Found p (i + 1) k blocks) → Found p i k (b ∷ blocks)
    by true e g rest = let same : i ≡ k = cc in record { place = 0; block = b; is = omega (arith, same); there = refl; passes = e }
    by false e g rest =
        let r = rest g in
        let place = r.is in
        record { place = suc r.place; block = r.block; is = omega (arith, place); there = r.there; passes = r.passes }

one_of_them : (w : Block → ℕ) (blocks : List Block) (k : ℕ) (b : Block) → slice_get blocks k ≡ Some b → w b ≤ total w blocks
one_of_them w [] k b h = absurd (let no : ⊥ = cc in no)
one_of_them w (c ∷ blocks) zero b h = let same : c ≡ b = cc in subst (λ x. w x ≤ w c + total w blocks) same (omega arith)
one_of_them w (c ∷ blocks) (suc k) b h = let rest = one_of_them w blocks k b h in omega (arith, rest)

-- a target's phis
side : (f : Func) (l : ℕ) → IsTarget f l → length (phis_at f.blocks (target f.blocks l)) ≤ total (λ (b : Block). cond (nat_eq b.label l) (length b.phis) 0) f.blocks
side f l t =
    let r = found_there (λ (b : Block). nat_eq b.label l) 0 t.place f.blocks (sym (position_from-zero (λ (b : Block). nat_eq b.label l) f.blocks) ∙ t.is) in
    let place = r.is in
    let same : t.place ≡ r.place = omega (arith, place) in
    let phis : phis_at f.blocks (target f.blocks l) ≡ r.block.phis = ap (λ o. phis_at f.blocks (or_zero o)) t.is ∙ (ap (λ k. phis_at f.blocks k) same ∙ ap phis_of r.there) in
    let long : length (phis_at f.blocks (target f.blocks l)) ≡ length r.block.phis = ap (λ (ps : List Phi). length ps) phis in
    let here = one_of_them (λ (b : Block). cond (nat_eq b.label l) (length b.phis) 0) f.blocks r.place r.block r.there in
    let counted : cond (nat_eq r.block.label l) (length r.block.phis) 0 ≡ length r.block.phis = ap (λ q. cond q (length r.block.phis) 0) r.passes in
    omega (arith, long, here, counted)

implied : (p q : Bool) (n : ℕ) → (p ≡ true → q ≡ true) → cond p n 0 ≤ cond q n 0
implied true q n h = let same : cond q n 0 ≡ n = ap (λ x. cond x n 0) (h refl) in omega (arith, same)
implied false q n h = omega arith

-- one way that a block may go
way : (f : Func) (c : Block) (l : ℕ) → IsTarget f l → ((b : Block) → nat_eq b.label l ≡ true → jumps_to b.label c.jump ≡ true) → length (phis_at f.blocks (target f.blocks l)) ≤ total (λ (b : Block). copied c b) f.blocks
way f c l t goes =
    let here = side f l t in
    let less = total_less (λ (b : Block). cond (nat_eq b.label l) (length b.phis) 0) (λ (b : Block). copied c b) f.blocks (λ b a. implied (nat_eq b.label l) (jumps_to b.label c.jump) (length b.phis) (goes b)) in
    omega (arith, here, less)

either_way : (a n o k : ℕ) → nat_eq n o ≡ false → cond (nat_eq a n) k 0 + cond (nat_eq a o) k 0 ≤ cond (nat_eq a n || nat_eq a o) k 0
either_way a n o k differ = by (nat_eq a n) (nat_eq a o) refl refl
  where
    by : (p q : Bool) → nat_eq a n ≡ p → nat_eq a o ≡ q → cond p k 0 + cond q k 0 ≤ cond (p || q) k 0
    by true true h j = absurd (let no : ⊥ = grind (arith, nat_tests) in no)
    by true false h j = omega arith
    by false true h j = omega arith
    by false false h j = omega arith

-- what the ending on an edge weighs
abbrev edge_weight : Func → Edge → ℕ
edge_weight f w = length (phis_at f.blocks w.to)

edge_total : (f : Func) (from k : ℕ) (ps : List Phi) → phis_at f.blocks k ≡ ps → total (edge_weight f) (edge_with from k ps) ≡ length ps
edge_total f from k [] e = refl
edge_total f from k (p ∷ ps) e = let many : length (phis_at f.blocks k) ≡ suc (length ps) = ap length e in omega (arith, many)

leaving : (f : Func) → IsGoodFunction f → (c : Block) → Among c f.blocks → (n : ℕ) (d : Ending) → IsBlockEnding f n c d → d.weight + total (edge_weight f) (block_edges f c) ≤ 1 + total (λ (b : Block). copied c b) f.blocks
leaving f good c a n d is = by_end c.jump refl is
  where
    jumps : (j : Lined Jump) (x : Jump) (b : Block) → c.jump ≡ Some j → j.item ≡ x → jumps_to b.label c.jump ≡ goes_to b.label x
    jumps j x b e i = ap (jumps_to b.label) e ∙ ap (goes_to b.label) i

    by_ways : (j : Lined Jump) (on : Val) (nonzero otherwise : ℕ) (q : Bool) → c.jump ≡ Some j → j.item ≡ BranchJump on nonzero otherwise → nat_eq nonzero otherwise ≡ q → IsJumpEnding f c.label n (straight_if q on nonzero otherwise) d → d.weight + total (edge_weight f) (jump_edges f c.label (straight_if q on nonzero otherwise)) ≤ 1 + total (λ (b : Block). copied c b) f.blocks
    by_ways j on nonzero otherwise true e i same is_end =
        let weighs = ap (λ (x : Ending). x.weight) is_end.0 in
        let t = is_target f good c j nonzero j.line a e (subst (λ y. Among (record { line = j.line; number = nonzero }) (jump_sites j.line y)) (sym i) (inl refl)) in
        let here = way f c nonzero t (λ b h. jumps j (BranchJump on nonzero otherwise) b e i ∙ ap (λ q. q || nat_eq b.label otherwise) h) in
        omega (arith, here, weighs)
    by_ways j on nonzero otherwise false e i differ is_end =
        let weighs = ap (λ (x : Ending). x.weight) is_end in
        let t1 = is_target f good c j nonzero j.line a e (subst (λ y. Among (record { line = j.line; number = nonzero }) (jump_sites j.line y)) (sym i) (inl refl)) in
        let t2 = is_target f good c j otherwise j.line a e (subst (λ y. Among (record { line = j.line; number = otherwise }) (jump_sites j.line y)) (sym i) (inr (inl refl))) in
        let one_side = side f nonzero t1 in
        let other_side = side f otherwise t2 in
        let both = total_plus (λ (b : Block). cond (nat_eq b.label nonzero) (length b.phis) 0) (λ (b : Block). cond (nat_eq b.label otherwise) (length b.phis) 0) f.blocks in
        let less = total_less (λ (b : Block). cond (nat_eq b.label nonzero) (length b.phis) 0 + cond (nat_eq b.label otherwise) (length b.phis) 0) (λ (b : Block). copied c b) f.blocks
        (λ b h. subst (λ q. cond (nat_eq b.label nonzero) (length b.phis) 0 + cond (nat_eq b.label otherwise) (length b.phis) 0 ≤ cond q (length b.phis) 0) (sym (jumps j (BranchJump on nonzero otherwise) b e i)) (either_way b.label nonzero otherwise (length b.phis) differ)) in
        let edges = total_both (edge_weight f) (edge f c.label (target f.blocks nonzero)) (edge f c.label (target f.blocks otherwise)) in
        let first_edge = edge_total f c.label (target f.blocks nonzero) (phis_at f.blocks (target f.blocks nonzero)) refl in
        let second_edge = edge_total f c.label (target f.blocks otherwise) (phis_at f.blocks (target f.blocks otherwise)) refl in
        omega (arith, one_side, other_side, both, less, edges, first_edge, second_edge, weighs)

    by_jump : (j : Lined Jump) (x : Jump) → c.jump ≡ Some j → j.item ≡ x → IsJumpEnding f c.label n (straight x) d → d.weight + total (edge_weight f) (jump_edges f c.label (straight x)) ≤ 1 + total (λ (b : Block). copied c b) f.blocks
    by_jump j (Goto l) e i is_end =
        let weighs = ap (λ (x : Ending). x.weight) is_end.0 in
        let t = is_target f good c j l j.line a e (subst (λ y. Among (record { line = j.line; number = l }) (jump_sites j.line y)) (sym i) (inl refl)) in
        let here = way f c l t (λ b h. jumps j (Goto l) b e i ∙ h) in
        omega (arith, here, weighs)
    by_jump j (BranchJump on nonzero otherwise) e i is_end = by_ways j on nonzero otherwise (nat_eq nonzero otherwise) e i refl is_end
    by_jump j (Return v) e i is_end = let weighs = ap (λ (x : Ending). x.weight) is_end in omega (arith, weighs)
    by_jump j Halt e i is_end = let weighs = ap (λ (x : Ending). x.weight) is_end in omega (arith, weighs)

    by_end : (jo : Option (Lined Jump)) → c.jump ≡ jo → IsEndEnding f c.label n jo d → d.weight + total (edge_weight f) (end_edges f c.label jo) ≤ 1 + total (λ (b : Block). copied c b) f.blocks
    by_end None e is_end = let weighs = ap (λ (x : Ending). x.weight) is_end in omega (arith, weighs)
    by_end (Some j) e is_end = by_jump j j.item e refl is_end

-- ---- the whole

abbrev lines_of : VirtualBlock ℕ → ℕ
lines_of b = sum_by weight_of b.lines

edges_total : (classes : Classes) (f : Func) (ws : List Edge) (es : List Ending) → AreOnEdges f ws es → total lines_of (map (edge_of classes) es) ≡ total (edge_weight f) ws
edges_total classes f [] [] are = refl
edges_total classes f [] (e ∷ es) are = absurd are
edges_total classes f (w ∷ ws) [] are = absurd are
edges_total classes f (w ∷ ws) (e ∷ es) are =
    let here = ending_weighs classes e in
    let weighs = ap (λ (x : Ending). x.weight) are.0.0 in
    let rest = edges_total classes f ws es are.1 in
    omega (arith, here, weighs, rest)

-- a block's own, without phis and its jump
abbrev insts_of : Block → ℕ
insts_of b = 1 + sum_by (λ (i : Lined Inst). inst_weight i.item) b.insts

blocks_total : (classes : Classes) (f : Func) → IsGoodFunction f → (number : ℕ) (bs : List Block) (es : List Ending) → AreEndings f number bs es → ((b : Block) → Among b bs → Among b f.blocks)
    → total lines_of (blocks_of classes bs es) + total (edge_weight f) (all_edges f bs) ≤ total insts_of bs + total (λ (c : Block). total (λ (b : Block). copied c b) f.blocks) bs
blocks_total classes f good number [] es are sub = omega arith
blocks_total classes f good number (c ∷ bs) [] are sub = absurd are
blocks_total classes f good number (c ∷ bs) (e ∷ es) are sub =
    let lines = sum_by-append weight_of (all_lines classes c.insts) (ending_lines classes e) in
    let insts = insts_weigh classes c.insts in
    let ends = ending_weighs classes e in
    let edges = total_both (edge_weight f) (block_edges f c) (all_edges f bs) in
    let here = leaving f good c (sub c (inl refl)) number e are.0 in
    let rest = blocks_total classes f good (number + length (block_edges f c)) bs es are.1 (λ b a. sub b (inr a)) in
    omega (arith, lines, insts, ends, edges, here, rest)

paid_all : (f : Func) → IsGoodFunction f → total insts_of f.blocks + total (λ (c : Block). total (λ (b : Block). copied c b) f.blocks) f.blocks ≤ total block_weight f.blocks
paid_all f good =
    let turned = exchanged (λ (c : Block) (b : Block). copied c b) f.blocks f.blocks in
    let paid = total_less (λ (b : Block). total (λ (c : Block). copied c b) f.blocks) (λ (b : Block). total (λ (p : Phi). length p.args) b.phis) f.blocks (λ b a. copies_paid f good b a) in
    let both = total_plus insts_of (λ (b : Block). total (λ (p : Phi). length p.args) b.phis) f.blocks in
    let less = total_less (λ (b : Block). insts_of b + total (λ (p : Phi). length p.args) b.phis) block_weight f.blocks
    (λ b a. let same = sum_total (λ (p : Phi). length p.args) b.phis in omega (arith, same)) in
    omega (arith, turned, paid, both, less)

pub weighs_no_more : (classes : Classes) (f : Func) (code : Endings) → IsGoodFunction f → IsLowered f code → code_weight (selected classes f code) ≤ weight f
unfolding selected
weighs_no_more classes f code good is =
    let sums = sum_total lines_of (blocks_of classes f.blocks code.endings ++ map (edge_of classes) code.edges) in
    let both = total_both lines_of (blocks_of classes f.blocks code.endings) (map (edge_of classes) code.edges) in
    let edges = edges_total classes f (all_edges f f.blocks) code.edges is.edges in
    let blocks = blocks_total classes f good 0 f.blocks code.endings is.endings (λ b a. a) in
    let paid = paid_all f good in
    let weights = sum_total block_weight f.blocks in
    omega (arith, sums, both, edges, blocks, paid, weights)
