-- The virtual code of a lowered function of a good text names registers below its count, and its parameters have low ones of their own.
use Rattle.std.proofs.Common.{◌≡◌, ℕ, ◌+◌, ◌<◌, Bool, true, not, nat_eq, ◌&&◌, List, [], ◌∷◌, ◌++◌, length, map, refl, sym, ◌∙◌, ap, subst, arith, ◌⊎◌, inl, inr, false, Option, Some, None}
use Rattle.std.specs.List.{list_all, flat_map}
use Rattle.std.proofs.lemmas.Bool.Decides.{nat_tests}
use Rattle.std.proofs.lemmas.Bool.{not-false, or_cases, and_from}
use Rattle.il_ast.specs.declared.operation.Class.{Class}
use Rattle.il_ast.specs.declared.operation.Class.TheVariants.{W, L}
use Rattle.il_ast.specs.declared.operation.Condition.{Condition}
use Rattle.il_ast.specs.declared.operation.Condition.TheVariants.{NotEqual}
use Rattle.il_ast.specs.declared.operand.Val.{Val}
use Rattle.il_ast.specs.declared.operand.Val.TheVariants.{Int, Temp, Global}
use Rattle.il_ast.specs.declared.operand.Arg.{Arg}
use Rattle.il_ast.specs.declared.instruction.Inst.{Inst}
use Rattle.il_ast.specs.declared.instruction.Inst.TheVariants.{Unary, Binary, Alloc as AllocInst, Store as StoreInst, Blit as BlitInst, Call as CallInst}
use Rattle.il_ast.specs.declared.instruction.Jump.{Jump}
use Rattle.il_ast.specs.declared.instruction.Jump.TheVariants.{Goto, Branch, Return, Halt}
use Rattle.il_ast.specs.declared.instruction.Lined.{Lined}
use Rattle.il_ast.specs.declared.block.Block.{Block}
use Rattle.il_ast.specs.declared.function.Param.{Param}
use Rattle.il_ast.specs.declared.function.Func.{Func}
use Rattle.il_ast.specs.Prelude.{phi_count, operand_class, left_class, right_class, stored_class}
use Rattle.il_types.specs.declared.rule.Rule.TheVariants.{DefinedTemporaries}
use Rattle.il_types.specs.declared.site.Definer.{Definer}
use Rattle.il_types.specs.declared.site.Operand.{Operand as Reading}
use Rattle.il_types.specs.Prelude.{when, first, definer, param_definers, phi_definers, inst_definers, block_definers, definers_of, operand_at, phi_operands, inst_operands, arg_operands, jump_operands, end_operands, block_operands, operands_of, is_given, is_defined, in_returns, returned_breaks, breaks_in, value_returned}
use Rattle.phi_copies.specs.declared.ending.Assignment.{Assignment}
use Rattle.phi_copies.specs.declared.ending.Ending.{Ending}
use Rattle.phi_copies.specs.Good.{IsGoodFunction}
use Rattle.phi_copies.specs.Copies.{ValueBelow, CopiesBelow}
use Rattle.phi_copies.specs.Endings.{Endings}
use Rattle.phi_copies.specs.Lowered.{Edge, target, all_edges, straight, straight_if, IsGoto, IsJumpEnding, IsEndEnding, IsBlockEnding, IsOnEdge, IsLowered}
use Rattle.vcode.specs.declared.place.Operand.{Operand}
use Rattle.vcode.specs.declared.place.Operand.TheVariants.{At, Number, Name}
use Rattle.vcode.specs.declared.place.Argument.{Argument}
use Rattle.vcode.specs.declared.line.Comparison.{Comparison}
use Rattle.vcode.specs.Prelude.{operand_keeps, line_keeps, jump_keeps, block_keeps, keeps_places, is_below}
use Rattle.select.specs.Selected.{are_whole, word, words_compared, comparison_of, operand_of, argument_of, inst_lines, turn_lines, all_lines, copy_lines, assignment_lines, ending_lines, jump_of, block_of, edge_of, blocks_of, parameter_of, selected, binary_lines}
use Rattle.select.specs.Typed.{Classes}
use Rattle.select.proofs.Typing.{assigned_own}
use Rattle.select.proofs.LoweredTyping.{own_temps, param_among}
use Rattle.select.proofs.EachBlock.{blocks_all, edges_all}
use Rattle.select.proofs.UsedPlaces.{AllKeep, copy_sets, unary_sets, binary_sets, sets_keep}
use Rattle.il_ast.proofs.Listed.{all_append}
use Rattle.phi_copies.proofs.PhiRules.{not_broken, neither_first, neither_second, none_among}
use Rattle.phi_copies.proofs.Members.{Among, among_left, among_right}

-- how many registers there are: one for each temporary, and one for each phi
abbrev pub registers : Func → ℕ
registers f = length f.temps + phi_count f

abbrev pub Below : Func → ℕ → Bool
Below f = is_below (registers f)

below : (f : Func) (n : ℕ) → n < registers f → Below f n ≡ true
below f n h = grind (arith, nat_tests)

own_below : (f : Func) (n : ℕ) → n < length f.temps → Below f n ≡ true
own_below f n h = below f n (omega (arith, h))

-- ---- operands

defined_keeps : (f : Func) (a : Val) → is_defined (definers_of f) a ≡ true → operand_keeps (Below f) (operand_of a) ≡ true
defined_keeps f (Int n) h = refl
defined_keeps f (Global g) h = refl
defined_keeps f (Temp t) h = by (or_cases (is_given W t (definers_of f)) (is_given L t (definers_of f)) h)
  where
    by : (is_given W t (definers_of f) ≡ true) ⊎ (is_given L t (definers_of f) ≡ true) → Below f t ≡ true
    by (inl e) = own_below f t (assigned_own f (own_temps f) W t e)
    by (inr e) = own_below f t (assigned_own f (own_temps f) L t e)

reading_keeps : (f : Func) → IsGoodFunction f → (o : Reading) → Among o (operands_of f) → operand_keeps (Below f) (operand_of o.value) ≡ true
reading_keeps f good o a =
    let all = neither_first (first (λ (x : Reading). when (not (is_defined (definers_of f) x.value)) x.line) (operands_of f)) (in_returns (λ v. not (is_defined (definers_of f) v)) f.blocks) (good.rules DefinedTemporaries) in
    defined_keeps f o.value
    (not-false (is_defined (definers_of f) o.value) (not_broken (not (is_defined (definers_of f) o.value)) o.line (none_among (λ (x : Reading). when (not (is_defined (definers_of f) x.value)) x.line) (operands_of f) o all a)))

-- ---- instructions

-- what an instruction defines and reads, the function does
pub record Within (f : Func) (line : ℕ) (x : Inst) : Type 0 where
  pub defines : (d : Definer) → Among d (inst_definers (record { line = line; item = x })) → d.temp < length f.temps
  pub reads_all : (o : Reading) → Among o (inst_operands (record { line = line; item = x })) → operand_keeps (Below f) (operand_of o.value) ≡ true

only : (test : ℕ → Bool) (a : Operand ℕ) → operand_keeps test a ≡ true → AllKeep test (a ∷ [])
only test a h b (inl e) = ap (operand_keeps test) e ∙ h
only test a h b (inr m) = absurd m

two : (test : ℕ → Bool) (a c : Operand ℕ) → operand_keeps test a ≡ true → operand_keeps test c ≡ true → AllKeep test (a ∷ c ∷ [])
two test a c h k b (inl e) = ap (operand_keeps test) e ∙ h
two test a c h k b (inr (inl e)) = ap (operand_keeps test) e ∙ k
two test a c h k b (inr (inr m)) = absurd m

args_keep : (f : Func) (line : ℕ) (args : List Arg) → ((o : Reading) → Among o (arg_operands line args) → operand_keeps (Below f) (operand_of o.value) ≡ true) → list_all (λ (a : Argument ℕ). operand_keeps (Below f) a.value) (map argument_of args) ≡ true
args_keep f line [] each = refl
args_keep f line (a ∷ args) each =
    and_from (operand_keeps (Below f) (operand_of a.value)) _ (each (operand_at line a.class a.value) (inl refl)) (args_keep f line args (λ o h. each o (inr h)))

inst_keeps : (classes : Classes) (f : Func) (line : ℕ) (x : Inst) → Within f line x → list_all (line_keeps (Below f)) (inst_lines classes x) ≡ true
inst_keeps classes f line (Unary to op a) w =
    sets_keep (Below f) to.temp (operand_of a ∷ []) _ (own_below f to.temp (w.defines (definer line to) (inl refl)))
    (only (Below f) (operand_of a) (w.reads_all (operand_at line (operand_class op to.class) a) (inl refl))) (unary_sets classes to.temp op to.class (operand_of a))
inst_keeps classes f line (Binary to op a b) w =
    sets_keep (Below f) to.temp (operand_of a ∷ operand_of b ∷ []) (binary_lines classes to.temp op to.class (operand_of a) (operand_of b)) (own_below f to.temp (w.defines (definer line to) (inl refl)))
    (two (Below f) (operand_of a) (operand_of b) (w.reads_all (operand_at line (left_class op to.class) a) (inl refl)) (w.reads_all (operand_at line (right_class op to.class) b) (inr (inl refl))))
    (binary_sets classes to.temp op to.class (operand_of a) (operand_of b))
inst_keeps classes f line (AllocInst to alignment size) w = ap (λ b. b && true) (own_below f to.temp (w.defines (definer line to) (inl refl)))
inst_keeps classes f line (StoreInst size a at) w =
    and_from (operand_keeps (Below f) (operand_of a) && operand_keeps (Below f) (operand_of at)) true
    (and_from _ _ (w.reads_all (operand_at line (stored_class size) a) (inl refl)) (w.reads_all (operand_at line L at) (inr (inl refl)))) refl
inst_keeps classes f line (BlitInst from to count) w =
    and_from (operand_keeps (Below f) (operand_of from) && operand_keeps (Below f) (operand_of to)) true
    (and_from _ _ (w.reads_all (operand_at line L from) (inl refl)) (w.reads_all (operand_at line L to) (inr (inl refl)))) refl
inst_keeps classes f line (CallInst None callee args) w =
    and_from (operand_keeps (Below f) (operand_of callee) && list_all (λ (a : Argument ℕ). operand_keeps (Below f) a.value) (map argument_of args)) true
    (and_from _ _ (w.reads_all (operand_at line L callee) (inl refl)) (args_keep f line args (λ o h. w.reads_all o (inr h)))) refl
inst_keeps classes f line (CallInst (Some to) callee args) w =
    and_from (Below f to.temp && (operand_keeps (Below f) (operand_of callee) && list_all (λ (a : Argument ℕ). operand_keeps (Below f) a.value) (map argument_of args))) true
    (and_from _ _ (own_below f to.temp (w.defines (definer line to) (inl refl)))
    (and_from _ _ (w.reads_all (operand_at line L callee) (inl refl)) (args_keep f line args (λ o h. w.reads_all o (inr h))))) refl

-- ---- the instructions of a block

flat_among : {A B : Type 0} (g : A → List B) (xs : List A) (x : A) (y : B) → Among x xs → Among y (g x) → Among y (flat_map g xs)
flat_among g [] x y a h = absurd a
flat_among g (z ∷ xs) x y (inl e) h = among_left y (g z) (flat_map g xs) (subst (λ v. Among y (g v)) e h)
flat_among g (z ∷ xs) x y (inr a) h = among_right y (g z) (flat_map g xs) (flat_among g xs x y a h)

pub within : (f : Func) → IsGoodFunction f → (b : Block) (i : Lined Inst) → Among b f.blocks → Among i b.insts → Within f i.line i.item
within f good b i here at =
    record {
      defines = λ d a. own_temps f d
          (among_right d (flat_map param_definers f.params) (flat_map block_definers f.blocks)
          (flat_among block_definers f.blocks b d here (among_right d (flat_map phi_definers b.phis) (flat_map inst_definers b.insts) (flat_among inst_definers b.insts i d at a))));
      reads_all = λ o a. reading_keeps f good o
          (flat_among block_operands f.blocks b o here
          (among_right o (flat_map phi_operands b.phis) (flat_map inst_operands b.insts ++ end_operands b.jump)
          (among_left o (flat_map inst_operands b.insts) (end_operands b.jump) (flat_among inst_operands b.insts i o at a))));
    }

insts_keep : (classes : Classes) (f : Func) → IsGoodFunction f → (b : Block) → Among b f.blocks → (insts : List (Lined Inst)) → ((i : Lined Inst) → Among i insts → Among i b.insts) → list_all (line_keeps (Below f)) (all_lines classes insts) ≡ true
insts_keep classes f good b here [] sub = refl
insts_keep classes f good b here (i ∷ insts) sub =
    all_append (line_keeps (Below f)) (turn_lines classes i) (all_lines classes insts) (inst_keeps classes f i.line i.item (within f good b i here (sub i (inl refl))))
    (insts_keep classes f good b here insts (λ j a. sub j (inr a)))

-- ---- copies

pub record CopyKeeps (f : Func) (c : Assignment) : Type 0 where
  pub to : c.to.temp < registers f
  pub value : operand_keeps (Below f) (operand_of c.value) ≡ true

abbrev pub AllCopies : Func → List Assignment → Type 0
AllCopies f [] = Unit {0}
AllCopies f (c ∷ cs) = CopyKeeps f c × AllCopies f cs

assignments_keep : (classes : Classes) (f : Func) (cs : List Assignment) → AllCopies f cs → list_all (line_keeps (Below f)) (assignment_lines classes cs) ≡ true
assignments_keep classes f [] h = refl
assignments_keep classes f (c ∷ cs) h =
    all_append (line_keeps (Below f)) (copy_lines classes c.to.temp c.to.class (operand_of c.value)) (assignment_lines classes cs)
    (sets_keep (Below f) c.to.temp (operand_of c.value ∷ []) _ (below f c.to.temp h.0.to) (only (Below f) (operand_of c.value) h.0.value) (copy_sets classes c.to.temp c.to.class (operand_of c.value)))
    (assignments_keep classes f cs h.1)

-- what is below the count of registers
value_keeps : (f : Func) (a : Val) → ValueBelow (registers f) a → operand_keeps (Below f) (operand_of a) ≡ true
value_keeps f (Int n) h = refl
value_keeps f (Temp t) h = below f t h
value_keeps f (Global g) h = refl

copies_keep : (f : Func) (cs : List Assignment) → CopiesBelow (registers f) cs → AllCopies f cs
copies_keep f [] h = tt
copies_keep f (c ∷ cs) h = (record { to = h.0; value = value_keeps f c.value h.1 }, copies_keep f cs h.2)

-- ---- jumps

return_keeps : (f : Func) → IsGoodFunction f → (b : Block) (j : Lined Jump) (x : Val) → Among b f.blocks → b.jump ≡ Some j → j.item ≡ Return (Some x) → operand_keeps (Below f) (operand_of x) ≡ true
return_keeps f good b j x a jump item =
    let all = neither_second (first (λ (o : Reading). when (not (is_defined (definers_of f) o.value)) o.line) (operands_of f)) (in_returns (λ v. not (is_defined (definers_of f) v)) f.blocks) (good.rules DefinedTemporaries) in
    defined_keeps f x
    (not-false (is_defined (definers_of f) x)
    (not_broken (not (is_defined (definers_of f) x)) j.line
    (sym (ap (returned_breaks (λ v. not (is_defined (definers_of f) v))) jump ∙ ap (λ y. breaks_in (λ v. not (is_defined (definers_of f) v)) j.line (value_returned y)) item)
    ∙ none_among (λ (c : Block). returned_breaks (λ v. not (is_defined (definers_of f) v)) c.jump) f.blocks b all a)))

-- an operand's word is in no other register
word_keeps : (test : ℕ → Bool) (a : Operand ℕ) → operand_keeps test a ≡ true → operand_keeps test (word a) ≡ true
word_keeps test (At p) h = h
word_keeps test (Number n) h = refl
word_keeps test (Name g) h = refl

abbrev BothKeep : (ℕ → Bool) → Comparison ℕ → Type 0
BothKeep test c = (operand_keeps test c.left && operand_keeps test c.right) ≡ true

comparison_keeps : (classes : Classes) (test : ℕ → Bool) (on : Condition) (k : Class) (a b : Operand ℕ) → operand_keeps test a ≡ true → operand_keeps test b ≡ true → BothKeep test (comparison_of classes on k a b)
comparison_keeps classes test on L a b h j = and_from (operand_keeps test a) (operand_keeps test b) h j
comparison_keeps classes test on W a b h j = by (are_whole classes a b)
  where
    by : (whole : Bool) → BothKeep test (words_compared on a b whole)
    by true = and_from (operand_keeps test (word a)) (operand_keeps test (word b)) (word_keeps test a h) (word_keeps test b j)
    by false = and_from (operand_keeps test a) (operand_keeps test b) h j

-- the copies and the jump of an ending
pub record EndingKeeps (classes : Classes) (f : Func) (e : Ending) : Type 0 where
  pub copies : AllCopies f e.copies
  pub leaves : jump_keeps (Below f) (jump_of classes e.leave) ≡ true

goto_keeps : (classes : Classes) (f : Func) (from k : ℕ) (e : Ending) → IsGoto f from k e → EndingKeeps classes f e
goto_keeps classes f from k e is = subst (EndingKeeps classes f) (sym is.0) (record { copies = copies_keep f e.copies is.1.below; leaves = refl })

jump_ending_keeps : (classes : Classes) (f : Func) → IsGoodFunction f → (b : Block) (j : Lined Jump) (x : Jump) (m : ℕ) (d : Ending) → Among b f.blocks → b.jump ≡ Some j → j.item ≡ x → IsJumpEnding f b.label m (straight x) d → EndingKeeps classes f d
jump_ending_keeps classes f good b j (Goto l) m d a e i is = goto_keeps classes f b.label (target f.blocks l) d is
jump_ending_keeps classes f good b j (Branch on nonzero otherwise) m d a e i is = by_ways (nat_eq nonzero otherwise) is
  where
    by_ways : (q : Bool) → IsJumpEnding f b.label m (straight_if q on nonzero otherwise) d → EndingKeeps classes f d
    by_ways true h = goto_keeps classes f b.label (target f.blocks nonzero) d h
    by_ways false h =
        subst (EndingKeeps classes f) (sym h)
        (record {
          copies = tt;
          leaves = comparison_keeps classes (Below f) NotEqual W (operand_of on) (Number 0)
              (reading_keeps f good (operand_at j.line W on)
              (flat_among block_operands f.blocks b _ a
              (among_right _ (flat_map phi_operands b.phis) (flat_map inst_operands b.insts ++ end_operands b.jump)
              (among_right _ (flat_map inst_operands b.insts) (end_operands b.jump)
              (subst (λ o. Among (operand_at j.line W on) (end_operands o)) (sym e) (subst (λ y. Among (operand_at j.line W on) (jump_operands j.line y)) (sym i) (inl refl)))))))
              refl;
        })
jump_ending_keeps classes f good b j (Return None) m d a e i is = subst (EndingKeeps classes f) (sym is) (record { copies = tt; leaves = refl })
jump_ending_keeps classes f good b j (Return (Some x)) m d a e i is = subst (EndingKeeps classes f) (sym is) (record { copies = tt; leaves = return_keeps f good b j x a e i })
jump_ending_keeps classes f good b j Halt m d a e i is = subst (EndingKeeps classes f) (sym is) (record { copies = tt; leaves = refl })

pub end_ending_keeps : (classes : Classes) (f : Func) → IsGoodFunction f → (b : Block) (j : Option (Lined Jump)) (m : ℕ) (d : Ending) → Among b f.blocks → b.jump ≡ j → IsEndEnding f b.label m j d → EndingKeeps classes f d
end_ending_keeps classes f good b None m d a e is = subst (EndingKeeps classes f) (sym is) (record { copies = tt; leaves = refl })
end_ending_keeps classes f good b (Some j) m d a e is = jump_ending_keeps classes f good b j j.item m d a e refl is

pub on_edge_keeps : (classes : Classes) (f : Func) (w : Edge) (e : Ending) → IsOnEdge f w e → EndingKeeps classes f e
on_edge_keeps classes f w e is = subst (EndingKeeps classes f) (sym is.0) (record { copies = copies_keep f e.copies is.1.below; leaves = refl })

-- ---- blocks

block_of_keeps : (classes : Classes) (f : Func) → IsGoodFunction f → (b : Block) (e : Ending) (m : ℕ) → Among b f.blocks → IsBlockEnding f m b e → block_keeps (Below f) (block_of classes b e) ≡ true
block_of_keeps classes f good b e m a is =
    let k = end_ending_keeps classes f good b b.jump m e a refl is in
    and_from (list_all (line_keeps (Below f)) (all_lines classes b.insts ++ ending_lines classes e)) _
    (all_append (line_keeps (Below f)) (all_lines classes b.insts) (ending_lines classes e) (insts_keep classes f good b a b.insts (λ i h. h)) (assignments_keep classes f e.copies k.copies))
    k.leaves

edge_of_keeps : (classes : Classes) (f : Func) (w : Edge) (e : Ending) → IsOnEdge f w e → block_keeps (Below f) (edge_of classes e) ≡ true
edge_of_keeps classes f w e is =
    let k = on_edge_keeps classes f w e is in
    and_from (list_all (line_keeps (Below f)) (ending_lines classes e)) _ (assignments_keep classes f e.copies k.copies) k.leaves

blocks_keep : (classes : Classes) (f : Func) (code : Endings) → IsGoodFunction f → IsLowered f code → list_all (block_keeps (Below f)) (blocks_of classes f.blocks code.endings ++ map (edge_of classes) code.edges) ≡ true
blocks_keep classes f code good is =
    blocks_all classes f (block_keeps (Below f)) (0 + length (all_edges f f.blocks)) 0 f.blocks code.endings (map (edge_of classes) code.edges) is.endings refl
    (λ b e m a h le. block_of_keeps classes f good b e m a h)
    (edges_all classes f (block_keeps (Below f)) f.blocks code.edges is.edges (λ w e l h. edge_of_keeps classes f w e h))

params_keep : (f : Func) (ps : List Param) → ((p : Param) → Among p ps → Among p f.params) → list_all (λ d. Below f d.place) (map parameter_of ps) ≡ true
params_keep f [] sub = refl
params_keep f (p ∷ ps) sub =
    and_from (Below f p.temp) _
    (own_below f p.temp (own_temps f (record { line = p.line; temp = p.temp; class = p.class }) (among_left _ (flat_map param_definers f.params) (flat_map block_definers f.blocks) (param_among f.params p (sub p (inl refl))))))
    (params_keep f ps (λ q a. sub q (inr a)))

pub known : (classes : Classes) (f : Func) (code : Endings) → IsGoodFunction f → IsLowered f code → keeps_places (is_below (registers f)) (selected classes f code) ≡ true
unfolding selected
known classes f code good is = and_from (list_all (λ d. Below f d.place) (map parameter_of f.params)) _ (params_keep f f.params (λ p a. a)) (blocks_keep classes f code good is)
