-- The instructions and endings of a lowered function of a good text fit.
use Rattle.std.proofs.Common.{◌≡◌, ℕ, zero, suc, ◌+◌, ◌-◌, ◌<◌, Bool, true, false, not, cond, nat_eq, nat_lt, ◌&&◌, List, [], ◌∷◌, ◌++◌, length, refl, sym, ◌∙◌, ap, subst, arith, ◌⊎◌, inl, inr, slice_get, Option, Some, None, flat_map, find}
use Rattle.std.proofs.lemmas.Bool.Decides.{nat_tests}
use Rattle.std.proofs.lemmas.Bool.{not-false}
use Rattle.il_ast.specs.declared.operation.Class.{Class}
use Rattle.il_ast.specs.declared.operation.Class.TheVariants.{W, L}
use Rattle.il_ast.specs.declared.operation.Extension.TheVariants.{SignedWord, UnsignedWord, SignedHalf, UnsignedHalf, SignedByte, UnsignedByte}
use Rattle.il_ast.specs.declared.operation.UnaryOp.{UnaryOp}
use Rattle.il_ast.specs.declared.operation.UnaryOp.TheVariants.{Neg, Copy, Extend, LoadLong, Load}
use Rattle.il_ast.specs.declared.operand.Val.{Val}
use Rattle.il_ast.specs.declared.operand.Val.TheVariants.{Int}
use Rattle.il_ast.specs.declared.operand.Arg.{Arg}
use Rattle.il_ast.specs.declared.instruction.Inst.{Inst}
use Rattle.il_ast.specs.declared.instruction.Inst.TheVariants.{Unary, Binary, Alloc, Store, Blit, Call}
use Rattle.il_ast.specs.declared.instruction.Jump.{Jump}
use Rattle.il_ast.specs.declared.instruction.Jump.TheVariants.{Goto, Branch, Return, Halt}
use Rattle.il_ast.specs.declared.instruction.Lined.{Lined}
use Rattle.il_ast.specs.declared.block.Phi.{Phi}
use Rattle.il_ast.specs.declared.block.PhiArg.{PhiArg}
use Rattle.il_ast.specs.declared.block.Block.{Block}
use Rattle.il_ast.specs.declared.function.Param.{Param}
use Rattle.il_ast.specs.declared.function.Func.{Func}
use Rattle.il_ast.specs.Prelude.{temps_of, temps_in_block, temps_in_phi, temps_in_inst, operand_class, left_class, right_class, stored_class}
use Rattle.il_types.specs.declared.rule.Rule.TheVariants.{OneType, OperandFits, ReturnFits as ReturnFitsRule, DefinedTemporaries}
use Rattle.il_types.specs.declared.site.Definer.{Definer}
use Rattle.il_types.specs.declared.site.Operand.{Operand}
use Rattle.il_types.specs.Prelude.{when, first, definer, param_definers, phi_definers, inst_definers, item_definers, block_definers, definers_of, operand_at, phi_operands, inst_operands, arg_operands, block_operands, operands_of, end_operands, fits, fits_result, is_defined, is_long_only, is_word, has_wrong_result, in_insts, in_returns, returned_breaks, breaks_in, value_returned}
use Rattle.phi_copies.specs.declared.ending.Assignment.{Assignment}
use Rattle.phi_copies.specs.declared.ending.Ending.{Ending}
use Rattle.phi_copies.specs.Good.{IsGoodFunction}
use Rattle.phi_copies.specs.Classed.{PhisFit}
use Rattle.phi_copies.specs.Copies.{phis_of, phis_before, first_own, AreCopies}
use Rattle.phi_copies.specs.Endings.{Endings}
use Rattle.phi_copies.specs.Lowered.{Edge, block_edges, all_edges, target, straight, straight_if, IsGoto, IsJumpEnding, IsEndEnding, IsBlockEnding, AreEndings, AreOnEdges, IsLowered}
use Rattle.phi_copies.specs.Source.{value_or_zero, source}
use Rattle.phi_copies.proofs.EdgePlaces.{AllLess, come_up}
use Rattle.select.specs.Typed.{Classes, Fits, ArgsFit, HasResult, InstFits, CopiesFit, ReturnFits, EndingFits, ParamsFit, IsTyped}
use Rattle.select.specs.Selected.{class_given, or_long, all_phis, classes_in}
use Rattle.select.proofs.Typing.{among_at, class_is, OwnTemps, own_class, value_fits, operand_fits}
use Rattle.il_ast.proofs.Listed.{get_before, get_behind}
use Rattle.phi_copies.proofs.PhiRules.{not_broken, neither_second, none_among, find_among}
use Rattle.phi_copies.proofs.Members.{among_get, Among, among_left, among_right}

-- ---- where a thing among others comes from

pub split_among : {A : Type 0} (x : A) (xs ys : List A) → Among x (xs ++ ys) → Among x xs ⊎ Among x ys
split_among x [] ys h = inr h
split_among x (y ∷ xs) ys (inl e) = inl (inl e)
split_among {A} x (y ∷ xs) ys (inr h) = by (split_among x xs ys h)
  where
    by : Among x xs ⊎ Among x ys → Among x (y ∷ xs) ⊎ Among x ys
    by (inl a) = inl (inr a)
    by (inr a) = inr a

-- what comes of each element has a mark, which then the whole has
map_among : {A B C : Type 0} (f : A → List B) (g : A → List C) (m : B → C) → ((y : A) (x : B) → Among x (f y) → Among (m x) (g y)) → (ys : List A) (x : B) → Among x (flat_map f ys) → Among (m x) (flat_map g ys)
map_among f g m each [] x h = absurd h
map_among f g m each (y ∷ ys) x h = by (split_among x (f y) (flat_map f ys) h) (map_among f g m each ys x)
  where
    by : Among x (f y) ⊎ Among x (flat_map f ys) → (Among x (flat_map f ys) → Among (m x) (flat_map g ys)) → Among (m x) (flat_map g (y ∷ ys))
    by (inl a) rest = among_left (m x) (g y) (flat_map g ys) (each y x a)
    by (inr a) rest = among_right (m x) (g y) (flat_map g ys) (rest a)

-- ---- the temporaries that are assigned are the function's own

temp_of : Definer → ℕ
temp_of d = d.temp

param_temp : (p : Param) (d : Definer) → Among d (param_definers p) → Among (temp_of d) (p.temp ∷ [])
unfolding temp_of
param_temp p d (inl e) = inl (ap (λ (x : Definer). x.temp) e)
param_temp p d (inr h) = absurd h

phi_temp : (p : Phi) (d : Definer) → Among d (phi_definers p) → Among (temp_of d) (temps_in_phi p)
unfolding temp_of
phi_temp p d (inl e) = inl (ap (λ (x : Definer). x.temp) e)
phi_temp p d (inr h) = absurd h

item_temp : (line : ℕ) (x : Inst) (d : Definer) → Among d (item_definers line x) → Among (temp_of d) (temps_in_inst x)
unfolding temp_of
item_temp line (Unary to op a) d (inl e) = inl (ap (λ (y : Definer). y.temp) e)
item_temp line (Unary to op a) d (inr h) = absurd h
item_temp line (Binary to op a b) d (inl e) = inl (ap (λ (y : Definer). y.temp) e)
item_temp line (Binary to op a b) d (inr h) = absurd h
item_temp line (Alloc to alignment size) d (inl e) = inl (ap (λ (y : Definer). y.temp) e)
item_temp line (Alloc to alignment size) d (inr h) = absurd h
item_temp line (Store size a at) d h = absurd h
item_temp line (Blit from to count) d h = absurd h
item_temp line (Call None callee args) d h = absurd h
item_temp line (Call (Some to) callee args) d (inl e) = inl (ap (λ (y : Definer). y.temp) e)
item_temp line (Call (Some to) callee args) d (inr h) = absurd h

block_temp : (b : Block) (d : Definer) → Among d (block_definers b) → Among (temp_of d) (temps_in_block b)
block_temp b d h = by (split_among d (flat_map phi_definers b.phis) (flat_map inst_definers b.insts) h)
  where
    by : Among d (flat_map phi_definers b.phis) ⊎ Among d (flat_map inst_definers b.insts) → Among (temp_of d) (temps_in_block b)
    by (inl a) = among_left (temp_of d) (flat_map temps_in_phi b.phis) _ (map_among phi_definers temps_in_phi temp_of phi_temp b.phis d a)
    by (inr a) =
        among_right (temp_of d) (flat_map temps_in_phi b.phis) _
        (among_left (temp_of d) (flat_map (λ (i : Lined Inst). temps_in_inst i.item) b.insts) _
        (map_among inst_definers (λ (i : Lined Inst). temps_in_inst i.item) temp_of (λ i e. item_temp i.line i.item e) b.insts d a))

pub less_among : (n : ℕ) (xs : List ℕ) (x : ℕ) → AllLess n xs → Among x xs → x < n
less_among n [] x h a = absurd a
less_among n (y ∷ xs) x h (inl e) = subst (λ k. k < n) (sym e) h.0
less_among n (y ∷ xs) x h (inr a) = less_among n xs x h.1 a

pub own_temps : (f : Func) → OwnTemps f
unfolding temp_of
own_temps f d a =
    less_among (length f.temps) (temps_of f.params f.blocks) d.temp (come_up 0 (length f.temps) (temps_of f.params f.blocks) f.temps_in_order).1
    (by (split_among d (flat_map param_definers f.params) (flat_map block_definers f.blocks) a))
  where
    by : Among d (flat_map param_definers f.params) ⊎ Among d (flat_map block_definers f.blocks) → Among d.temp (temps_of f.params f.blocks)
    by (inl h) = among_left d.temp (flat_map (λ (p : Param). p.temp ∷ []) f.params) (flat_map temps_in_block f.blocks) (map_among param_definers (λ (p : Param). p.temp ∷ []) temp_of param_temp f.params d h)
    by (inr h) = among_right d.temp (flat_map (λ (p : Param). p.temp ∷ []) f.params) (flat_map temps_in_block f.blocks) (map_among block_definers temps_in_block temp_of block_temp f.blocks d h)

-- ---- what the rules give

-- a temporary that is assigned has the class that it is assigned with
takes : (f : Func) → IsGoodFunction f → (d : Definer) → Among d (definers_of f) → classes_in f d.temp ≡ d.class
takes f good d a = own_class f d.temp (own_temps f d a) ∙ class_is f d (good.rules OneType) a

operand_is : (f : Func) → IsGoodFunction f → (o : Operand) → Among o (operands_of f) → Fits (classes_in f) o.class o.value
operand_is f good o a = operand_fits f (own_temps f) (good.rules OperandFits) (good.rules DefinedTemporaries) o a

-- ---- instructions

pub record InstAt (f : Func) (b : Block) (i : Lined Inst) : Type 0 where
  pub defines : (d : Definer) → Among d (inst_definers i) → Among d (definers_of f)
  pub reads_all : (o : Operand) → Among o (inst_operands i) → Among o (operands_of f)
  pub right : has_wrong_result i.item ≡ false

pub inst_at : (f : Func) → IsGoodFunction f → (k j : ℕ) (b : Block) (i : Lined Inst) → slice_get f.blocks k ≡ Some b → slice_get b.insts j ≡ Some i → InstAt f b i
inst_at f good k j b i here at =
    record {
      defines = λ d a. among_right d (flat_map param_definers f.params) (flat_map block_definers f.blocks)
          (among_at block_definers f.blocks k b d here (among_right d (flat_map phi_definers b.phis) (flat_map inst_definers b.insts) (among_at inst_definers b.insts j i d at a)));
      reads_all = λ o a. among_at block_operands f.blocks k b o here
          (among_right o (flat_map phi_operands b.phis) (flat_map inst_operands b.insts ++ end_operands b.jump) (among_left o (flat_map inst_operands b.insts) (end_operands b.jump) (among_at inst_operands b.insts j i o at a)));
      right =
          let results = neither_second (first (λ (x : Operand). when (not (fits (definers_of f) x.class x.value)) x.line) (operands_of f)) (in_insts has_wrong_result f.blocks) (good.rules OperandFits) in
          let within = none_among (λ (c : Block). first (λ (x : Lined Inst). when (has_wrong_result x.item) x.line) c.insts) f.blocks b results (among_get f.blocks k b here) in
          not_broken (has_wrong_result i.item) i.line (none_among (λ (x : Lined Inst). when (has_wrong_result x.item) x.line) b.insts i within (among_get b.insts j i at));
    }

not_word : (c : Class) → is_word c ≡ false → c ≡ L
not_word W h = absurd (let no : ⊥ = cc in no)
not_word L h = refl

has_result : (op : UnaryOp) (c : Class) → (is_long_only op && is_word c) ≡ false → HasResult op c
has_result Neg c h = tt
has_result Copy c h = tt
has_result (Extend SignedWord) c h = not_word c h
has_result (Extend UnsignedWord) c h = not_word c h
has_result (Extend SignedHalf) c h = tt
has_result (Extend UnsignedHalf) c h = tt
has_result (Extend SignedByte) c h = tt
has_result (Extend UnsignedByte) c h = tt
has_result LoadLong c h = not_word c h
has_result (Load e) c h = tt

args_fit : (classes : Classes) (line : ℕ) (args : List Arg) → ((o : Operand) → Among o (arg_operands line args) → Fits classes o.class o.value) → ArgsFit classes args
args_fit classes line [] each = tt
args_fit classes line (a ∷ args) each = (each (operand_at line a.class a.value) (inl refl), args_fit classes line args (λ o h. each o (inr h)))

pub item_fits : (f : Func) → IsGoodFunction f → (b : Block) (line : ℕ) (x : Inst) → InstAt f b (record { line = line; item = x }) → InstFits (classes_in f) x
item_fits f good b line (Unary to op a) i =
    (takes f good (definer line to) (i.defines _ (inl refl)), has_result op to.class i.right, operand_is f good (operand_at line (operand_class op to.class) a) (i.reads_all _ (inl refl)))
item_fits f good b line (Binary to op a c) i = (
  takes f good (definer line to) (i.defines _ (inl refl)),
  operand_is f good (operand_at line (left_class op to.class) a) (i.reads_all _ (inl refl)),
  operand_is f good (operand_at line (right_class op to.class) c) (i.reads_all _ (inr (inl refl))),
)
item_fits f good b line (Alloc to alignment size) i = takes f good (definer line to) (i.defines _ (inl refl)) ∙ not_word to.class i.right
item_fits f good b line (Store size a at) i =
    (operand_is f good (operand_at line (stored_class size) a) (i.reads_all _ (inl refl)), operand_is f good (operand_at line L at) (i.reads_all _ (inr (inl refl))))
item_fits f good b line (Blit from to count) i =
    (operand_is f good (operand_at line L from) (i.reads_all _ (inl refl)), operand_is f good (operand_at line L to) (i.reads_all _ (inr (inl refl))))
item_fits f good b line (Call None callee args) i =
    (tt, operand_is f good (operand_at line L callee) (i.reads_all _ (inl refl)), args_fit (classes_in f) line args (λ o h. operand_is f good o (i.reads_all o (inr h))))
item_fits f good b line (Call (Some to) callee args) i = (
  takes f good (definer line to) (i.defines _ (inl refl)),
  operand_is f good (operand_at line L callee) (i.reads_all _ (inl refl)),
  args_fit (classes_in f) line args (λ o h. operand_is f good o (i.reads_all o (inr h))),
)

-- ---- the copies of phis

-- where a phi stands among all phis
pub phi_place : (blocks : List Block) (k j : ℕ) (b : Block) (p : Phi) → slice_get blocks k ≡ Some b → slice_get b.phis j ≡ Some p → slice_get (all_phis blocks) (phis_before blocks k + j) ≡ Some p
phi_place [] k j b p here at = absurd (let no : ⊥ = cc in no)
phi_place (c ∷ blocks) zero j b p here at =
    let same : c ≡ b = cc in
    let none : 0 + j ≡ j = omega arith in
    ap (slice_get (c.phis ++ all_phis blocks)) none ∙ get_before c.phis (all_phis blocks) j p (ap (λ (x : Block). slice_get x.phis j) same ∙ at)
phi_place (c ∷ blocks) (suc k) j b p here at =
    let past : length c.phis + phis_before blocks k + j ≡ length c.phis + (phis_before blocks k + j) = omega arith in
    ap (slice_get (c.phis ++ all_phis blocks)) past ∙ get_behind c.phis (all_phis blocks) (phis_before blocks k + j) ∙ phi_place blocks k j b p here at

-- a phi whose own temporary has number n
record PhiFits (f : Func) (n : ℕ) (p : Phi) : Type 0 where
  own : classes_in f n ≡ p.to.class
  destination : classes_in f p.to.temp ≡ p.to.class
  arguments : (a : PhiArg) → Among a p.args → Fits (classes_in f) p.to.class a.value

pub phi_argument_at : (p : Phi) (args : List PhiArg) (a : PhiArg) → Among a args → Among (operand_at p.line p.to.class a.value) (flat_map (λ (x : PhiArg). operand_at p.line p.to.class x.value ∷ []) args)
phi_argument_at p [] a h = absurd h
phi_argument_at p (x ∷ args) a (inl e) = inl (ap (λ (y : PhiArg). operand_at p.line p.to.class y.value) e)
phi_argument_at p (x ∷ args) a (inr h) = inr (phi_argument_at p args a h)

phi_fits : (f : Func) → IsGoodFunction f → (k j : ℕ) (b : Block) (p : Phi) → slice_get f.blocks k ≡ Some b → slice_get b.phis j ≡ Some p → PhiFits f (length f.temps + phis_before f.blocks k + j) p
phi_fits f good k j b p here at =
    let n = length f.temps + phis_before f.blocks k + j in
    let past : nat_lt n (length f.temps) ≡ false = grind (arith, nat_tests) in
    let index : n - length f.temps ≡ phis_before f.blocks k + j = omega arith in
    record {
      own =
          ap (λ x. cond x (class_given f n) (or_long (slice_get (all_phis f.blocks) (n - length f.temps)))) past
          ∙ ap (λ m. or_long (slice_get (all_phis f.blocks) m)) index
          ∙ ap or_long (phi_place f.blocks k j b p here at);
      destination = takes f good (definer p.line p.to)
          (among_right _ (flat_map param_definers f.params) (flat_map block_definers f.blocks)
          (among_at block_definers f.blocks k b _ here (among_left _ (flat_map phi_definers b.phis) (flat_map inst_definers b.insts) (among_at phi_definers b.phis j p _ at (inl refl)))));
      arguments = λ a h. operand_is f good (operand_at p.line p.to.class a.value)
          (among_at block_operands f.blocks k b _ here
          (among_left _ (flat_map phi_operands b.phis) (flat_map inst_operands b.insts ++ end_operands b.jump) (among_at phi_operands b.phis j p _ at (phi_argument_at p p.args a h))));
    }

source_fits : (f : Func) (n from : ℕ) (p : Phi) → PhiFits f n p → Fits (classes_in f) p.to.class (source from p)
source_fits f n from p fit = by p.to.class (find (λ (x : PhiArg). nat_eq x.from from) p.args) refl refl
  where
    zero_fits : (c : Class) → Fits (classes_in f) c (Int 0)
    zero_fits W = tt
    zero_fits L = tt

    by : (c : Class) (o : Option PhiArg) → p.to.class ≡ c → find (λ (x : PhiArg). nat_eq x.from from) p.args ≡ o → Fits (classes_in f) p.to.class (value_or_zero o)
    by c None e h = zero_fits p.to.class
    by c (Some a) e h = fit.arguments a (find_among from p.args a h)

-- the phis of a list, with their own temporaries numbered from n
abbrev AllFit : Func → ℕ → List Phi → Type 0
AllFit f n ps = (j : ℕ) (p : Phi) → slice_get ps j ≡ Some p → PhiFits f (n + j) p

first_fits : (f : Func) (n : ℕ) (p : Phi) (ps : List Phi) → AllFit f n (p ∷ ps) → PhiFits f n p
first_fits f n p ps each = let none : n + 0 ≡ n = omega arith in subst (λ m. PhiFits f m p) none (each 0 p refl)

rest_fit : (f : Func) (n : ℕ) (p : Phi) (ps : List Phi) → AllFit f n (p ∷ ps) → AllFit f (n + 1) ps
rest_fit f n p ps each j q e = let next : n + suc j ≡ n + 1 + j = omega arith in subst (λ m. PhiFits f m q) next (each (suc j) q e)

phis_fit : (f : Func) (from n : ℕ) (ps : List Phi) → AllFit f n ps → PhisFit (classes_in f) from n ps
phis_fit f from n [] each = tt
phis_fit f from n (p ∷ ps) each =
    let fit = first_fits f n p ps each in (fit.own, fit.destination, source_fits f n from p fit, phis_fit f from (n + 1) ps (rest_fit f n p ps each))

entry_fits : (f : Func) → IsGoodFunction f → (from k : ℕ) (cs : List Assignment) → AreCopies f from k cs → CopiesFit (classes_in f) cs
entry_fits f good from k cs are = are.fit (classes_in f) (by (slice_get f.blocks k) refl)
  where
    by : (b : Option Block) → slice_get f.blocks k ≡ b → PhisFit (classes_in f) from (first_own f k) (phis_of b)
    by None e = tt
    by (Some b) e = phis_fit f from (first_own f k) b.phis (λ j p at. phi_fits f good k j b p e at)

-- ---- endings

return_fits : (f : Func) → IsGoodFunction f → (b : Block) (j : Lined Jump) (x : Val) → Among b f.blocks → b.jump ≡ Some j → j.item ≡ Return (Some x) → (result : Option Class) → f.result ≡ result → ReturnFits (classes_in f) result (Some x)
return_fits f good b j x a jump item None e = tt
return_fits f good b j x a jump item (Some c) e =
    let fit = unbroken (λ v. not (fits_result (definers_of f) f.result v)) (good.rules ReturnFitsRule) in
    let defined = unbroken (λ v. not (is_defined (definers_of f) v))
    (neither_second (first (λ (o : Operand). when (not (is_defined (definers_of f) o.value)) o.line) (operands_of f)) (in_returns (λ v. not (is_defined (definers_of f) v)) f.blocks) (good.rules DefinedTemporaries)) in
    value_fits f (own_temps f) c x
    (ap (λ r. fits_result (definers_of f) r x) (sym e) ∙ not-false (fits_result (definers_of f) f.result x) fit)
    (not-false (is_defined (definers_of f) x) defined)
  where
    unbroken : (broken : Val → Bool) → in_returns broken f.blocks ≡ None → broken x ≡ false
    unbroken broken h =
        not_broken (broken x) j.line
        (sym (ap (returned_breaks broken) jump ∙ ap (λ y. breaks_in broken j.line (value_returned y)) item)
        ∙ none_among (λ (c : Block). returned_breaks broken c.jump) f.blocks b h a)

goto_fits : (f : Func) → IsGoodFunction f → (from k : ℕ) (e : Ending) → IsGoto f from k e → EndingFits (classes_in f) f.result e
goto_fits f good from k e is = subst (EndingFits (classes_in f) f.result) (sym is.0) (entry_fits f good from k e.copies is.1, tt)

ending_fits : (f : Func) → IsGoodFunction f → (number : ℕ) (b : Block) (e : Ending) → Among b f.blocks → IsBlockEnding f number b e → EndingFits (classes_in f) f.result e
ending_fits f good number b e a is = by b.jump refl is
  where
    by_ways : (q : Bool) (on : Val) (nonzero otherwise : ℕ) → IsJumpEnding f b.label number (straight_if q on nonzero otherwise) e → EndingFits (classes_in f) f.result e
    by_ways true on nonzero otherwise h = goto_fits f good b.label (target f.blocks nonzero) e h
    by_ways false on nonzero otherwise h = subst (EndingFits (classes_in f) f.result) (sym h) (tt, tt)

    by_jump : (j : Lined Jump) (x : Jump) → b.jump ≡ Some j → j.item ≡ x → IsJumpEnding f b.label number (straight x) e → EndingFits (classes_in f) f.result e
    by_jump j (Goto l) g i h = goto_fits f good b.label (target f.blocks l) e h
    by_jump j (Branch on nonzero otherwise) g i h = by_ways (nat_eq nonzero otherwise) on nonzero otherwise h
    by_jump j (Return None) g i h = subst (EndingFits (classes_in f) f.result) (sym h) (tt, tt)
    by_jump j (Return (Some x)) g i h = subst (EndingFits (classes_in f) f.result) (sym h) (tt, return_fits f good b j x a g i f.result refl)
    by_jump j Halt g i h = subst (EndingFits (classes_in f) f.result) (sym h) (tt, tt)

    by : (j : Option (Lined Jump)) → b.jump ≡ j → IsEndEnding f b.label number j e → EndingFits (classes_in f) f.result e
    by None g h = subst (EndingFits (classes_in f) f.result) (sym h) (tt, tt)
    by (Some j) g h = by_jump j j.item g refl h

endings_fit : (f : Func) → IsGoodFunction f → (n : ℕ) (blocks : List Block) (es : List Ending) → AreEndings f n blocks es → ((b : Block) → Among b blocks → Among b f.blocks) → (k : ℕ) (e : Ending) → slice_get es k ≡ Some e → EndingFits (classes_in f) f.result e
endings_fit f good n [] [] are all k e h = absurd (let no : ⊥ = cc in no)
endings_fit f good n [] (d ∷ es) are all k e h = absurd are
endings_fit f good n (b ∷ blocks) [] are all k e h = absurd are
endings_fit f good n (b ∷ blocks) (d ∷ es) are all zero e h =
    let same : d ≡ e = cc in subst (EndingFits (classes_in f) f.result) same (ending_fits f good n b d (all b (inl refl)) are.0)
endings_fit f good n (b ∷ blocks) (d ∷ es) are all (suc k) e h = endings_fit f good (n + length (block_edges f b)) blocks es are.1 (λ c a. all c (inr a)) k e h

edges_fit : (f : Func) → IsGoodFunction f → (ws : List Edge) (es : List Ending) → AreOnEdges f ws es → (k : ℕ) (e : Ending) → slice_get es k ≡ Some e → EndingFits (classes_in f) f.result e
edges_fit f good [] [] are k e h = absurd (let no : ⊥ = cc in no)
edges_fit f good [] (d ∷ es) are k e h = absurd are
edges_fit f good (w ∷ ws) [] are k e h = absurd are
edges_fit f good (w ∷ ws) (d ∷ es) are zero e h =
    let same : d ≡ e = cc in
    subst (EndingFits (classes_in f) f.result) same (subst (EndingFits (classes_in f) f.result) (sym are.0.0) (entry_fits f good w.from w.to d.copies are.0.1, tt))
edges_fit f good (w ∷ ws) (d ∷ es) are (suc k) e h = edges_fit f good ws es are.1 k e h

-- ---- the whole

pub each_ends : (f : Func) (n : ℕ) (blocks : List Block) (es : List Ending) → AreEndings f n blocks es → length es ≡ length blocks
each_ends f n [] [] are = refl
each_ends f n [] (e ∷ es) are = absurd are
each_ends f n (b ∷ blocks) [] are = absurd are
each_ends f n (b ∷ blocks) (e ∷ es) are = ap suc (each_ends f (n + length (block_edges f b)) blocks es are.1)

params_fit : (f : Func) → IsGoodFunction f → (ps : List Param) → ((p : Param) → Among p ps → Among (record { line = p.line; temp = p.temp; class = p.class }) (definers_of f)) → ParamsFit (classes_in f) ps
params_fit f good [] each = tt
params_fit f good (p ∷ ps) each = (takes f good (record { line = p.line; temp = p.temp; class = p.class }) (each p (inl refl)), params_fit f good ps (λ q a. each q (inr a)))

pub param_among : (ps : List Param) (p : Param) → Among p ps → Among (record { line = p.line; temp = p.temp; class = p.class }) (flat_map param_definers ps)
param_among [] p h = absurd h
param_among (q ∷ ps) p (inl e) = inl (ap (λ (x : Param). record { line = x.line; temp = x.temp; class = x.class }) e)
param_among (q ∷ ps) p (inr h) = inr (param_among ps p h)

pub lowered_is_typed : (f : Func) (code : Endings) → IsGoodFunction f → IsLowered f code → IsTyped (classes_in f) f code
lowered_is_typed f code good is =
    record {
      params = params_fit f good f.params (λ p a. among_left _ (flat_map param_definers f.params) (flat_map block_definers f.blocks) (param_among f.params p a));
      insts = λ k j b i here at. item_fits f good b i.line i.item (inst_at f good k j b i here at);
      endings = endings_fit f good 0 f.blocks code.endings is.endings (λ b a. a);
      edges = edges_fit f good (all_edges f f.blocks) code.edges is.edges;
      each_ends = each_ends f 0 f.blocks code.endings is.endings;
    }
