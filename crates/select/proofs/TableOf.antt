-- What the table of classes says of each temporary.
use Rattle.std.proofs.Common.{◌≡◌, ℕ, zero, suc, ◌+◌, ◌-◌, ◌<◌, ◌≤◌, Bool, true, false, cond, nat_eq, nat_lt, ◌&&◌, ◌||◌, List, [], ◌∷◌, ◌++◌, length, map, refl, sym, ◌∙◌, ap, arith, slice_get, Some, None, flat_map, sum_by}
use Rattle.std.proofs.lemmas.Bool.Decides.{nat_tests}
use Rattle.std.proofs.lemmas.List.{length-append, length-map}
use Rattle.std.proofs.lemmas.List.Folds.{list_any-append}
use Rattle.std.proofs.lemmas.List.Sums.{sum_by-cons}
use Rattle.std.proofs.Math.Path.{fun_ext}
use Rattle.il_ast.specs.declared.operation.Class.{Class}
use Rattle.il_ast.specs.declared.operation.Class.TheVariants.{W}
use Rattle.il_ast.specs.declared.operand.Dest.{Dest}
use Rattle.il_ast.specs.declared.instruction.Inst.{Inst}
use Rattle.il_ast.specs.declared.instruction.Inst.TheVariants.{Unary, Binary, Alloc, Store, Blit, Call}
use Rattle.il_ast.specs.declared.instruction.Lined.{Lined}
use Rattle.il_ast.specs.declared.block.Phi.{Phi}
use Rattle.il_ast.specs.declared.block.Block.{Block}
use Rattle.il_ast.specs.declared.function.Param.{Param}
use Rattle.il_ast.specs.declared.function.Func.{Func}
use Rattle.il_ast.specs.Prelude.{same_class, phi_count}
use Rattle.il_types.specs.declared.site.Definer.{Definer}
use Rattle.il_types.specs.Prelude.{is_given, param_definers, phi_definers, item_definers, inst_definers, block_definers, definers_of}
use Rattle.select.specs.Selected.{class_given, or_long, all_phis, classes_in}
use Rattle.select.specs.Narrow.{listed, param_destination, phi_destination, item_destinations, inst_destinations, block_destinations, destinations_in, has_word, word_or_long, phi_classes}

-- ---- words that are assigned

abbrev Same : ℕ → List Definer → List Dest → Type 0
Same t ds es = is_given W t ds ≡ has_word t es

same_both : (t : ℕ) (xs bs : List Definer) (cs ds : List Dest) → Same t xs cs → Same t bs ds → Same t (xs ++ bs) (cs ++ ds)
same_both t xs bs cs ds h k =
    list_any-append (λ (d : Definer). nat_eq d.temp t && same_class d.class W) xs bs
    ∙ ap (λ b. b || is_given W t bs) h
    ∙ ap (λ b. has_word t cs || b) k
    ∙ sym (list_any-append (λ (d : Dest). nat_eq d.temp t && same_class d.class W) cs ds)

params_same : (t : ℕ) (ps : List Param) → Same t (flat_map param_definers ps) (map param_destination ps)
params_same t [] = refl
params_same t (p ∷ ps) = ap (λ b. (nat_eq p.temp t && same_class p.class W) || b) (params_same t ps)

phis_same : (t : ℕ) (ps : List Phi) → Same t (flat_map phi_definers ps) (map phi_destination ps)
phis_same t [] = refl
phis_same t (p ∷ ps) = ap (λ b. (nat_eq p.to.temp t && same_class p.to.class W) || b) (phis_same t ps)

item_same : (t line : ℕ) (x : Inst) → Same t (item_definers line x) (item_destinations x)
item_same t line (Unary to op a) = refl
item_same t line (Binary to op a b) = refl
item_same t line (Alloc to alignment size) = refl
item_same t line (Store size a at) = refl
item_same t line (Blit from to count) = refl
item_same t line (Call None callee args) = refl
item_same t line (Call (Some to) callee args) = refl

insts_same : (t : ℕ) (is : List (Lined Inst)) → Same t (flat_map inst_definers is) (flat_map inst_destinations is)
insts_same t [] = refl
insts_same t (i ∷ is) = same_both t (inst_definers i) (flat_map inst_definers is) (inst_destinations i) (flat_map inst_destinations is) (item_same t i.line i.item) (insts_same t is)

blocks_same : (t : ℕ) (bs : List Block) → Same t (flat_map block_definers bs) (flat_map block_destinations bs)
blocks_same t [] = refl
blocks_same t (b ∷ bs) =
    same_both t (block_definers b) (flat_map block_definers bs) (block_destinations b) (flat_map block_destinations bs)
    (same_both t (flat_map phi_definers b.phis) (flat_map inst_definers b.insts) (map phi_destination b.phis) (flat_map inst_destinations b.insts) (phis_same t b.phis) (insts_same t b.insts))
    (blocks_same t bs)

words_same : (f : Func) (t : ℕ) → Same t (definers_of f) (destinations_in f)
words_same f t =
    same_both t (flat_map param_definers f.params) (flat_map block_definers f.blocks) (map param_destination f.params) (flat_map block_destinations f.blocks)
    (params_same t f.params) (blocks_same t f.blocks)

-- ---- the phis' own temporaries

phis_joined : (bs : List Block) → flat_map phi_classes bs ≡ map (λ (p : Phi). p.to.class) (all_phis bs)
phis_joined [] = refl
phis_joined (b ∷ bs) = ap (λ cs. phi_classes b ++ cs) (phis_joined bs) ∙ map_joined b.phis (all_phis bs)
  where
    map_joined : (ps qs : List Phi) → map (λ (p : Phi). p.to.class) ps ++ map (λ (p : Phi). p.to.class) qs ≡ map (λ (p : Phi). p.to.class) (ps ++ qs)
    map_joined [] qs = refl
    map_joined (p ∷ ps) qs = ap (λ cs. p.to.class ∷ cs) (map_joined ps qs)

listed_phi : (ps : List Phi) (n : ℕ) → listed (map (λ (p : Phi). p.to.class) ps) n ≡ or_long (slice_get ps n)
listed_phi [] n = refl
listed_phi (p ∷ ps) zero = refl
listed_phi (p ∷ ps) (suc n) = listed_phi ps n

phis_long : (bs : List Block) → length (flat_map phi_classes bs) ≡ sum_by (λ (b : Block). length b.phis) bs
phis_long [] = refl
phis_long (b ∷ bs) =
    let all = length-append (phi_classes b) (flat_map phi_classes bs) in
    let here = length-map b.phis (λ (p : Phi). p.to.class) in
    let rest = phis_long bs in
    let sum = sum_by-cons (λ (c : Block). length c.phis) b bs in
    omega (arith, all, here, rest, sum)

-- ---- the whole

pub table_long : (f : Func) (table : List Class) → length table ≡ length f.temps → length (table ++ flat_map phi_classes f.blocks) ≡ length f.temps + phi_count f
table_long f table long =
    let all = length-append table (flat_map phi_classes f.blocks) in let phis = phis_long f.blocks in omega (arith, long, all, phis)

listed_first : (xs ys : List Class) (t : ℕ) → t < length xs → listed (xs ++ ys) t ≡ listed xs t
listed_first [] ys t h = absurd (omega (arith, h))
listed_first (x ∷ xs) ys zero h = refl
listed_first (x ∷ xs) ys (suc t) h = listed_first xs ys t (omega (arith, h))

listed_behind : (xs ys : List Class) (t : ℕ) → length xs ≤ t → listed (xs ++ ys) t ≡ listed ys (t - length xs)
listed_behind [] ys t h = let all : t ≡ t - 0 = omega arith in ap (listed ys) all
listed_behind (x ∷ xs) ys zero h = absurd (omega (arith, h))
listed_behind (x ∷ xs) ys (suc t) h =
    let less : t - length xs ≡ suc t - suc (length xs) = omega arith in listed_behind xs ys t (omega (arith, h)) ∙ ap (listed ys) less

abbrev Says : Func → List Class → Type 0
Says f table = (t : ℕ) → t < length f.temps → listed table t ≡ word_or_long (has_word t (destinations_in f))

pub table_is : (f : Func) (table : List Class) → length table ≡ length f.temps → Says f table → (t : ℕ) → listed (table ++ flat_map phi_classes f.blocks) t ≡ classes_in f t
table_is f table long says t = by (nat_lt t (length f.temps)) refl
  where
    by : (own : Bool) → nat_lt t (length f.temps) ≡ own → listed (table ++ flat_map phi_classes f.blocks) t ≡ cond own (class_given f t) (or_long (slice_get (all_phis f.blocks) (t - length f.temps)))
    by true e =
        let lt : t < length f.temps = grind (arith, nat_tests) in
        listed_first table (flat_map phi_classes f.blocks) t (omega (arith, lt, long)) ∙ says t lt ∙ ap word_or_long (sym (words_same f t))
    by false e =
        let le : length f.temps ≤ t = grind (arith, nat_tests) in
        listed_behind table (flat_map phi_classes f.blocks) t (omega (arith, le, long))
        ∙ ap (λ n. listed (flat_map phi_classes f.blocks) (t - n)) long
        ∙ ap (λ cs. listed cs (t - length f.temps)) (phis_joined f.blocks)
        ∙ listed_phi (all_phis f.blocks) (t - length f.temps)

-- as functions
pub same_classes : (f : Func) (table : List Class) → ((t : ℕ) → listed table t ≡ classes_in f t) → listed table ≡ classes_in f
same_classes f table each = fun_ext each
