-- Once temporaries are promoted, a function keeps all rules that it kept, and its limits.
use Rattle.std.proofs.Common.{◌≡◌, ℕ, ◌+◌, ◌*◌, ◌≤◌, Bool, true, false, not, ◌&&◌, ◌||◌, nat_eq, nat_le, List, [], ◌∷◌, ◌++◌, map, length, refl, sym, ◌∙◌, ap, subst, arith, max, nat_lt, Option, Some, None, is_none}
use Rattle.std.specs.List.{list_all, list_any, flat_map, sum_by, fold}
use Rattle.std.proofs.Math.Path.{fun_ext}
use Rattle.std.proofs.Math.Nat.{le_of_eq}
use Rattle.std.proofs.lemmas.List.Folds.{list_any-append}
use Rattle.std.proofs.lemmas.Bool.{not-false, not_from_true, eqb-true}
use Rattle.std.proofs.lemmas.Bool.Decides.{nat_tests}
use Rattle.il_ast.specs.declared.limits.TheConstants.{FUNCTION_WEIGHT}
use Rattle.il_ast.specs.declared.operation.Class.{Class}
use Rattle.il_ast.specs.declared.operation.Class.TheVariants.{W, L}
use Rattle.il_ast.specs.declared.operation.Size.{Size}
use Rattle.il_ast.specs.declared.operation.Size.TheVariants.{Byte, Half, Word, Long}
use Rattle.il_ast.specs.declared.operation.Extension.TheVariants.{SignedWord, UnsignedWord, SignedHalf, UnsignedHalf, SignedByte, UnsignedByte}
use Rattle.il_ast.specs.declared.operation.UnaryOp.{UnaryOp}
use Rattle.il_ast.specs.declared.operation.UnaryOp.TheVariants.{Neg, Copy, Extend, LoadLong, Load}
use Rattle.il_ast.specs.declared.operation.Alignment.{Alignment as Aligned}
use Rattle.il_ast.specs.declared.operand.Val.{Val}
use Rattle.il_ast.specs.declared.operand.Val.TheVariants.{Int, Temp, Global}
use Rattle.il_ast.specs.declared.operand.Dest.{Dest}
use Rattle.il_ast.specs.declared.instruction.Inst.{Inst}
use Rattle.il_ast.specs.declared.instruction.Inst.TheVariants.{Unary, Binary, Alloc, Store, Blit, Call}
use Rattle.il_ast.specs.declared.instruction.Jump.{Jump}
use Rattle.il_ast.specs.declared.instruction.Lined.{Lined}
use Rattle.il_ast.specs.declared.block.Phi.{Phi}
use Rattle.il_ast.specs.declared.block.PhiArg.{PhiArg}
use Rattle.il_ast.specs.declared.block.Block.{Block}
use Rattle.il_ast.specs.declared.function.Param.{Param}
use Rattle.il_ast.specs.declared.function.Func.{Func}
use Rattle.il_ast.specs.Prelude.{same_class, operand_class, stored_class, round_16, inst_weight, end_weight, block_weight, weight, alloc_bytes, alloc_area, phi_count, args_on_stack, largest_in, largest_of, need}
use Rattle.il_types.specs.declared.rule.Rule.{Rule}
use Rattle.il_types.specs.declared.rule.Rule.TheVariants.{DistinctGlobals, DistinctLocals, KnownLabels, EntryNotTarget, LastBlockEnds, OneType, OperandFits, PhiCoversPredecessors, AllocInEntry, ReturnFits, DefinedTemporaries, DataFields, Alignment, BlitSize}
use Rattle.il_types.specs.declared.site.Definer.{Definer}
use Rattle.il_types.specs.declared.site.Operand.{Operand}
use Rattle.il_types.specs.declared.site.Site.{Site}
use Rattle.il_types.specs.Prelude.{when, or_else, first, is_given, definer, param_definers, phi_definers, item_definers, inst_definers, block_definers, definers_of, operand_at, phi_operands, item_operands, inst_operands, end_operands, block_operands, operands_of, block_targets, sources_in, first_repeated, param_sites, label_sites, phi_sites, is_label, is_entry, two_types, fits, is_long_only, is_word, has_wrong_result, in_insts, misplaced, is_defined, fits_result, returned_breaks, breaks_in, value_returned, in_returns, wrong_return, undefined_temp, has_wrong_size, is_alloc, wrong_alloc_in, is_long_blit, is_predecessor, names_from, jumps_to, covers, uncovered_in, broken_in_function, has_few_args, is_within}
use Rattle.promote.specs.declared.mention.Role.TheVariants.{Used}
use Rattle.promote.specs.Uses.{item_mentions, inst_mentions, end_mentions, phi_mentions, block_mentions, param_mentions, mentions_of, Widths, Rewrites, promoted, promoted_line, promoted_block, taken_from, made_in, stored_in, storing, loading}
use Rattle.promote.proofs.Respect.{Suited, Respected, respected_first, respected_then}
use Rattle.il_ast.proofs.Truth.{and_false}
use Rattle.il_types.proofs.ArgumentLemmas.{none_first}
use Rattle.promote.proofs.Ordering.{map_flat}

-- ---- lists of changed items

any_map : {X : Type 0} (p q : X → Bool) (f : X → X) → ((x : X) → p (f x) ≡ q x) → (xs : List X) → list_any p (map f xs) ≡ list_any q xs
any_map p q f h [] = refl
any_map p q f h (x ∷ xs) = ap (λ b. b || list_any p (map f xs)) (h x) ∙ ap (λ b. q x || b) (any_map p q f h xs)

all_map : {X : Type 0} (p q : X → Bool) (f : X → X) → ((x : X) → p (f x) ≡ q x) → (xs : List X) → list_all p (map f xs) ≡ list_all q xs
all_map p q f h [] = refl
all_map p q f h (x ∷ xs) = ap (λ b. b && list_all p (map f xs)) (h x) ∙ ap (λ b. q x && b) (all_map p q f h xs)

first_map : {X : Type 0} (p q : X → Option ℕ) (f : X → X) → ((x : X) → p (f x) ≡ q x) → (xs : List X) → first p (map f xs) ≡ first q xs
first_map p q f h [] = refl
first_map p q f h (x ∷ xs) = ap (λ o. or_else o (first p (map f xs))) (h x) ∙ ap (or_else (q x)) (first_map p q f h xs)

flat_map_map : {X Y : Type 0} (p q : X → List Y) (f : X → X) → ((x : X) → p (f x) ≡ q x) → (xs : List X) → flat_map p (map f xs) ≡ flat_map q xs
flat_map_map p q f h [] = refl
flat_map_map p q f h (x ∷ xs) = ap (λ ys. ys ++ flat_map p (map f xs)) (h x) ∙ ap (λ ys. q x ++ ys) (flat_map_map p q f h xs)

fold_map : {X : Type 0} (p q : X → ℕ) (f : X → X) → ((x : X) → p (f x) ≡ q x) → (xs : List X) (n : ℕ) → fold (λ (a : ℕ) (x : X). a + p x) n (map f xs) ≡ fold (λ (a : ℕ) (x : X). a + q x) n xs
fold_map p q f h [] n = refl
fold_map {X} p q f h (x ∷ xs) n =
    ap (λ k. fold (λ (a : ℕ) (y : X). a + p y) (n + k) (map f xs)) (h x) ∙ fold_map p q f h xs (n + q x)

sum_map : {X : Type 0} (p q : X → ℕ) (f : X → X) → ((x : X) → p (f x) ≡ q x) → (xs : List X) → sum_by p (map f xs) ≡ sum_by q xs
sum_map p q f h xs = fold_map p q f h xs 0

-- ---- nothing is first

none_both : (a b : Option ℕ) → a ≡ None → b ≡ None → or_else a b ≡ None
none_both None b e h = h
none_both (Some n) b e h = absurd (let no : ⊥ = cc in no)

first_later : (a b c : Option ℕ) → or_else a (or_else b c) ≡ or_else (or_else a b) c
first_later None b c = refl
first_later (Some n) b c = refl

first_both : {X : Type 0} (f : X → Option ℕ) (xs ys : List X) → first f (xs ++ ys) ≡ or_else (first f xs) (first f ys)
first_both f [] ys = refl
first_both f (x ∷ xs) ys = ap (or_else (f x)) (first_both f xs ys) ∙ first_later (f x) (first f xs) (first f ys)

-- where nothing of the one breaks the rule, nothing of the other does
none_all : {X Y : Type 0} (f g : Y → Option ℕ) (p q : X → List Y) → ((x : X) → first f (p x) ≡ None → first g (q x) ≡ None) → (xs : List X) → first f (flat_map p xs) ≡ None → first g (flat_map q xs) ≡ None
none_all f g p q h [] e = refl
none_all f g p q h (x ∷ xs) e =
    let parts = none_first (first f (p x)) (first f (flat_map p xs)) (sym (first_both f (p x) (flat_map p xs)) ∙ e) in
    first_both g (q x) (flat_map q xs)
    ∙ none_both (first g (q x)) (first g (flat_map q xs)) (h x parts.0) (none_all f g p q h xs parts.1)

none_two : {Y : Type 0} (f g : Y → Option ℕ) (xs ys us vs : List Y) → (first f xs ≡ None → first g us ≡ None) → (first f ys ≡ None → first g vs ≡ None) → first f (xs ++ ys) ≡ None → first g (us ++ vs) ≡ None
none_two f g xs ys us vs h k e =
    let parts = none_first (first f xs) (first f ys) (sym (first_both f xs ys) ∙ e) in
    first_both g us vs ∙ none_both (first g us) (first g vs) (h parts.0) (k parts.1)

none_each : {X : Type 0} (f g : X → Option ℕ) → ((x : X) → f x ≡ None → g x ≡ None) → (xs : List X) → first f xs ≡ None → first g xs ≡ None
none_each f g h [] e = refl
none_each f g h (x ∷ xs) e =
    let parts = none_first (f x) (first f xs) e in none_both (g x) (first g xs) (h x parts.0) (none_each f g h xs parts.1)

first_never : {X : Type 0} (f : X → Option ℕ) → ((x : X) → f x ≡ None) → (xs : List X) → first f xs ≡ None
first_never f h [] = refl
first_never f h (x ∷ xs) = none_both (f x) (first f xs) (h x) (first_never f h xs)

when_false : (b : Bool) (n : ℕ) → when b n ≡ None → b ≡ false
when_false false n e = refl
when_false true n e = absurd (let no : ⊥ = cc in no)

when_none : (b : Bool) (n : ℕ) → b ≡ false → when b n ≡ None
when_none b n e = ap (λ x. when x n) e

-- ---- instructions

-- a measure of an instruction that promotion of loads and stores leaves as it is
abbrev Stays : {X : Type 0} → (Inst → X) → Type 0
Stays {X} f = (size : Size) (a at : Val) (p : ℕ) (to : Dest) (op op2 : UnaryOp) → (f (Store size a at) ≡ f (Unary to op a)) × (f (Unary to op a) ≡ f (Unary to op2 a))

stays_unary : {X : Type 0} (f : Inst → X) → Stays f → (to : Dest) (op : UnaryOp) (p : ℕ) (o : Option Size) → f (taken_from o to op p) ≡ f (Unary to op (Temp p))
stays_unary f h to op p None = refl
stays_unary f h to op p (Some s) = (h s (Temp p) (Temp p) p to (loading op to.class) op).1

stays_store : {X : Type 0} (f : Inst → X) → Stays f → (size : Size) (a : Val) (p : ℕ) (o : Option Size) → f (stored_in o size a p) ≡ f (Store size a (Temp p))
stays_store f h size a p None = refl
stays_store f h size a p (Some s) = sym (h size a (Temp p) p (record { temp = p; class = L }) (storing size) (storing size)).0

-- that of an alloc, where it is gone too
abbrev Gone : {X : Type 0} → (Inst → X) → Type 0
Gone {X} f = (to : Dest) (alignment : Aligned) (size : ℕ) → f (Unary to Copy (Int 0)) ≡ f (Alloc to alignment size)

stays_alloc : {X : Type 0} (f : Inst → X) → Gone f → (to : Dest) (alignment : Aligned) (size : ℕ) (o : Option Size) → f (made_in o to alignment size) ≡ f (Alloc to alignment size)
stays_alloc f h to alignment size None = refl
stays_alloc f h to alignment size (Some s) = h to alignment size

stays : {X : Type 0} (w : Widths) (f : Inst → X) → Stays f → Gone f → (i : Inst) → f (promoted w i) ≡ f i
stays w f h k (Unary to op (Int n)) = refl
stays w f h k (Unary to op (Temp p)) = stays_unary f h to op p (w p)
stays w f h k (Unary to op (Global g)) = refl
stays w f h k (Binary to op a b) = refl
stays w f h k (Alloc to alignment size) = stays_alloc f k to alignment size (w to.temp)
stays w f h k (Store size a (Int n)) = refl
stays w f h k (Store size a (Temp p)) = stays_store f h size a p (w p)
stays w f h k (Store size a (Global g)) = refl
stays w f h k (Blit from to count) = refl
stays w f h k (Call to callee args) = refl

in_insts_stay : (w : Widths) (f : Inst → Bool) → Stays f → Gone f → (bs : List Block) → in_insts f (map (promoted_block w) bs) ≡ in_insts f bs
in_insts_stay w f h k =
    first_map (λ (b : Block). first (λ (i : Lined Inst). when (f i.item) i.line) b.insts)
    (λ (b : Block). first (λ (i : Lined Inst). when (f i.item) i.line) b.insts) (promoted_block w)
    (λ b. first_map (λ (i : Lined Inst). when (f i.item) i.line) (λ (i : Lined Inst). when (f i.item) i.line) (promoted_line w)
    (λ i. ap (λ x. when x i.line) (stays w f h k i.item)) b.insts)

-- ---- costs

pub weight_stays : (w : Widths) (bs : List Block) → sum_by block_weight (map (promoted_block w) bs) ≡ sum_by block_weight bs
weight_stays w =
    sum_map block_weight block_weight (promoted_block w)
    (λ b. ap (λ n. 1 + end_weight b.jump + sum_by (λ (p : Phi). length p.args) b.phis + n)
    (sum_map (λ (i : Lined Inst). inst_weight i.item) (λ (i : Lined Inst). inst_weight i.item) (promoted_line w)
    (λ i. stays w inst_weight (λ size a at p to op op2. (refl, refl)) (λ to alignment size. refl) i.item) b.insts))

-- a sum with lesser items
fold_less : {X : Type 0} (p q : X → ℕ) (f : X → X) → ((x : X) → p (f x) ≤ q x) → (xs : List X) (n k : ℕ) → n ≤ k → fold (λ (a : ℕ) (x : X). a + p x) n (map f xs) ≤ fold (λ (a : ℕ) (x : X). a + q x) k xs
fold_less p q f h [] n k le = le
fold_less {X} p q f h (x ∷ xs) n k le = let one = h x in fold_less p q f h xs (n + p (f x)) (k + q x) (omega (arith, le, one))

sum_less : {X : Type 0} (p q : X → ℕ) (f : X → X) → ((x : X) → p (f x) ≤ q x) → (xs : List X) → sum_by p (map f xs) ≤ sum_by q xs
sum_less p q f h xs = fold_less p q f h xs 0 0 (omega arith)

-- the bytes of an alloc are gone with it
made_bytes : (to : Dest) (alignment : Aligned) (size : ℕ) (o : Option Size) → alloc_bytes (made_in o to alignment size) ≤ alloc_bytes (Alloc to alignment size)
made_bytes to alignment size None = omega arith
made_bytes to alignment size (Some s) = omega arith

unary_bytes : (to : Dest) (op : UnaryOp) (p : ℕ) (o : Option Size) → alloc_bytes (taken_from o to op p) ≡ 0
unary_bytes to op p None = refl
unary_bytes to op p (Some s) = refl

store_bytes : (size : Size) (a : Val) (p : ℕ) (o : Option Size) → alloc_bytes (stored_in o size a p) ≡ 0
store_bytes size a p None = refl
store_bytes size a p (Some s) = refl

bytes_less : (w : Widths) (i : Inst) → alloc_bytes (promoted w i) ≤ alloc_bytes i
bytes_less w (Unary to op (Int n)) = omega arith
bytes_less w (Unary to op (Temp p)) = le_of_eq (unary_bytes to op p (w p))
bytes_less w (Unary to op (Global g)) = omega arith
bytes_less w (Binary to op a b) = omega arith
bytes_less w (Alloc to alignment size) = made_bytes to alignment size (w to.temp)
bytes_less w (Store size a (Int n)) = omega arith
bytes_less w (Store size a (Temp p)) = le_of_eq (store_bytes size a p (w p))
bytes_less w (Store size a (Global g)) = omega arith
bytes_less w (Blit from to count) = omega arith
bytes_less w (Call to callee args) = omega arith

area_less : (w : Widths) (bs : List Block) → sum_by (λ (b : Block). sum_by (λ (i : Lined Inst). alloc_bytes i.item) b.insts) (map (promoted_block w) bs) ≤ sum_by (λ (b : Block). sum_by (λ (i : Lined Inst). alloc_bytes i.item) b.insts) bs
area_less w =
    sum_less (λ (b : Block). sum_by (λ (i : Lined Inst). alloc_bytes i.item) b.insts)
    (λ (b : Block). sum_by (λ (i : Lined Inst). alloc_bytes i.item) b.insts) (promoted_block w)
    (λ b. sum_less (λ (i : Lined Inst). alloc_bytes i.item) (λ (i : Lined Inst). alloc_bytes i.item) (promoted_line w)
    (λ i. bytes_less w i.item) b.insts)

least_area : (w : Widths) (f g : Func) → Rewrites w f g → alloc_area g ≤ alloc_area f
least_area w f g r =
    subst (λ bs. sum_by (λ (b : Block). sum_by (λ (i : Lined Inst). alloc_bytes i.item) b.insts) bs ≤ alloc_area f) (sym r.blocks) (area_less w f.blocks)

pub phis_stay : (w : Widths) (bs : List Block) → sum_by (λ (b : Block). length b.phis) (map (promoted_block w) bs) ≡ sum_by (λ (b : Block). length b.phis) bs
phis_stay w = sum_map (λ (b : Block). length b.phis) (λ (b : Block). length b.phis) (promoted_block w) (λ b. refl)

largest_line : (w : Widths) (is : List (Lined Inst)) → largest_in (map (promoted_line w) is) ≡ largest_in is
largest_line w [] = refl
largest_line w (i ∷ is) =
    ap (λ n. max n (largest_in (map (promoted_line w) is))) (stays w args_on_stack (λ size a at p to op op2. (refl, refl)) (λ to alignment size. refl) i.item)
    ∙ ap (max (args_on_stack i.item)) (largest_line w is)

pub largest_stays : (w : Widths) (bs : List Block) → largest_of (map (promoted_block w) bs) ≡ largest_of bs
largest_stays w [] = refl
largest_stays w (b ∷ bs) =
    ap (λ n. max n (largest_of (map (promoted_block w) bs))) (largest_line w b.insts) ∙ ap (max (largest_in b.insts)) (largest_stays w bs)

pub same_weight : (w : Widths) (f g : Func) → Rewrites w f g → weight g ≡ weight f
same_weight w f g r =
    ap (λ (ps : List Param). length ps + sum_by block_weight g.blocks) r.params
    ∙ ap (λ n. length f.params + n) (ap (sum_by block_weight) r.blocks ∙ weight_stays w f.blocks)

round_less : (n k : ℕ) → n ≤ k → round_16 n ≤ round_16 k
round_less n k le = omega (arith, le)

pub least_need : (w : Widths) (f g : Func) → Rewrites w f g → need g ≤ need f
least_need w f g r =
    let area = least_area w f g r in
    let temps : length g.temps ≡ length f.temps = ap length r.temps in
    let phis : phi_count g ≡ phi_count f = ap (sum_by (λ (b : Block). length b.phis)) r.blocks ∙ phis_stay w f.blocks in
    let largest : largest_of g.blocks ≡ largest_of f.blocks = ap largest_of r.blocks ∙ largest_stays w f.blocks in
    round_less (alloc_area g + 8 * (length g.temps + phi_count g + largest_of g.blocks + 16)) (alloc_area f + 8 * (length f.temps + phi_count f + largest_of f.blocks + 16))
    (sum_most (alloc_area g) (alloc_area f) (length g.temps) (length f.temps) (phi_count g) (phi_count f) (largest_of g.blocks) (largest_of f.blocks) area temps phis largest)
  where
    sum_most : (a b c d e f g h : ℕ) → a ≤ b → c ≡ d → e ≡ f → g ≡ h → a + 8 * (c + e + g + 16) ≤ b + 8 * (d + f + h + 16)
    sum_most a b c d e f g h le x y z = omega (arith, le, x, y, z)

-- ---- where temporaries are assigned

any_all : {X Y : Type 0} (p : Y → Bool) (f g : X → List Y) → ((x : X) → list_any p (f x) ≡ list_any p (g x)) → (xs : List X) → list_any p (flat_map f xs) ≡ list_any p (flat_map g xs)
any_all p f g h [] = refl
any_all p f g h (x ∷ xs) =
    list_any-append p (f x) (flat_map f xs)
    ∙ (ap (λ b. b || list_any p (flat_map f xs)) (h x)
    ∙ (ap (λ b. list_any p (g x) || b) (any_all p f g h xs) ∙ sym (list_any-append p (g x) (flat_map g xs))))

-- a test of definers that no store's destination passes stays as it is
abbrev Misses : Widths → (Definer → Bool) → Type 0
Misses w p = (line t : ℕ) (s : Size) → w t ≡ Some s → p (definer line (record { temp = t; class = L })) ≡ false

or_none : (b : Bool) → b ≡ false → (b || false) ≡ false
or_none b e = ap (λ x. x || false) e

unary_any : (p : Definer → Bool) (line : ℕ) (to : Dest) (op : UnaryOp) (t : ℕ) (o : Option Size) → list_any p (item_definers line (taken_from o to op t)) ≡ list_any p (definer line to ∷ [])
unary_any p line to op t None = refl
unary_any p line to op t (Some s) = refl

alloc_any : (p : Definer → Bool) (line : ℕ) (to : Dest) (alignment : Aligned) (size : ℕ) (o : Option Size) → list_any p (item_definers line (made_in o to alignment size)) ≡ list_any p (definer line to ∷ [])
alloc_any p line to alignment size None = refl
alloc_any p line to alignment size (Some s) = refl

store_any : (w : Widths) (p : Definer → Bool) → Misses w p → (line : ℕ) (size : Size) (a : Val) (t : ℕ) (o : Option Size) → w t ≡ o → list_any p (item_definers line (stored_in o size a t)) ≡ false
store_any w p h line size a t None e = refl
store_any w p h line size a t (Some s) e = or_none (p (definer line (record { temp = t; class = L }))) (h line t s e)

item_any : (w : Widths) (p : Definer → Bool) → Misses w p → (line : ℕ) (i : Inst) → list_any p (item_definers line (promoted w i)) ≡ list_any p (item_definers line i)
item_any w p h line (Unary to op (Int n)) = refl
item_any w p h line (Unary to op (Temp t)) = unary_any p line to op t (w t)
item_any w p h line (Unary to op (Global g)) = refl
item_any w p h line (Binary to op a b) = refl
item_any w p h line (Alloc to alignment size) = alloc_any p line to alignment size (w to.temp)
item_any w p h line (Store size a (Int n)) = refl
item_any w p h line (Store size a (Temp t)) = store_any w p h line size a t (w t) refl
item_any w p h line (Store size a (Global g)) = refl
item_any w p h line (Blit from to count) = refl
item_any w p h line (Call to callee args) = refl

-- the definers of a function with these parameters and blocks
abbrev definers_in : List Param → List Block → List Definer
definers_in params blocks = flat_map param_definers params ++ flat_map block_definers blocks

block_any : (w : Widths) (p : Definer → Bool) → Misses w p → (b : Block) → list_any p (block_definers (promoted_block w b)) ≡ list_any p (block_definers b)
block_any w p h b =
    list_any-append p (flat_map phi_definers b.phis) (flat_map inst_definers (map (promoted_line w) b.insts))
    ∙ (ap (λ x. list_any p (flat_map phi_definers b.phis) || x)
    (ap (list_any p) (map_flat (promoted_line w) inst_definers b.insts)
    ∙ any_all p (λ i. inst_definers (promoted_line w i)) inst_definers (λ i. item_any w p h i.line i.item) b.insts)
    ∙ sym (list_any-append p (flat_map phi_definers b.phis) (flat_map inst_definers b.insts)))

any_stays : (w : Widths) (p : Definer → Bool) → Misses w p → (params : List Param) (blocks : List Block) → list_any p (definers_in params (map (promoted_block w) blocks)) ≡ list_any p (definers_in params blocks)
any_stays w p h params blocks =
    list_any-append p (flat_map param_definers params) (flat_map block_definers (map (promoted_block w) blocks))
    ∙ (ap (λ x. list_any p (flat_map param_definers params) || x)
    (ap (list_any p) (map_flat (promoted_block w) block_definers blocks)
    ∙ any_all p (λ b. block_definers (promoted_block w b)) block_definers (block_any w p h) blocks)
    ∙ sym (list_any-append p (flat_map param_definers params) (flat_map block_definers blocks)))

-- ---- which class a temporary has

abbrev given : Class → ℕ → Definer → Bool
given c t d = nat_eq d.temp t && same_class d.class c

word_stays : (w : Widths) (params : List Param) (blocks : List Block) (t : ℕ) → is_given W t (definers_in params (map (promoted_block w) blocks)) ≡ is_given W t (definers_in params blocks)
word_stays w params blocks t = any_stays w (given W t) (λ line p s e. and_false (nat_eq p t)) params blocks

unequal : (w : Widths) (p t : ℕ) (s : Size) (b : Bool) → nat_eq p t ≡ b → w p ≡ Some s → w t ≡ None → (b && true) ≡ false
unequal w p t s false e h k = refl
unequal w p t s true e h k =
    let same : p ≡ t = eqb-true p t e in let both : w p ≡ w t = ap w same in absurd (let no : ⊥ = cc in no)

plain_misses : (w : Widths) (t : ℕ) → w t ≡ None → Misses w (given L t)
plain_misses w t k line p s e = unequal w p t s (nat_eq p t) refl e k

long_stays : (w : Widths) (params : List Param) (blocks : List Block) (t : ℕ) → w t ≡ None → is_given L t (definers_in params (map (promoted_block w) blocks)) ≡ is_given L t (definers_in params blocks)
long_stays w params blocks t k = any_stays w (given L t) (plain_misses w t k) params blocks

-- what is given as a long still is
abbrev Implies : Bool → Bool → Type 0
Implies a b = a ≡ true → b ≡ true

or_implies : (a b c d : Bool) → Implies a c → Implies b d → Implies (a || b) (c || d)
or_implies true b true d h k e = refl
or_implies true b false d h k e = absurd (let e : false ≡ true = h refl in let no : ⊥ = cc in no)
or_implies false b true d h k e = refl
or_implies false b false d h k e = k e

any_implies : {X Y : Type 0} (p : Y → Bool) (f g : X → List Y) → ((x : X) → Implies (list_any p (f x)) (list_any p (g x))) → (xs : List X) → Implies (list_any p (flat_map f xs)) (list_any p (flat_map g xs))
any_implies p f g h [] e = e
any_implies p f g h (x ∷ xs) e =
    list_any-append p (g x) (flat_map g xs)
    ∙ or_implies (list_any p (f x)) (list_any p (flat_map f xs)) (list_any p (g x)) (list_any p (flat_map g xs)) (h x) (any_implies p f g h xs)
    (sym (list_any-append p (f x) (flat_map f xs)) ∙ e)

item_implies : (w : Widths) (p : Definer → Bool) (line : ℕ) (i : Inst) → Implies (list_any p (item_definers line i)) (list_any p (item_definers line (promoted w i)))
item_implies w p line (Unary to op (Int n)) e = e
item_implies w p line (Unary to op (Temp t)) e = unary_any p line to op t (w t) ∙ e
item_implies w p line (Unary to op (Global g)) e = e
item_implies w p line (Binary to op a b) e = e
item_implies w p line (Alloc to alignment size) e = alloc_any p line to alignment size (w to.temp) ∙ e
item_implies w p line (Store size a at) e = absurd (let no : ⊥ = cc in no)
item_implies w p line (Blit from to count) e = e
item_implies w p line (Call to callee args) e = e

block_implies : (w : Widths) (p : Definer → Bool) (b : Block) → Implies (list_any p (block_definers b)) (list_any p (block_definers (promoted_block w b)))
block_implies w p b e =
    list_any-append p (flat_map phi_definers b.phis) (flat_map inst_definers (map (promoted_line w) b.insts))
    ∙ or_implies (list_any p (flat_map phi_definers b.phis)) (list_any p (flat_map inst_definers b.insts)) (list_any p (flat_map phi_definers b.phis))
    (list_any p (flat_map inst_definers (map (promoted_line w) b.insts))) (λ h. h)
    (λ h. ap (list_any p) (map_flat (promoted_line w) inst_definers b.insts)
    ∙ any_implies p inst_definers (λ i. inst_definers (promoted_line w i)) (λ i. item_implies w p i.line i.item) b.insts h)
    (sym (list_any-append p (flat_map phi_definers b.phis) (flat_map inst_definers b.insts)) ∙ e)

given_still : (w : Widths) (p : Definer → Bool) (params : List Param) (blocks : List Block) → Implies (list_any p (definers_in params blocks)) (list_any p (definers_in params (map (promoted_block w) blocks)))
given_still w p params blocks e =
    list_any-append p (flat_map param_definers params) (flat_map block_definers (map (promoted_block w) blocks))
    ∙ or_implies (list_any p (flat_map param_definers params)) (list_any p (flat_map block_definers blocks)) (list_any p (flat_map param_definers params))
    (list_any p (flat_map block_definers (map (promoted_block w) blocks))) (λ h. h)
    (λ h. ap (list_any p) (map_flat (promoted_block w) block_definers blocks)
    ∙ any_implies p block_definers (λ b. block_definers (promoted_block w b)) (block_implies w p) blocks h)
    (sym (list_any-append p (flat_map param_definers params) (flat_map block_definers blocks)) ∙ e)

-- ---- operands

fits_same : (ds es : List Definer) → ((t : ℕ) → is_given W t ds ≡ is_given W t es) → (c : Class) (a : Val) → fits ds c a ≡ fits es c a
fits_same ds es h c (Int n) = refl
fits_same ds es h W (Temp t) = refl
fits_same ds es h L (Temp t) = ap not (h t)
fits_same ds es h W (Global g) = refl
fits_same ds es h L (Global g) = refl

-- a test of operands that a `w` place passes with every temporary that an `l` place passes with, and each place with 0
abbrev Passes : (Operand → Option ℕ) → Type 0
Passes f = (line t : ℕ) (c : Class) → (f (operand_at line L (Temp t)) ≡ None → f (operand_at line W (Temp t)) ≡ None) × (f (operand_at line c (Int 0)) ≡ None)

pub store_class : (size : Size) → operand_class (storing size) L ≡ stored_class size
store_class Byte = refl
store_class Half = refl
store_class Word = refl
store_class Long = refl

both_none : (a : Option ℕ) → a ≡ None → or_else a None ≡ None
both_none a e = ap (λ x. or_else x None) e

load_none : (f : Operand → Option ℕ) → Passes f → (line : ℕ) (op : UnaryOp) (c : Class) (t : ℕ) → first f (operand_at line (operand_class op c) (Temp t) ∷ []) ≡ None → first f (operand_at line (operand_class (loading op c) c) (Temp t) ∷ []) ≡ None
load_none f h line Neg c t e = e
load_none f h line Copy c t e = e
load_none f h line (Extend x) c t e = e
load_none f h line LoadLong W t e = both_none (f (operand_at line W (Temp t))) ((h line t W).0 (none_first (f (operand_at line L (Temp t))) None e).0)
load_none f h line LoadLong L t e = e
load_none f h line (Load SignedWord) W t e = both_none (f (operand_at line W (Temp t))) ((h line t W).0 (none_first (f (operand_at line L (Temp t))) None e).0)
load_none f h line (Load UnsignedWord) W t e = both_none (f (operand_at line W (Temp t))) ((h line t W).0 (none_first (f (operand_at line L (Temp t))) None e).0)
load_none f h line (Load x) c t e = both_none (f (operand_at line W (Temp t))) ((h line t W).0 (none_first (f (operand_at line L (Temp t))) None e).0)

-- the tests f and g agree on operands that f lets pass
abbrev Follows : (f g : Operand → Option ℕ) → Type 0
Follows f g = (o : Operand) → f o ≡ None → g o ≡ None

unary_none : (f g : Operand → Option ℕ) → Follows f g → Passes g → (line : ℕ) (to : Dest) (op : UnaryOp) (t : ℕ) (o : Option Size) → first f (item_operands line (Unary to op (Temp t))) ≡ None → first g (item_operands line (taken_from o to op t)) ≡ None
unary_none f g h k line to op t None e = none_each f g h (item_operands line (Unary to op (Temp t))) e
unary_none f g h k line to op t (Some s) e =
    load_none g k line op to.class t (none_each f g h (item_operands line (Unary to op (Temp t))) e)

store_none : (f g : Operand → Option ℕ) → Follows f g → (line : ℕ) (size : Size) (a : Val) (t : ℕ) (o : Option Size) → first f (item_operands line (Store size a (Temp t))) ≡ None → first g (item_operands line (stored_in o size a t)) ≡ None
store_none f g h line size a t None e = none_each f g h (item_operands line (Store size a (Temp t))) e
store_none f g h line size a t (Some s) e =
    let parts = none_first (f (operand_at line (stored_class size) a)) (first f (operand_at line L (Temp t) ∷ [])) e in
    both_none (g (operand_at line (operand_class (storing size) L) a))
    (ap (λ c. g (operand_at line c a)) (store_class size) ∙ h (operand_at line (stored_class size) a) parts.0)

made_none : (g : Operand → Option ℕ) → Passes g → (line : ℕ) (to : Dest) (alignment : Aligned) (size : ℕ) (o : Option Size) → first g (item_operands line (made_in o to alignment size)) ≡ None
made_none g k line to alignment size None = refl
made_none g k line to alignment size (Some s) = both_none (g (operand_at line to.class (Int 0))) (k line 0 to.class).1

item_none : (w : Widths) (f g : Operand → Option ℕ) → Follows f g → Passes g → (line : ℕ) (i : Inst) → first f (item_operands line i) ≡ None → first g (item_operands line (promoted w i)) ≡ None
item_none w f g h k line (Unary to op (Int n)) e = none_each f g h (item_operands line (Unary to op (Int n))) e
item_none w f g h k line (Unary to op (Temp t)) e = unary_none f g h k line to op t (w t) e
item_none w f g h k line (Unary to op (Global s)) e = none_each f g h (item_operands line (Unary to op (Global s))) e
item_none w f g h k line (Binary to op a b) e = none_each f g h (item_operands line (Binary to op a b)) e
item_none w f g h k line (Alloc to alignment size) e = made_none g k line to alignment size (w to.temp)
item_none w f g h k line (Store size a (Int n)) e = none_each f g h (item_operands line (Store size a (Int n))) e
item_none w f g h k line (Store size a (Temp t)) e = store_none f g h line size a t (w t) e
item_none w f g h k line (Store size a (Global s)) e = none_each f g h (item_operands line (Store size a (Global s))) e
item_none w f g h k line (Blit from to count) e = none_each f g h (item_operands line (Blit from to count)) e
item_none w f g h k line (Call to callee args) e = none_each f g h (item_operands line (Call to callee args)) e

block_none : (w : Widths) (f g : Operand → Option ℕ) → Follows f g → Passes g → (b : Block) → first f (block_operands b) ≡ None → first g (block_operands (promoted_block w b)) ≡ None
block_none w f g h k b =
    none_two f g (flat_map phi_operands b.phis) (flat_map inst_operands b.insts ++ end_operands b.jump) (flat_map phi_operands b.phis)
    (flat_map inst_operands (map (promoted_line w) b.insts) ++ end_operands b.jump) (none_each f g h (flat_map phi_operands b.phis))
    (none_two f g (flat_map inst_operands b.insts) (end_operands b.jump) (flat_map inst_operands (map (promoted_line w) b.insts)) (end_operands b.jump)
    (λ e. ap (first g) (map_flat (promoted_line w) inst_operands b.insts)
    ∙ none_all f g inst_operands (λ i. inst_operands (promoted_line w i)) (λ i. item_none w f g h k i.line i.item) b.insts e)
    (none_each f g h (end_operands b.jump)))

operands_none : (w : Widths) (f g : Operand → Option ℕ) → Follows f g → Passes g → (bs : List Block) → first f (flat_map block_operands bs) ≡ None → first g (flat_map block_operands (map (promoted_block w) bs)) ≡ None
operands_none w f g h k bs e =
    ap (first g) (map_flat (promoted_block w) block_operands bs)
    ∙ none_all f g block_operands (λ b. block_operands (promoted_block w b)) (block_none w f g h k) bs e

-- ---- promoted temporaries are never words

-- no alloc's destination is a word
abbrev Right : ℕ → Inst → Type 0
Right line i = when (has_wrong_result i) line ≡ None

not_used : (w : Widths) (p t : ℕ) (s : Size) (c : Class) (b : Bool) → w p ≡ Some s → nat_eq t p ≡ b → Suited w (record { temp = t; role = Used }) → (b && same_class c W) ≡ false
not_used w p t s c false e h k = refl
not_used w p t s c true e h k =
    let same : t ≡ p = eqb-true t p h in let no : false ≡ true = k s (ap w same ∙ e) in absurd (let never : ⊥ = cc in never)

one_never : (b : Bool) → b ≡ false → (b || false) ≡ false
one_never b e = ap (λ x. x || false) e

used_never : (w : Widths) (p : ℕ) (s : Size) (line : ℕ) (to : Dest) → w p ≡ Some s → Suited w (record { temp = to.temp; role = Used }) → list_any (given W p) (definer line to ∷ []) ≡ false
used_never w p s line to e k = one_never (given W p (definer line to)) (not_used w p to.temp s to.class (nat_eq to.temp p) e refl k)

alloc_never : (p line t : ℕ) (c : Class) → when (is_word c) line ≡ None → (nat_eq t p && same_class c W) ≡ false
alloc_never p line t W e = absurd (let no : ⊥ = cc in no)
alloc_never p line t L e = and_false (nat_eq t p)

item_never : (w : Widths) (p : ℕ) (s : Size) (line : ℕ) (i : Inst) → w p ≡ Some s → Respected w (item_mentions i) → Right line i → list_any (given W p) (item_definers line i) ≡ false
item_never w p s line (Unary to op a) e h r = used_never w p s line to e h.0
item_never w p s line (Binary to op a b) e h r = used_never w p s line to e h.0
item_never w p s line (Alloc to alignment size) e h r = one_never (given W p (definer line to)) (alloc_never p line to.temp to.class r)
item_never w p s line (Store size a at) e h r = refl
item_never w p s line (Blit from to count) e h r = refl
item_never w p s line (Call None callee args) e h r = refl
item_never w p s line (Call (Some to) callee args) e h r = used_never w p s line to e h.0

never_both : (p : Definer → Bool) (xs ys : List Definer) → list_any p xs ≡ false → list_any p ys ≡ false → list_any p (xs ++ ys) ≡ false
never_both p xs ys h k = list_any-append p xs ys ∙ (ap (λ b. b || list_any p ys) h ∙ k)

insts_never : (w : Widths) (p : ℕ) (s : Size) (is : List (Lined Inst)) → w p ≡ Some s → Respected w (flat_map inst_mentions is) → first (λ (i : Lined Inst). when (has_wrong_result i.item) i.line) is ≡ None → list_any (given W p) (flat_map inst_definers is) ≡ false
insts_never w p s [] e h r = refl
insts_never w p s (i ∷ is) e h r =
    let parts = none_first (when (has_wrong_result i.item) i.line) (first (λ (i : Lined Inst). when (has_wrong_result i.item) i.line) is) r in
    never_both (given W p) (inst_definers i) (flat_map inst_definers is)
    (item_never w p s i.line i.item e (respected_first w (inst_mentions i) (flat_map inst_mentions is) h) parts.0)
    (insts_never w p s is e (respected_then w (inst_mentions i) (flat_map inst_mentions is) h) parts.1)

phis_never : (w : Widths) (p : ℕ) (s : Size) (ps : List Phi) → w p ≡ Some s → Respected w (flat_map phi_mentions ps) → list_any (given W p) (flat_map phi_definers ps) ≡ false
phis_never w p s [] e h = refl
phis_never w p s (q ∷ ps) e h =
    never_both (given W p) (phi_definers q) (flat_map phi_definers ps) (used_never w p s q.line q.to e h.0)
    (phis_never w p s ps e (respected_then w (phi_mentions q) (flat_map phi_mentions ps) h))

params_never : (w : Widths) (p : ℕ) (s : Size) (ps : List Param) → w p ≡ Some s → Respected w (flat_map param_mentions ps) → list_any (given W p) (flat_map param_definers ps) ≡ false
params_never w p s [] e h = refl
params_never w p s (q ∷ ps) e h =
    never_both (given W p) (param_definers q) (flat_map param_definers ps)
    (one_never (given W p (record { line = q.line; temp = q.temp; class = q.class })) (not_used w p q.temp s q.class (nat_eq q.temp p) e refl h.0))
    (params_never w p s ps e (respected_then w (param_mentions q) (flat_map param_mentions ps) h))

blocks_never : (w : Widths) (p : ℕ) (s : Size) (bs : List Block) → w p ≡ Some s → Respected w (flat_map block_mentions bs) → in_insts has_wrong_result bs ≡ None → list_any (given W p) (flat_map block_definers bs) ≡ false
blocks_never w p s [] e h r = refl
blocks_never w p s (b ∷ bs) e h r =
    let parts = none_first (first (λ (i : Lined Inst). when (has_wrong_result i.item) i.line) b.insts) (in_insts has_wrong_result bs) r in
    let here = respected_first w (block_mentions b) (flat_map block_mentions bs) h in
    let later = respected_then w (flat_map phi_mentions b.phis) (flat_map inst_mentions b.insts ++ end_mentions b.jump) here in
    never_both (given W p) (block_definers b) (flat_map block_definers bs)
    (never_both (given W p) (flat_map phi_definers b.phis) (flat_map inst_definers b.insts)
    (phis_never w p s b.phis e (respected_first w (flat_map phi_mentions b.phis) (flat_map inst_mentions b.insts ++ end_mentions b.jump) here))
    (insts_never w p s b.insts e (respected_first w (flat_map inst_mentions b.insts) (end_mentions b.jump) later) parts.0))
    (blocks_never w p s bs e (respected_then w (block_mentions b) (flat_map block_mentions bs) h) parts.1)

never_word : (w : Widths) (f : Func) (p : ℕ) (s : Size) → Respected w (mentions_of f) → in_insts has_wrong_result f.blocks ≡ None → w p ≡ Some s → is_given W p (definers_of f) ≡ false
never_word w f p s h r e =
    never_both (given W p) (flat_map param_definers f.params) (flat_map block_definers f.blocks)
    (params_never w p s f.params e (respected_first w (flat_map param_mentions f.params) (flat_map block_mentions f.blocks) h))
    (blocks_never w p s f.blocks e (respected_then w (flat_map param_mentions f.params) (flat_map block_mentions f.blocks) h) r)

-- ---- one type

-- what is said of each definer's temporary holds of a temporary that is given
at_given_one : (bad : ℕ → Bool) (c : Class) (t : ℕ) (d : Definer) (ds : List Definer) (b k : Bool) → nat_eq d.temp t ≡ b → same_class d.class c ≡ k → when (bad d.temp) d.line ≡ None → (is_given c t ds ≡ true → bad t ≡ false) → ((b && k) || is_given c t ds) ≡ true → bad t ≡ false
at_given_one bad c t d ds true true e f none h is =
    let same : d.temp ≡ t = eqb-true d.temp t e in ap bad (sym same) ∙ when_false (bad d.temp) d.line none
at_given_one bad c t d ds true false e f none h is = h is
at_given_one bad c t d ds false k e f none h is = h is

at_given : (bad : ℕ → Bool) (c : Class) (t : ℕ) (ds : List Definer) → first (λ (d : Definer). when (bad d.temp) d.line) ds ≡ None → is_given c t ds ≡ true → bad t ≡ false
at_given bad c t [] none e = absurd (let no : ⊥ = cc in no)
at_given bad c t (d ∷ ds) none e =
    let parts = none_first (when (bad d.temp) d.line) (first (λ (d : Definer). when (bad d.temp) d.line) ds) none in
    at_given_one bad c t d ds (nat_eq d.temp t) (same_class d.class c) refl refl parts.0 (at_given bad c t ds parts.1) e

class_of : (w : Widths) (f : Func) (t : ℕ) → Respected w (mentions_of f) → two_types f ≡ None → misplaced f ≡ None → (o : Option Size) → w t ≡ o → (b : Bool) → is_given W t (definers_of f) ≡ b → (b && is_given L t (definers_in f.params (map (promoted_block w) f.blocks))) ≡ false
class_of w f t h two mis o e false k = refl
class_of w f t h two mis None e true k =
    let bad = at_given (λ n. is_given W n (definers_of f) && is_given L n (definers_of f)) W t (definers_of f) two k in
    long_stays w f.params f.blocks t e ∙ (ap (λ b. b && is_given L t (definers_of f)) (sym k) ∙ bad)
class_of w f t h two mis (Some s) e true k =
    let wrong = (none_first _ (in_insts has_wrong_result f.blocks) mis).1 in
    let no = never_word w f t s h wrong e in absurd (let never : ⊥ = cc in never)

one_class : (w : Widths) (f : Func) (bs : List Block) → Respected w (mentions_of f) → two_types f ≡ None → misplaced f ≡ None → bs ≡ map (promoted_block w) f.blocks → (t : ℕ) → (is_given W t (definers_in f.params bs) && is_given L t (definers_in f.params bs)) ≡ false
one_class w f bs h two mis e t =
    ap (λ cs. is_given W t (definers_in f.params cs) && is_given L t (definers_in f.params cs)) e
    ∙ (ap (λ b. b && is_given L t (definers_in f.params (map (promoted_block w) f.blocks))) (word_stays w f.params f.blocks t)
    ∙ class_of w f t h two mis (w t) refl (is_given W t (definers_of f)) refl)

-- ---- labels

flat_same : {Y : Type 0} (w : Widths) (f : Block → List Y) → ((b : Block) → f (promoted_block w b) ≡ f b) → (bs : List Block) → flat_map f (map (promoted_block w) bs) ≡ flat_map f bs
flat_same w f h = flat_map_map f f (promoted_block w) h

label_stays : (w : Widths) (bs : List Block) (l : ℕ) → is_label (map (promoted_block w) bs) l ≡ is_label bs l
label_stays w bs l = any_map (λ (b : Block). nat_eq b.label l) (λ (b : Block). nat_eq b.label l) (promoted_block w) (λ b. refl) bs

entry_stays : (w : Widths) (bs : List Block) (l : ℕ) → is_entry (map (promoted_block w) bs) l ≡ is_entry bs l
entry_stays w [] l = refl
entry_stays w (b ∷ bs) l = refl

sites_stay : (w : Widths) (bs : List Block) → label_sites (map (promoted_block w) bs) ≡ label_sites bs
sites_stay w [] = refl
sites_stay w (b ∷ bs) = ap (λ ss. record { line = b.line; number = b.label } ∷ ss) (sites_stay w bs)

abbrev unknown_in : List Block → List Site → Option ℕ
unknown_in bs sites = first (λ (s : Site). when (not (is_label bs s.number)) s.line) sites

unknown_stays : (w : Widths) (bs : List Block) → or_else (unknown_in (map (promoted_block w) bs) (flat_map block_targets (map (promoted_block w) bs))) (unknown_in (map (promoted_block w) bs) (flat_map sources_in (map (promoted_block w) bs))) ≡ or_else (unknown_in bs (flat_map block_targets bs)) (unknown_in bs (flat_map sources_in bs))
unknown_stays w bs =
    let labels : is_label (map (promoted_block w) bs) ≡ is_label bs = fun_ext (label_stays w bs) in
    let targets : flat_map block_targets (map (promoted_block w) bs) ≡ flat_map block_targets bs = flat_same w block_targets (λ b. refl) bs in
    let sources : flat_map sources_in (map (promoted_block w) bs) ≡ flat_map sources_in bs = flat_same w sources_in (λ b. refl) bs in
    ap (λ (p : ℕ → Bool). or_else (first (λ (s : Site). when (not (p s.number)) s.line) (flat_map block_targets (map (promoted_block w) bs))) (first (λ (s : Site). when (not (p s.number)) s.line) (flat_map sources_in (map (promoted_block w) bs)))) labels
    ∙ (ap (λ (ts : List Site). or_else (unknown_in bs ts) (unknown_in bs (flat_map sources_in (map (promoted_block w) bs)))) targets
    ∙ ap (λ (ts : List Site). or_else (unknown_in bs (flat_map block_targets bs)) (unknown_in bs ts)) sources)

to_entry_stays : (w : Widths) (bs : List Block) → first (λ (s : Site). when (is_entry (map (promoted_block w) bs) s.number) s.line) (flat_map block_targets (map (promoted_block w) bs)) ≡ first (λ (s : Site). when (is_entry bs s.number) s.line) (flat_map block_targets bs)
to_entry_stays w bs =
    let entry : is_entry (map (promoted_block w) bs) ≡ is_entry bs = fun_ext (entry_stays w bs) in
    let targets : flat_map block_targets (map (promoted_block w) bs) ≡ flat_map block_targets bs = flat_same w block_targets (λ b. refl) bs in
    ap (λ (p : ℕ → Bool). first (λ (s : Site). when (p s.number) s.line) (flat_map block_targets (map (promoted_block w) bs))) entry
    ∙ ap (first (λ (s : Site). when (is_entry bs s.number) s.line)) targets

-- ---- phis

predecessor_stays : (w : Widths) (bs : List Block) (l from : ℕ) → is_predecessor (map (promoted_block w) bs) l from ≡ is_predecessor bs l from
predecessor_stays w bs l from =
    any_map (λ (b : Block). nat_eq b.label from && jumps_to l b.jump) (λ (b : Block). nat_eq b.label from && jumps_to l b.jump) (promoted_block w) (λ b. refl) bs

covers_stays : (w : Widths) (bs : List Block) (l : ℕ) (args : List PhiArg) → covers (map (promoted_block w) bs) l args ≡ covers bs l args
covers_stays w bs l args =
    ap (λ (p : ℕ → Bool). list_all (λ (a : PhiArg). nat_eq (names_from a.from args) 1 && p a.from) args
    && list_all (λ (b : Block). not (jumps_to l b.jump) || nat_lt 0 (names_from b.label args)) (map (promoted_block w) bs)) (fun_ext (predecessor_stays w bs l))
    ∙ ap (λ x. list_all (λ (a : PhiArg). nat_eq (names_from a.from args) 1 && is_predecessor bs l a.from) args && x)
    (all_map (λ (b : Block). not (jumps_to l b.jump) || nat_lt 0 (names_from b.label args)) (λ (b : Block). not (jumps_to l b.jump) || nat_lt 0 (names_from b.label args))
    (promoted_block w) (λ b. refl) bs)

uncovered_stays : (w : Widths) (bs : List Block) (b : Block) → uncovered_in (map (promoted_block w) bs) (promoted_block w b) ≡ uncovered_in bs b
uncovered_stays w bs b =
    ap (λ (p : List PhiArg → Bool). or_else (first_repeated (phi_sites b.phis)) (first (λ (q : Phi). when (not (p q.args)) q.line) b.phis))
    (fun_ext (covers_stays w bs b.label))

all_uncovered : (w : Widths) (bs : List Block) → first (uncovered_in (map (promoted_block w) bs)) (map (promoted_block w) bs) ≡ first (uncovered_in bs) bs
all_uncovered w bs = first_map (uncovered_in (map (promoted_block w) bs)) (uncovered_in bs) (promoted_block w) (uncovered_stays w bs) bs

-- ---- results, allocs, returns

loaded_right : (op : UnaryOp) (to : Dest) (c : Class) (t line : ℕ) → when (is_long_only op && is_word c) line ≡ None → when (is_long_only (loading op c) && is_word c) line ≡ None
loaded_right Neg to c t line e = e
loaded_right Copy to c t line e = e
loaded_right (Extend x) to c t line e = e
loaded_right LoadLong to c t line e = refl
loaded_right (Load SignedWord) to W t line e = refl
loaded_right (Load UnsignedWord) to W t line e = refl
loaded_right (Load SignedHalf) to W t line e = refl
loaded_right (Load UnsignedHalf) to W t line e = refl
loaded_right (Load SignedByte) to W t line e = refl
loaded_right (Load UnsignedByte) to W t line e = refl
loaded_right (Load SignedWord) to L t line e = refl
loaded_right (Load UnsignedWord) to L t line e = refl
loaded_right (Load SignedHalf) to L t line e = refl
loaded_right (Load UnsignedHalf) to L t line e = refl
loaded_right (Load SignedByte) to L t line e = refl
loaded_right (Load UnsignedByte) to L t line e = refl

taken_right : (to : Dest) (op : UnaryOp) (t line : ℕ) (o : Option Size) → when (has_wrong_result (Unary to op (Temp t))) line ≡ None → when (has_wrong_result (taken_from o to op t)) line ≡ None
taken_right to op t line None e = e
taken_right to op t line (Some s) e = loaded_right op to to.class t line e

stored_right : (size : Size) (a : Val) (t line : ℕ) (o : Option Size) → when (has_wrong_result (stored_in o size a t)) line ≡ None
stored_right size a t line None = refl
stored_right Byte a t line (Some s) = refl
stored_right Half a t line (Some s) = refl
stored_right Word a t line (Some s) = refl
stored_right Long a t line (Some s) = refl

made_right : (to : Dest) (alignment : Aligned) (size line : ℕ) (o : Option Size) → when (has_wrong_result (Alloc to alignment size)) line ≡ None → when (has_wrong_result (made_in o to alignment size)) line ≡ None
made_right to alignment size line None e = e
made_right to alignment size line (Some s) e = refl

wrong_result_stays : (i : Inst) (line : ℕ) (w : Widths) → when (has_wrong_result i) line ≡ None → when (has_wrong_result (promoted w i)) line ≡ None
wrong_result_stays (Unary to op (Int n)) line w e = e
wrong_result_stays (Unary to op (Temp t)) line w e = taken_right to op t line (w t) e
wrong_result_stays (Unary to op (Global g)) line w e = e
wrong_result_stays (Binary to op a b) line w e = e
wrong_result_stays (Alloc to alignment size) line w e = made_right to alignment size line (w to.temp) e
wrong_result_stays (Store size a (Int n)) line w e = e
wrong_result_stays (Store size a (Temp t)) line w e = stored_right size a t line (w t)
wrong_result_stays (Store size a (Global g)) line w e = e
wrong_result_stays (Blit from to count) line w e = e
wrong_result_stays (Call to callee args) line w e = e

insts_right : (w : Widths) (is : List (Lined Inst)) → first (λ (i : Lined Inst). when (has_wrong_result i.item) i.line) is ≡ None → first (λ (i : Lined Inst). when (has_wrong_result i.item) i.line) (map (promoted_line w) is) ≡ None
insts_right w [] e = refl
insts_right w (i ∷ is) e =
    let parts = none_first (when (has_wrong_result i.item) i.line) (first (λ (i : Lined Inst). when (has_wrong_result i.item) i.line) is) e in
    none_both (when (has_wrong_result (promoted w i.item)) i.line) (first (λ (i : Lined Inst). when (has_wrong_result i.item) i.line) (map (promoted_line w) is))
    (wrong_result_stays i.item i.line w parts.0) (insts_right w is parts.1)

results_right : (w : Widths) (bs : List Block) → in_insts has_wrong_result bs ≡ None → in_insts has_wrong_result (map (promoted_block w) bs) ≡ None
results_right w [] e = refl
results_right w (b ∷ bs) e =
    let parts = none_first (first (λ (i : Lined Inst). when (has_wrong_result i.item) i.line) b.insts) (in_insts has_wrong_result bs) e in
    none_both (first (λ (i : Lined Inst). when (has_wrong_result i.item) i.line) (map (promoted_line w) b.insts)) (in_insts has_wrong_result (map (promoted_block w) bs))
    (insts_right w b.insts parts.0) (results_right w bs parts.1)

-- a test that nothing but allocs fail
abbrev AllocsAlone : (Inst → Bool) → Type 0
AllocsAlone f = (to : Dest) (op : UnaryOp) (a : Val) → f (Unary to op a) ≡ false

unary_alone : (f : Inst → Bool) → AllocsAlone f → (to : Dest) (op : UnaryOp) (p : ℕ) (o : Option Size) → f (taken_from o to op p) ≡ false
unary_alone f h to op p None = h to op (Temp p)
unary_alone f h to op p (Some s) = h to (loading op to.class) (Temp p)

store_alone : (f : Inst → Bool) → AllocsAlone f → (size : Size) (a : Val) (p : ℕ) (o : Option Size) → f (Store size a (Temp p)) ≡ false → f (stored_in o size a p) ≡ false
store_alone f h size a p None e = e
store_alone f h size a p (Some s) e = h (record { temp = p; class = L }) (storing size) a

made_alone : (f : Inst → Bool) → AllocsAlone f → (to : Dest) (alignment : Aligned) (size : ℕ) (o : Option Size) → f (Alloc to alignment size) ≡ false → f (made_in o to alignment size) ≡ false
made_alone f h to alignment size None e = e
made_alone f h to alignment size (Some s) e = h to Copy (Int 0)

item_alone : (w : Widths) (f : Inst → Bool) → AllocsAlone f → (i : Inst) → f i ≡ false → f (promoted w i) ≡ false
item_alone w f h (Unary to op (Int n)) e = e
item_alone w f h (Unary to op (Temp p)) e = unary_alone f h to op p (w p)
item_alone w f h (Unary to op (Global g)) e = e
item_alone w f h (Binary to op a b) e = e
item_alone w f h (Alloc to alignment size) e = made_alone f h to alignment size (w to.temp) e
item_alone w f h (Store size a (Int n)) e = e
item_alone w f h (Store size a (Temp p)) e = store_alone f h size a p (w p) e
item_alone w f h (Store size a (Global g)) e = e
item_alone w f h (Blit from to count) e = e
item_alone w f h (Call to callee args) e = e

insts_alone : (w : Widths) (f : Inst → Bool) → AllocsAlone f → (is : List (Lined Inst)) → first (λ (i : Lined Inst). when (f i.item) i.line) is ≡ None → first (λ (i : Lined Inst). when (f i.item) i.line) (map (promoted_line w) is) ≡ None
insts_alone w f h [] e = refl
insts_alone w f h (i ∷ is) e =
    let parts = none_first (when (f i.item) i.line) (first (λ (i : Lined Inst). when (f i.item) i.line) is) e in
    none_both (when (f (promoted w i.item)) i.line) (first (λ (i : Lined Inst). when (f i.item) i.line) (map (promoted_line w) is))
    (when_none (f (promoted w i.item)) i.line (item_alone w f h i.item (when_false (f i.item) i.line parts.0))) (insts_alone w f h is parts.1)

blocks_alone : (w : Widths) (f : Inst → Bool) → AllocsAlone f → (bs : List Block) → in_insts f bs ≡ None → in_insts f (map (promoted_block w) bs) ≡ None
blocks_alone w f h [] e = refl
blocks_alone w f h (b ∷ bs) e =
    let parts = none_first (first (λ (i : Lined Inst). when (f i.item) i.line) b.insts) (in_insts f bs) e in
    none_both (first (λ (i : Lined Inst). when (f i.item) i.line) (map (promoted_line w) b.insts)) (in_insts f (map (promoted_block w) bs))
    (insts_alone w f h b.insts parts.0) (blocks_alone w f h bs parts.1)

alloc_stays : (w : Widths) (bs : List Block) → wrong_alloc_in bs ≡ None → wrong_alloc_in (map (promoted_block w) bs) ≡ None
alloc_stays w [] e = refl
alloc_stays w (b ∷ bs) e =
    let parts = none_first (in_insts has_wrong_size (b ∷ [])) (in_insts is_alloc bs) e in
    none_both (in_insts has_wrong_size (promoted_block w b ∷ [])) (in_insts is_alloc (map (promoted_block w) bs))
    (blocks_alone w has_wrong_size (λ to op a. refl) (b ∷ []) parts.0) (blocks_alone w is_alloc (λ to op a. refl) bs parts.1)

-- a block returns what is right by the second test, where it is by the first
value_none : (p q : Val → Bool) → ((a : Val) → p a ≡ false → q a ≡ false) → (line : ℕ) (a : Option Val) → breaks_in p line a ≡ None → breaks_in q line a ≡ None
value_none p q h line None e = refl
value_none p q h line (Some a) e = when_none (q a) line (h a (when_false (p a) line e))

returned_none : (p q : Val → Bool) → ((a : Val) → p a ≡ false → q a ≡ false) → (j : Option (Lined Jump)) → returned_breaks p j ≡ None → returned_breaks q j ≡ None
returned_none p q h None e = refl
returned_none p q h (Some j) e = value_none p q h j.line (value_returned j.item) e

returns_none : (w : Widths) (p q : Val → Bool) → ((a : Val) → p a ≡ false → q a ≡ false) → (bs : List Block) → in_returns p bs ≡ None → in_returns q (map (promoted_block w) bs) ≡ None
returns_none w p q h [] e = refl
returns_none w p q h (b ∷ bs) e =
    let parts = none_first (returned_breaks p b.jump) (in_returns p bs) e in
    none_both (returned_breaks q b.jump) (in_returns q (map (promoted_block w) bs)) (returned_none p q h b.jump parts.0) (returns_none w p q h bs parts.1)

-- ---- each rule

definers_are : (w : Widths) (f g : Func) → Rewrites w f g → definers_of g ≡ definers_in f.params (map (promoted_block w) f.blocks)
definers_are w f g r =
    ap (λ ps. definers_in ps g.blocks) r.params ∙ ap (definers_in f.params) r.blocks

words_are : (w : Widths) (f g : Func) → Rewrites w f g → (t : ℕ) → is_given W t (definers_of g) ≡ is_given W t (definers_of f)
words_are w f g r t = ap (is_given W t) (definers_are w f g r) ∙ word_stays w f.params f.blocks t

still_given : (w : Widths) (f g : Func) → Rewrites w f g → (c : Class) (t : ℕ) → Implies (is_given c t (definers_of f)) (is_given c t (definers_of g))
still_given w f g r c t e = ap (is_given c t) (definers_are w f g r) ∙ given_still w (given c t) f.params f.blocks e

defined_still : (w : Widths) (f g : Func) → Rewrites w f g → (a : Val) → Implies (is_defined (definers_of f) a) (is_defined (definers_of g) a)
defined_still w f g r (Int n) e = refl
defined_still w f g r (Temp t) e =
    or_implies (is_given W t (definers_of f)) (is_given L t (definers_of f)) (is_given W t (definers_of g)) (is_given L t (definers_of g)) (still_given w f g r W t) (still_given w f g r L t) e
defined_still w f g r (Global s) e = refl

abbrev misfit : List Definer → Operand → Option ℕ
misfit ds o = when (not (fits ds o.class o.value)) o.line

abbrev undefined_at : List Definer → Operand → Option ℕ
undefined_at ds o = when (not (is_defined ds o.value)) o.line

fits_in : (w : Widths) (f g : Func) → Rewrites w f g → (c : Class) (a : Val) → fits (definers_of g) c a ≡ fits (definers_of f) c a
fits_in w f g r = fits_same (definers_of g) (definers_of f) (words_are w f g r)

result_fits : (w : Widths) (f g : Func) → Rewrites w f g → (c : Option Class) (a : Val) → fits_result (definers_of f) c a ≡ fits_result (definers_of g) c a
result_fits w f g r None a = refl
result_fits w f g r (Some c) a = sym (fits_in w f g r c a)

misfit_narrow : (ds : List Definer) → Passes (misfit ds)
misfit_narrow ds line t c = (λ e. refl, refl)

undefined_narrow : (ds : List Definer) → Passes (undefined_at ds)
undefined_narrow ds line t c = (λ e. e, refl)

misfit_follows : (w : Widths) (f g : Func) → Rewrites w f g → Follows (misfit (definers_of f)) (misfit (definers_of g))
misfit_follows w f g r o e = ap (λ b. when (not b) o.line) (fits_in w f g r o.class o.value) ∙ e

undefined_follows : (w : Widths) (f g : Func) → Rewrites w f g → Follows (undefined_at (definers_of f)) (undefined_at (definers_of g))
undefined_follows w f g r o e =
    when_none (not (is_defined (definers_of g) o.value)) o.line
    (not_from_true (is_defined (definers_of g) o.value)
    (defined_still w f g r o.value (not-false (is_defined (definers_of f) o.value) (when_false (not (is_defined (definers_of f) o.value)) o.line e))))

in_blocks : (w : Widths) (f g : Func) (p q : Operand → Option ℕ) → Rewrites w f g → Follows p q → Passes q → first p (operands_of f) ≡ None → first q (operands_of g) ≡ None
in_blocks w f g p q r h k e = ap (λ bs. first q (flat_map block_operands bs)) r.blocks ∙ operands_none w p q h k f.blocks e

misplaced_stays : (w : Widths) (f g : Func) → Rewrites w f g → misplaced f ≡ None → misplaced g ≡ None
misplaced_stays w f g r e =
    let parts = none_first (first (misfit (definers_of f)) (operands_of f)) (in_insts has_wrong_result f.blocks) e in
    none_both (first (misfit (definers_of g)) (operands_of g)) (in_insts has_wrong_result g.blocks)
    (in_blocks w f g (misfit (definers_of f)) (misfit (definers_of g)) r (misfit_follows w f g r) (misfit_narrow (definers_of g)) parts.0)
    (ap (in_insts has_wrong_result) r.blocks ∙ results_right w f.blocks parts.1)

wrong_return_stays : (w : Widths) (f g : Func) → Rewrites w f g → wrong_return f ≡ None → wrong_return g ≡ None
wrong_return_stays w f g r e =
    ap (in_returns (λ a. not (fits_result (definers_of g) g.result a))) r.blocks
    ∙ returns_none w (λ a. not (fits_result (definers_of f) f.result a)) (λ a. not (fits_result (definers_of g) g.result a))
    (λ a k. ap not (ap (λ c. fits_result (definers_of g) c a) r.result ∙ sym (result_fits w f g r f.result a)) ∙ k) f.blocks e

undefined_stays : (w : Widths) (f g : Func) → Rewrites w f g → undefined_temp f ≡ None → undefined_temp g ≡ None
undefined_stays w f g r e =
    let parts = none_first (first (undefined_at (definers_of f)) (operands_of f)) (in_returns (λ a. not (is_defined (definers_of f) a)) f.blocks) e in
    none_both (first (undefined_at (definers_of g)) (operands_of g)) (in_returns (λ a. not (is_defined (definers_of g) a)) g.blocks)
    (in_blocks w f g (undefined_at (definers_of f)) (undefined_at (definers_of g)) r (undefined_follows w f g r) (undefined_narrow (definers_of g)) parts.0)
    (ap (in_returns (λ a. not (is_defined (definers_of g) a))) r.blocks
    ∙ returns_none w (λ a. not (is_defined (definers_of f) a)) (λ a. not (is_defined (definers_of g) a))
    (λ a k. not_from_true (is_defined (definers_of g) a) (defined_still w f g r a (not-false (is_defined (definers_of f) a) k))) f.blocks parts.1)

two_types_stay : (w : Widths) (f g : Func) → Rewrites w f g → Respected w (mentions_of f) → two_types f ≡ None → misplaced f ≡ None → two_types g ≡ None
two_types_stay w f g r h e mis =
    first_never (λ (d : Definer). when (is_given W d.temp (definers_of g) && is_given L d.temp (definers_of g)) d.line)
    (λ d. when_none (is_given W d.temp (definers_of g) && is_given L d.temp (definers_of g)) d.line
    (ap (λ ds. is_given W d.temp ds && is_given L d.temp ds) (definers_are w f g r) ∙ one_class w f (map (promoted_block w) f.blocks) h e mis refl d.temp))
    (definers_of g)

-- ---- all rules, and the limits

pub rules_stay : (w : Widths) (f g : Func) → Rewrites w f g → Respected w (mentions_of f) → ((rule : Rule) → broken_in_function rule f ≡ None) → (rule : Rule) → broken_in_function rule g ≡ None
rules_stay w f g r h rules DistinctGlobals = refl
rules_stay w f g r h rules DistinctLocals =
    ap (λ (ps : List Param). or_else (first_repeated (param_sites ps)) (first_repeated (label_sites g.blocks))) r.params
    ∙ (ap (λ (bs : List Block). or_else (first_repeated (param_sites f.params)) (first_repeated (label_sites bs))) r.blocks
    ∙ (ap (λ ss. or_else (first_repeated (param_sites f.params)) (first_repeated ss)) (sites_stay w f.blocks) ∙ rules DistinctLocals))
rules_stay w f g r h rules KnownLabels =
    ap (λ (bs : List Block). or_else (unknown_in bs (flat_map block_targets bs)) (unknown_in bs (flat_map sources_in bs))) r.blocks
    ∙ (unknown_stays w f.blocks ∙ rules KnownLabels)
rules_stay w f g r h rules EntryNotTarget =
    ap (λ (bs : List Block). first (λ (s : Site). when (is_entry bs s.number) s.line) (flat_map block_targets bs)) r.blocks
    ∙ (to_entry_stays w f.blocks ∙ rules EntryNotTarget)
rules_stay w f g r h rules LastBlockEnds =
    ap (first (λ (b : Block). when (is_none b.jump) b.line)) r.blocks
    ∙ (first_map (λ (b : Block). when (is_none b.jump) b.line) (λ (b : Block). when (is_none b.jump) b.line) (promoted_block w) (λ b. refl) f.blocks
    ∙ rules LastBlockEnds)
rules_stay w f g r h rules OneType = two_types_stay w f g r h (rules OneType) (rules OperandFits)
rules_stay w f g r h rules OperandFits = misplaced_stays w f g r (rules OperandFits)
rules_stay w f g r h rules PhiCoversPredecessors =
    ap (λ (bs : List Block). first (uncovered_in bs) bs) r.blocks ∙ (all_uncovered w f.blocks ∙ rules PhiCoversPredecessors)
rules_stay w f g r h rules AllocInEntry = ap wrong_alloc_in r.blocks ∙ alloc_stays w f.blocks (rules AllocInEntry)
rules_stay w f g r h rules ReturnFits = wrong_return_stays w f g r (rules ReturnFits)
rules_stay w f g r h rules DefinedTemporaries = undefined_stays w f g r (rules DefinedTemporaries)
rules_stay w f g r h rules DataFields = refl
rules_stay w f g r h rules Alignment = refl
rules_stay w f g r h rules BlitSize =
    ap (in_insts is_long_blit) r.blocks ∙ (in_insts_stay w is_long_blit (λ size a at p to op op2. (refl, refl)) (λ to alignment size. refl) f.blocks ∙ rules BlitSize)

few_args_stay : (w : Widths) (bs : List Block) → list_all (λ (b : Block). list_all (λ (i : Lined Inst). has_few_args i.item) b.insts) (map (promoted_block w) bs) ≡ list_all (λ (b : Block). list_all (λ (i : Lined Inst). has_few_args i.item) b.insts) bs
few_args_stay w =
    all_map (λ (b : Block). list_all (λ (i : Lined Inst). has_few_args i.item) b.insts) (λ (b : Block). list_all (λ (i : Lined Inst). has_few_args i.item) b.insts) (promoted_block w)
    (λ b. all_map (λ (i : Lined Inst). has_few_args i.item) (λ (i : Lined Inst). has_few_args i.item) (promoted_line w)
    (λ i. stays w has_few_args (λ size a at p to op op2. (refl, refl)) (λ to alignment size. refl) i.item) b.insts)

abbrev within : (weight temps params area : ℕ) → Bool → Bool
within heavy temps params area few = nat_le heavy FUNCTION_WEIGHT && (nat_le temps 4000 && (nat_le params 64 && (nat_le area 1048576 && few)))

within_parts : (heavy temps params area less : ℕ) (few : Bool) → less ≤ area → within heavy temps params area few ≡ true → within heavy temps params less few ≡ true
within_parts heavy temps params area less few le h = grind (arith, nat_tests)

pub limits_stay : (w : Widths) (f g : Func) → Rewrites w f g → is_within f ≡ true → is_within g ≡ true
limits_stay w f g r h =
    let few : list_all (λ (b : Block). list_all (λ (i : Lined Inst). has_few_args i.item) b.insts) g.blocks ≡ list_all (λ (b : Block). list_all (λ (i : Lined Inst). has_few_args i.item) b.insts) f.blocks =
    ap (list_all (λ (b : Block). list_all (λ (i : Lined Inst). has_few_args i.item) b.insts)) r.blocks ∙ few_args_stay w f.blocks in
    ap (λ n. within n (length g.temps) (length g.params) (alloc_area g) (list_all (λ (b : Block). list_all (λ (i : Lined Inst). has_few_args i.item) b.insts) g.blocks)) (same_weight w f g r)
    ∙ (ap (λ n. within (weight f) n (length g.params) (alloc_area g) (list_all (λ (b : Block). list_all (λ (i : Lined Inst). has_few_args i.item) b.insts) g.blocks)) (ap length r.temps)
    ∙ (ap (λ n. within (weight f) (length f.temps) n (alloc_area g) (list_all (λ (b : Block). list_all (λ (i : Lined Inst). has_few_args i.item) b.insts) g.blocks)) (ap length r.params)
    ∙ (ap (within (weight f) (length f.temps) (length f.params) (alloc_area g)) few
    ∙ within_parts (weight f) (length f.temps) (length f.params) (alloc_area f) (alloc_area g) (list_all (λ (b : Block). list_all (λ (i : Lined Inst). has_few_args i.item) b.insts) f.blocks) (least_area w f g r) h)))
