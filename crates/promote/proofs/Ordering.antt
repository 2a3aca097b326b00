-- Temporaries and labels stand in the same order once temporaries are promoted.
use Rattle.std.proofs.Common.{◌≡◌, ℕ, ◌+◌, ◌<◌, ◌≤◌, Bool, true, false, ◌&&◌, nat_eq, cond, List, [], ◌∷◌, ◌++◌, map, length, refl, sym, ◌∙◌, ap, subst, arith, nat_lt, Option, Some, None, option_and_then, lt-ltb}
use Rattle.std.specs.List.{list_all, flat_map}
use Rattle.std.proofs.lemmas.Bool.Decides.{nat_tests}
use Rattle.std.proofs.lemmas.List.{length-map}
use Rattle.il_ast.specs.declared.operation.Size.{Size}
use Rattle.il_ast.specs.declared.operand.Val.{Val}
use Rattle.il_ast.specs.declared.operand.Val.TheVariants.{Int, Temp, Global}
use Rattle.il_ast.specs.declared.operand.Arg.{Arg}
use Rattle.il_ast.specs.declared.operand.Dest.{Dest}
use Rattle.il_ast.specs.declared.operation.UnaryOp.{UnaryOp}
use Rattle.il_ast.specs.declared.operation.Alignment.{Alignment}
use Rattle.il_ast.specs.declared.instruction.Inst.{Inst}
use Rattle.il_ast.specs.declared.instruction.Inst.TheVariants.{Unary, Binary, Alloc, Store, Blit, Call}
use Rattle.il_ast.specs.declared.instruction.Jump.{Jump}
use Rattle.il_ast.specs.declared.instruction.Jump.TheVariants.{Goto, Branch, Return, Halt}
use Rattle.il_ast.specs.declared.instruction.Lined.{Lined}
use Rattle.il_ast.specs.declared.block.Phi.{Phi}
use Rattle.il_ast.specs.declared.block.PhiArg.{PhiArg}
use Rattle.il_ast.specs.declared.block.Block.{Block}
use Rattle.il_ast.specs.declared.function.Param.{Param}
use Rattle.il_ast.specs.declared.function.Func.{Func}
use Rattle.il_ast.specs.Prelude.{come_after, temps_in_value, temps_in_destination, temps_in_phi, temps_in_inst, temps_in_jump, temps_at_end, temps_in_block, temps_of, labels_in_block, labels_of, has_block, has_argument, have_arguments}
use Rattle.promote.specs.declared.mention.Role.{Role}
use Rattle.promote.specs.declared.mention.Role.TheVariants.{Made, Accessed, Used}
use Rattle.promote.specs.declared.mention.Mention.{Mention}
use Rattle.promote.specs.Uses.{mention, value_mentions, operand_role, destination_mentions, arg_mentions, item_mentions, inst_mentions, jump_mentions, end_mentions, phi_arg_mentions, phi_mentions, block_mentions, param_mentions, mentions_of, roles, begins_made, width_in, Widths, promoted, promoted_line, promoted_block, taken_from, made_in, stored_in}
use Rattle.promote.proofs.Choosing.{width_promotable}
use Rattle.il_ast.proofs.Truth.{equals_itself, less_differs}

-- ---- the temporaries of mentions

abbrev temps : List Mention → List ℕ
temps [] = []
temps (m ∷ ms) = m.temp ∷ temps ms

temps_both : (ms ns : List Mention) → temps (ms ++ ns) ≡ temps ms ++ temps ns
temps_both [] ns = refl
temps_both (m ∷ ms) ns = ap (λ ts. m.temp ∷ ts) (temps_both ms ns)

temps_all : {X : Type 0} (f : X → List Mention) (g : X → List ℕ) → ((x : X) → temps (f x) ≡ g x) → (xs : List X) → temps (flat_map f xs) ≡ flat_map g xs
temps_all f g h [] = refl
temps_all f g h (x ∷ xs) =
    temps_both (f x) (flat_map f xs) ∙ (ap (λ ts. ts ++ temps (flat_map f xs)) (h x) ∙ ap (λ ts. g x ++ ts) (temps_all f g h xs))

of_value : (role : Role) (a : Val) → temps (value_mentions role a) ≡ temps_in_value a
of_value role (Int n) = refl
of_value role (Temp t) = refl
of_value role (Global g) = refl

of_two : (r q : Role) (a b : Val) → temps (value_mentions r a ++ value_mentions q b) ≡ temps_in_value a ++ temps_in_value b
of_two r q a b =
    temps_both (value_mentions r a) (value_mentions q b) ∙ (ap (λ ts. ts ++ temps (value_mentions q b)) (of_value r a) ∙ ap (λ ts. temps_in_value a ++ ts) (of_value q b))

of_destination : (to : Option Dest) → temps (destination_mentions to) ≡ temps_in_destination to
of_destination None = refl
of_destination (Some to) = refl

of_item : (i : Inst) → temps (item_mentions i) ≡ temps_in_inst i
of_item (Unary to op a) = ap (λ ts. to.temp ∷ ts) (of_value (operand_role op to.class) a)
of_item (Binary to op a b) = ap (λ ts. to.temp ∷ ts) (of_two Used Used a b)
of_item (Alloc to alignment size) = refl
of_item (Store size a at) = of_two Used (Accessed size) a at
of_item (Blit from to count) = of_two Used Used from to
of_item (Call to callee args) =
    temps_both (destination_mentions to) (value_mentions Used callee ++ flat_map arg_mentions args)
    ∙ (ap (λ ts. ts ++ temps (value_mentions Used callee ++ flat_map arg_mentions args)) (of_destination to)
    ∙ ap (λ ts. temps_in_destination to ++ ts)
    (temps_both (value_mentions Used callee) (flat_map arg_mentions args)
    ∙ (ap (λ ts. ts ++ temps (flat_map arg_mentions args)) (of_value Used callee)
    ∙ ap (λ ts. temps_in_value callee ++ ts)
    (temps_all arg_mentions (λ (a : Arg). temps_in_value a.value) (λ a. of_value Used a.value) args))))

of_jump : (j : Jump) → temps (jump_mentions j) ≡ temps_in_jump j
of_jump (Goto l) = refl
of_jump (Branch a nonzero otherwise) = of_value Used a
of_jump (Return None) = refl
of_jump (Return (Some a)) = of_value Used a
of_jump Halt = refl

of_end : (j : Option (Lined Jump)) → temps (end_mentions j) ≡ temps_at_end j
of_end None = refl
of_end (Some j) = of_jump j.item

of_phi : (p : Phi) → temps (phi_mentions p) ≡ temps_in_phi p
of_phi p =
    ap (λ ts. p.to.temp ∷ ts) (temps_all phi_arg_mentions (λ (a : PhiArg). temps_in_value a.value) (λ a. of_value Used a.value) p.args)

of_block : (b : Block) → temps (block_mentions b) ≡ temps_in_block b
of_block b =
    temps_both (flat_map phi_mentions b.phis) (flat_map inst_mentions b.insts ++ end_mentions b.jump)
    ∙ (ap (λ ts. ts ++ temps (flat_map inst_mentions b.insts ++ end_mentions b.jump)) (temps_all phi_mentions temps_in_phi of_phi b.phis)
    ∙ ap (λ ts. flat_map temps_in_phi b.phis ++ ts)
    (temps_both (flat_map inst_mentions b.insts) (end_mentions b.jump)
    ∙ (ap (λ ts. ts ++ temps (end_mentions b.jump)) (temps_all inst_mentions (λ (i : Lined Inst). temps_in_inst i.item) (λ i. of_item i.item) b.insts)
    ∙ ap (λ ts. flat_map (λ (i : Lined Inst). temps_in_inst i.item) b.insts ++ ts) (of_end b.jump))))

of_params : (ps : List Param) → temps (flat_map param_mentions ps) ≡ flat_map (λ (p : Param). p.temp ∷ []) ps
of_params = temps_all param_mentions (λ (p : Param). p.temp ∷ []) (λ p. refl)

-- ---- how many have come

after_one : (n x : ℕ) (xs ys : List ℕ) (b c : Bool) → ((k : ℕ) → come_after k (xs ++ ys) ≡ option_and_then (λ j. come_after j ys) (come_after k xs)) → cond b (come_after n (xs ++ ys)) (cond c (come_after (n + 1) (xs ++ ys)) None) ≡ option_and_then (λ k. come_after k ys) (cond b (come_after n xs) (cond c (come_after (n + 1) xs) None))
after_one n x xs ys true c h = h n
after_one n x xs ys false true h = h (n + 1)
after_one n x xs ys false false h = refl

after_both : (n : ℕ) (xs ys : List ℕ) → come_after n (xs ++ ys) ≡ option_and_then (λ k. come_after k ys) (come_after n xs)
after_both n [] ys = refl
after_both n (x ∷ xs) ys = after_one n x xs ys (nat_lt x n) (nat_eq x n) (λ k. after_both k xs ys)

roles_step : (t : ℕ) (m : Mention) (ms ns : List Mention) (b : Bool) → roles t (ms ++ ns) ≡ roles t ms ++ roles t ns → cond b (m.role ∷ roles t (ms ++ ns)) (roles t (ms ++ ns)) ≡ cond b (m.role ∷ roles t ms) (roles t ms) ++ roles t ns
roles_step t m ms ns true h = ap (λ rs. m.role ∷ rs) h
roles_step t m ms ns false h = h

roles_both : (t : ℕ) (ms ns : List Mention) → roles t (ms ++ ns) ≡ roles t ms ++ roles t ns
roles_both t [] ns = refl
roles_both t (m ∷ ms) ns = roles_step t m ms ns (nat_eq m.temp t) (roles_both t ms ns)

-- what comes has come then, and what hasn't come has no role yet
record Come (n k : ℕ) (ms : List Mention) : Type 0 where
  more : n ≤ k
  none : (t : ℕ) → k ≤ t → roles t ms ≡ []

come_more : (n k : ℕ) (m : Mention) (ms : List Mention) → m.temp < k → Come n k ms → Come n k (m ∷ ms)
come_more n k m ms lt h =
    record {
      more = h.more;
      none = λ t le. ap (λ b. cond b (m.role ∷ roles t ms) (roles t ms)) (less_differs m.temp t (omega arith)) ∙ h.none t le;
    }

come_one : (n k : ℕ) (m : Mention) (ms : List Mention) (b c : Bool) → nat_lt m.temp n ≡ b → nat_eq m.temp n ≡ c → ((i : ℕ) → come_after i (temps ms) ≡ Some k → Come i k ms) → cond b (come_after n (temps ms)) (cond c (come_after (n + 1) (temps ms)) None) ≡ Some k → Come n k (m ∷ ms)
come_one n k m ms true c lt eq h e =
    let r = h n e in let le = r.more in let less : m.temp < n = grind (arith, nat_tests) in come_more n k m ms (omega arith) r
come_one n k m ms false true lt eq h e =
    let r = h (n + 1) e in
    let le = r.more in
    let same : m.temp ≡ n = grind (arith, nat_tests) in
    come_more n k m ms (omega arith) (record { more = omega arith; none = r.none })
come_one n k m ms false false lt eq h e = absurd (let no : ⊥ = cc in no)

comes : (n k : ℕ) (ms : List Mention) → come_after n (temps ms) ≡ Some k → Come n k ms
comes n k [] e = let same : n ≡ k = cc in record { more = omega arith; none = λ t le. refl }
comes n k (m ∷ ms) e = come_one n k m ms (nat_lt m.temp n) (nat_eq m.temp n) refl refl (λ i. comes i k ms) e

-- ---- the same order

-- no role, or made first
abbrev starts : List Role → Bool
starts [] = true
starts (Made ∷ rs) = true
starts (Accessed s ∷ rs) = false
starts (Used ∷ rs) = false

-- promoted temporaries that haven't come yet are made first
abbrev Fresh : Widths → ℕ → List Mention → Type 0
Fresh w n ms = (t : ℕ) (s : Size) → w t ≡ Some s → n ≤ t → starts (roles t ms) ≡ true

-- as many have come after the one as after the other
abbrev Alike : Widths → List Mention → List ℕ → Type 0
Alike w ms us = (n : ℕ) → Fresh w n ms → come_after n us ≡ come_after n (temps ms)

starts_first : (rs qs : List Role) → starts (rs ++ qs) ≡ true → starts rs ≡ true
starts_first [] qs h = refl
starts_first (Made ∷ rs) qs h = refl
starts_first (Accessed s ∷ rs) qs h = h
starts_first (Used ∷ rs) qs h = h

fresh_first : (w : Widths) (n : ℕ) (ms ns : List Mention) → Fresh w n (ms ++ ns) → Fresh w n ms
fresh_first w n ms ns h t s e le =
    starts_first (roles t ms) (roles t ns) (subst (λ rs. starts rs ≡ true) (roles_both t ms ns) (h t s e le))

fresh_then : (w : Widths) (n k : ℕ) (ms ns : List Mention) → Come n k ms → Fresh w n (ms ++ ns) → Fresh w k ns
fresh_then w n k ms ns c h t s e le =
    let more = c.more in
    subst (λ rs. starts rs ≡ true) (roles_both t ms ns ∙ ap (λ rs. rs ++ roles t ns) (c.none t le)) (h t s e (omega arith))

alike_then : (w : Widths) (n : ℕ) (ms ns : List Mention) (vs : List ℕ) → Fresh w n (ms ++ ns) → Alike w ns vs → (o : Option ℕ) → come_after n (temps ms) ≡ o → option_and_then (λ k. come_after k vs) o ≡ option_and_then (λ k. come_after k (temps ns)) o
alike_then w n ms ns vs f h None e = refl
alike_then w n ms ns vs f h (Some k) e = h k (fresh_then w n k ms ns (comes n k ms e) f)

alike_both : (w : Widths) (ms ns : List Mention) (us vs : List ℕ) → Alike w ms us → Alike w ns vs → Alike w (ms ++ ns) (us ++ vs)
alike_both w ms ns us vs h k n f =
    after_both n us vs
    ∙ (ap (option_and_then (λ i. come_after i vs)) (h n (fresh_first w n ms ns f))
    ∙ (alike_then w n ms ns vs f k (come_after n (temps ms)) refl
    ∙ sym (ap (come_after n) (temps_both ms ns) ∙ after_both n (temps ms) (temps ns))))

alike_same : (w : Widths) (ms : List Mention) (us : List ℕ) → temps ms ≡ us → Alike w ms us
alike_same w ms us e n f = ap (come_after n) (sym e)

alike_all : {X : Type 0} (w : Widths) (f : X → List Mention) (g : X → List ℕ) → ((x : X) → Alike w (f x) (g x)) → (xs : List X) → Alike w (flat_map f xs) (flat_map g xs)
alike_all w f g h [] = λ n fresh. refl
alike_all w f g h (x ∷ xs) = alike_both w (f x) (flat_map f xs) (g x) (flat_map g xs) (h x) (alike_all w f g h xs)

-- ---- stores

-- an access of a temporary that hasn't come would be its first role
not_first : (p t : ℕ) (size : Size) (b : Bool) → starts (cond b (Used ∷ (Accessed size ∷ [])) (Accessed size ∷ [])) ≡ false
not_first p t size true = refl
not_first p t size false = refl

alone : (p : ℕ) (size : Size) → roles p (mention (Accessed size) p ∷ []) ≡ Accessed size ∷ []
alone p size = ap (λ b. cond b (Accessed size ∷ []) []) (equals_itself p)

come_or : (w : Widths) (n p : ℕ) (s size : Size) (a : Val) → w p ≡ Some s → starts (roles p (value_mentions Used a ++ mention (Accessed size) p ∷ [])) ≡ false
come_or w n p s size (Int k) e = ap starts (alone p size)
come_or w n p s size (Temp t) e =
    ap (λ rs. starts (cond (nat_eq t p) (Used ∷ rs) rs)) (alone p size) ∙ not_first p t size (nat_eq t p)
come_or w n p s size (Global g) e = ap starts (alone p size)

has_come : (w : Widths) (n p : ℕ) (s size : Size) (a : Val) → w p ≡ Some s → Fresh w n (value_mentions Used a ++ mention (Accessed size) p ∷ []) → p < n
has_come w n p s size a e f =
    let no = come_or w n p s size a e in let yes = f p s e in grind arith

swapped : (n p : ℕ) (a : Val) → p < n → come_after n (p ∷ temps_in_value a) ≡ come_after n (temps_in_value a ++ p ∷ [])
swapped n p (Int k) lt = refl
swapped n p (Temp t) lt =
    ap (λ b. cond b (come_after n (t ∷ [])) (cond (nat_eq p n) (come_after (n + 1) (t ∷ [])) None)) (lt-ltb p n lt)
    ∙ sym (ap (λ b. cond (nat_lt t n) (cond b (Some n) (cond (nat_eq p n) (Some (n + 1)) None)) (cond (nat_eq t n) (come_after (n + 1) (p ∷ [])) None)) (lt-ltb p n lt)
    ∙ ap (λ b. cond (nat_lt t n) (Some n) (cond (nat_eq t n) (cond b (Some (n + 1)) (cond (nat_eq p (n + 1)) (Some (n + 1 + 1)) None)) None)) (lt-ltb p (n + 1) (omega arith)))
swapped n p (Global g) lt = refl

store_alike : (w : Widths) (size : Size) (a : Val) (p : ℕ) (o : Option Size) → w p ≡ o → Alike w (value_mentions Used a ++ mention (Accessed size) p ∷ []) (temps_in_inst (stored_in o size a p))
store_alike w size a p None e = alike_same w (item_mentions (Store size a (Temp p))) (temps_in_inst (Store size a (Temp p))) (of_two Used (Accessed size) a (Temp p))
store_alike w size a p (Some s) e = λ n f.
    swapped n p a (has_come w n p s size a e f) ∙ ap (come_after n) (sym (of_two Used (Accessed size) a (Temp p)))

unary_alike : (to : Dest) (op : UnaryOp) (p : ℕ) (o : Option Size) → temps_in_inst (taken_from o to op p) ≡ to.temp ∷ p ∷ []
unary_alike to op p None = refl
unary_alike to op p (Some s) = refl

alloc_alike : (to : Dest) (alignment : Alignment) (size : ℕ) (o : Option Size) → temps_in_inst (made_in o to alignment size) ≡ to.temp ∷ []
alloc_alike to alignment size None = refl
alloc_alike to alignment size (Some s) = refl

item_alike : (w : Widths) (i : Inst) → Alike w (item_mentions i) (temps_in_inst (promoted w i))
item_alike w (Unary to op (Int n)) = alike_same w (item_mentions (Unary to op (Int n))) (temps_in_inst (promoted w (Unary to op (Int n)))) (of_item (Unary to op (Int n)))
item_alike w (Unary to op (Temp p)) = alike_same w (item_mentions (Unary to op (Temp p))) (temps_in_inst (promoted w (Unary to op (Temp p)))) (of_item (Unary to op (Temp p)) ∙ sym (unary_alike to op p (w p)))
item_alike w (Unary to op (Global g)) = alike_same w (item_mentions (Unary to op (Global g))) (temps_in_inst (promoted w (Unary to op (Global g)))) (of_item (Unary to op (Global g)))
item_alike w (Binary to op a b) = alike_same w (item_mentions (Binary to op a b)) (temps_in_inst (promoted w (Binary to op a b))) (of_item (Binary to op a b))
item_alike w (Alloc to alignment size) = alike_same w (item_mentions (Alloc to alignment size)) (temps_in_inst (promoted w (Alloc to alignment size))) (sym (alloc_alike to alignment size (w to.temp)))
item_alike w (Store size a (Int n)) = alike_same w (item_mentions (Store size a (Int n))) (temps_in_inst (promoted w (Store size a (Int n)))) (of_item (Store size a (Int n)))
item_alike w (Store size a (Temp p)) = store_alike w size a p (w p) refl
item_alike w (Store size a (Global g)) = alike_same w (item_mentions (Store size a (Global g))) (temps_in_inst (promoted w (Store size a (Global g)))) (of_item (Store size a (Global g)))
item_alike w (Blit from to count) = alike_same w (item_mentions (Blit from to count)) (temps_in_inst (promoted w (Blit from to count))) (of_item (Blit from to count))
item_alike w (Call to callee args) = alike_same w (item_mentions (Call to callee args)) (temps_in_inst (promoted w (Call to callee args))) (of_item (Call to callee args))

-- ---- blocks

pub map_flat : {X Y : Type 0} (f : X → X) (g : X → List Y) (xs : List X) → flat_map g (map f xs) ≡ flat_map (λ x. g (f x)) xs
map_flat f g [] = refl
map_flat f g (x ∷ xs) = ap (λ ys. g (f x) ++ ys) (map_flat f g xs)

insts_alike : (w : Widths) (is : List (Lined Inst)) → Alike w (flat_map inst_mentions is) (flat_map (λ (i : Lined Inst). temps_in_inst i.item) (map (promoted_line w) is))
insts_alike w is =
    subst (Alike w (flat_map inst_mentions is)) (sym (map_flat (promoted_line w) (λ (i : Lined Inst). temps_in_inst i.item) is))
    (alike_all w inst_mentions (λ (i : Lined Inst). temps_in_inst (promoted w i.item)) (λ i. item_alike w i.item) is)

block_alike : (w : Widths) (b : Block) → Alike w (block_mentions b) (temps_in_block (promoted_block w b))
block_alike w b =
    alike_both w (flat_map phi_mentions b.phis) (flat_map inst_mentions b.insts ++ end_mentions b.jump) (flat_map temps_in_phi b.phis) (flat_map (λ (i : Lined Inst). temps_in_inst i.item) (map (promoted_line w) b.insts) ++ temps_at_end b.jump)
    (alike_same w (flat_map phi_mentions b.phis) (flat_map temps_in_phi b.phis) (temps_all phi_mentions temps_in_phi of_phi b.phis))
    (alike_both w (flat_map inst_mentions b.insts) (end_mentions b.jump) (flat_map (λ (i : Lined Inst). temps_in_inst i.item) (map (promoted_line w) b.insts)) (temps_at_end b.jump) (insts_alike w b.insts)
    (alike_same w (end_mentions b.jump) (temps_at_end b.jump) (of_end b.jump)))

function_alike : (w : Widths) (params : List Param) (blocks : List Block) → Alike w (flat_map param_mentions params ++ flat_map block_mentions blocks) (temps_of params (map (promoted_block w) blocks))
function_alike w params blocks =
    alike_both w (flat_map param_mentions params) (flat_map block_mentions blocks) (flat_map (λ (p : Param). p.temp ∷ []) params) (flat_map temps_in_block (map (promoted_block w) blocks))
    (alike_same w (flat_map param_mentions params) (flat_map (λ (p : Param). p.temp ∷ []) params) (of_params params))
    (subst (Alike w (flat_map block_mentions blocks)) (sym (map_flat (promoted_block w) temps_in_block blocks))
    (alike_all w block_mentions (λ b. temps_in_block (promoted_block w b)) (block_alike w) blocks))

begins_starts : (rs : List Role) → begins_made rs ≡ true → starts rs ≡ true
begins_starts [] h = refl
begins_starts (Made ∷ rs) h = refl
begins_starts (Accessed s ∷ rs) h = h
begins_starts (Used ∷ rs) h = h

all_temps : (f : Func) → temps (mentions_of f) ≡ temps_of f.params f.blocks
all_temps f =
    temps_both (flat_map param_mentions f.params) (flat_map block_mentions f.blocks)
    ∙ (ap (λ ts. ts ++ temps (flat_map block_mentions f.blocks)) (of_params f.params)
    ∙ ap (λ ts. flat_map (λ (p : Param). p.temp ∷ []) f.params ++ ts) (temps_all block_mentions temps_in_block of_block f.blocks))

pub order_stays : (f : Func) → come_after 0 (temps_of f.params (map (promoted_block (width_in (mentions_of f))) f.blocks)) ≡ Some (length f.temps)
order_stays f =
    let w = width_in (mentions_of f) in
    function_alike w f.params f.blocks 0 (λ t s e le. begins_starts (roles t (mentions_of f)) (width_promotable (mentions_of f) t s e).0)
    ∙ (ap (come_after 0) (all_temps f) ∙ f.temps_in_order)

-- ---- labels, and what each function has

pub labels_stay : (w : Widths) (blocks : List Block) → labels_of (map (promoted_block w) blocks) ≡ labels_of blocks
labels_stay w [] = refl
labels_stay w (b ∷ blocks) = ap (λ ls. labels_in_block b ++ ls) (labels_stay w blocks)

pub block_stays : (w : Widths) (blocks : List Block) → has_block (map (promoted_block w) blocks) ≡ has_block blocks
block_stays w [] = refl
block_stays w (b ∷ blocks) = ap (nat_lt 0) (let e : length (map (promoted_block w) (b ∷ blocks)) ≡ length (b ∷ blocks) = length-map (b ∷ blocks) (promoted_block w) in e)

pub arguments_stay : (w : Widths) (blocks : List Block) → have_arguments (map (promoted_block w) blocks) ≡ have_arguments blocks
arguments_stay w [] = refl
arguments_stay w (b ∷ blocks) = ap (λ x. list_all has_argument b.phis && x) (arguments_stay w blocks)
