-- What holds of every block of the virtual code of a lowered function, and where its jumps lead.
use Rattle.std.proofs.Common.{◌≡◌, ℕ, suc, ◌+◌, ◌<◌, ◌≤◌, Bool, true, false, not, cond, nat_eq, ◌&&◌, ◌||◌, List, [], ◌∷◌, ◌++◌, length, map, refl, sym, ◌∙◌, ap, subst, arith, ◌⊎◌, inl, inr, Option, Some, None, length-append}
use Rattle.std.specs.List.{list_all, list_any, flat_map, position_from}
use Rattle.std.proofs.lemmas.Iterator.Adapters.{position_from-zero}
use Rattle.std.proofs.lemmas.Bool.{not-false}
use Rattle.il_ast.specs.declared.operand.Val.{Val}
use Rattle.il_ast.specs.declared.instruction.Jump.{Jump}
use Rattle.il_ast.specs.declared.instruction.Jump.TheVariants.{Goto, Branch, Return, Halt}
use Rattle.il_ast.specs.declared.instruction.Lined.{Lined}
use Rattle.il_ast.specs.declared.block.Phi.{Phi}
use Rattle.il_ast.specs.declared.block.Block.{Block}
use Rattle.il_ast.specs.declared.function.Func.{Func}
use Rattle.il_ast.specs.Prelude.{place_of}
use Rattle.il_types.specs.declared.rule.Rule.TheVariants.{KnownLabels, EntryNotTarget}
use Rattle.il_types.specs.declared.site.Site.{Site}
use Rattle.il_types.specs.Prelude.{when, first, jump_sites, end_sites, block_targets, targets_of, sources_of, is_label, is_entry}
use Rattle.phi_copies.specs.declared.ending.Ending.{Ending}
use Rattle.phi_copies.specs.Good.{IsGoodFunction}
use Rattle.phi_copies.specs.Copies.{phis_at}
use Rattle.phi_copies.specs.Lowered.{target, Edge, edge_with, edge, jump_edges, end_edges, block_edges, all_edges, straight, straight_if, IsBlockEnding, AreEndings, IsOnEdge, AreOnEdges}
use Rattle.vcode.specs.declared.code.Block.{Block as VirtualBlock}
use Rattle.select.specs.Selected.{block_of, edge_of, blocks_of}
use Rattle.select.specs.Typed.{Classes}
use Rattle.phi_copies.proofs.PhiRules.{not_broken, neither_first, none_among}
use Rattle.phi_copies.proofs.Members.{Among, among_left, among_right}

-- ---- blocks, and the edges behind them

-- of each block, its ending and the number of its first edge
abbrev pub EachBlock : Classes → Func → (VirtualBlock ℕ → Bool) → (total : ℕ) → List Block → Type 0
EachBlock classes f test total bs =
    (b : Block) (e : Ending) (m : ℕ) → Among b bs → IsBlockEnding f m b e → m + length (block_edges f b) ≤ total → test (block_of classes b e) ≡ true

pub blocks_all : (classes : Classes) (f : Func) (test : VirtualBlock ℕ → Bool) (total n : ℕ) (bs : List Block) (es : List Ending) (rest : List (VirtualBlock ℕ)) → AreEndings f n bs es → n + length (all_edges f bs) ≡ total → EachBlock classes f test total bs → list_all test rest ≡ true → list_all test (blocks_of classes bs es ++ rest) ≡ true
blocks_all classes f test total n [] [] rest are sum each h = h
blocks_all classes f test total n [] (e ∷ es) rest are sum each h = absurd are
blocks_all classes f test total n (b ∷ bs) [] rest are sum each h = absurd are
blocks_all classes f test total n (b ∷ bs) (e ∷ es) rest are sum each h =
    let long = length-append (block_edges f b) (all_edges f bs) in
    both (test (block_of classes b e)) _ (each b e n (inl refl) are.0 (omega (arith, sum, long)))
    (blocks_all classes f test total (n + length (block_edges f b)) bs es rest are.1 (omega (arith, sum, long)) (λ c x m a. each c x m (inr a)) h)
  where
    both : (x y : Bool) → x ≡ true → y ≡ true → (x && y) ≡ true
    both true y e g = g
    both false y e g = e

-- a block of a function that ends in a branch one of whose labels this is
pub record Branches (b : Block) (l : ℕ) : Type 0 where
  pub jump : Lined Jump
  pub ends : b.jump ≡ Some jump
  pub on : Val
  pub nonzero : ℕ
  pub otherwise : ℕ
  pub is : jump.item ≡ Branch on nonzero otherwise
  pub label : (l ≡ nonzero) ⊎ (l ≡ otherwise)

-- an edge of these blocks: one of them branches there, to a block with phis
pub record Leaves (f : Func) (bs : List Block) (w : Edge) : Type 0 where
  pub block : Block
  pub there : Among block bs
  pub label : ℕ
  pub branches : Branches block label
  pub is : w ≡ record { from = block.label; to = target f.blocks label }
  pub some : 0 < length (phis_at f.blocks w.to)

abbrev pub EachEdge : Classes → Func → (VirtualBlock ℕ → Bool) → List Block → Type 0
EachEdge classes f test bs = (w : Edge) (e : Ending) → Leaves f bs w → IsOnEdge f w e → test (edge_of classes e) ≡ true

split_among : {A : Type 0} (x : A) (xs ys : List A) → Among x (xs ++ ys) → Among x xs ⊎ Among x ys
split_among x [] ys h = inr h
split_among x (y ∷ xs) ys (inl e) = inl (inl e)
split_among {A} x (y ∷ xs) ys (inr h) = by (split_among x xs ys h)
  where
    by : Among x xs ⊎ Among x ys → Among x (y ∷ xs) ⊎ Among x ys
    by (inl a) = inl (inr a)
    by (inr a) = inr a

edge_leaves : (f : Func) (bs : List Block) (w : Edge) → Among w (all_edges f bs) → Leaves f bs w
edge_leaves f [] w h = absurd h
edge_leaves f (b ∷ bs) w h = by (split_among w (block_edges f b) (all_edges f bs) h) (edge_leaves f bs w)
  where
    side : (l : ℕ) (ps : List Phi) → Branches b l → phis_at f.blocks (target f.blocks l) ≡ ps → Among w (edge_with b.label (target f.blocks l) ps) → Leaves f (b ∷ bs) w
    side l [] br e a = absurd a
    side l (p ∷ ps) br e (inr a) = absurd a
    side l (p ∷ ps) br e (inl same) =
        let many : length (phis_at f.blocks w.to) ≡ suc (length ps) = ap (λ (x : Edge). length (phis_at f.blocks x.to)) same ∙ ap length e in
        record { block = b; there = inl refl; label = l; branches = br; is = same; some = omega (arith, many) }

    by_ways : (j : Lined Jump) (on : Val) (nonzero otherwise : ℕ) (q : Bool) → b.jump ≡ Some j → j.item ≡ Branch on nonzero otherwise → Among w (jump_edges f b.label (straight_if q on nonzero otherwise)) → Leaves f (b ∷ bs) w
    by_ways j on nonzero otherwise true e i a = absurd a
    by_ways j on nonzero otherwise false e i a = at (split_among w (edge f b.label (target f.blocks nonzero)) (edge f b.label (target f.blocks otherwise)) a)
      where
        at : Among w (edge f b.label (target f.blocks nonzero)) ⊎ Among w (edge f b.label (target f.blocks otherwise)) → Leaves f (b ∷ bs) w
        at (inl s) = side nonzero (phis_at f.blocks (target f.blocks nonzero)) (record { jump = j; ends = e; on = on; nonzero = nonzero; otherwise = otherwise; is = i; label = inl refl }) refl s
        at (inr s) = side otherwise (phis_at f.blocks (target f.blocks otherwise)) (record { jump = j; ends = e; on = on; nonzero = nonzero; otherwise = otherwise; is = i; label = inr refl }) refl s

    by_jump : (j : Lined Jump) (x : Jump) → b.jump ≡ Some j → j.item ≡ x → Among w (jump_edges f b.label (straight x)) → Leaves f (b ∷ bs) w
    by_jump j (Goto l) e i a = absurd a
    by_jump j (Branch on nonzero otherwise) e i a = by_ways j on nonzero otherwise (nat_eq nonzero otherwise) e i a
    by_jump j (Return v) e i a = absurd a
    by_jump j Halt e i a = absurd a

    by_end : (j : Option (Lined Jump)) → b.jump ≡ j → Among w (end_edges f b.label j) → Leaves f (b ∷ bs) w
    by_end None e a = absurd a
    by_end (Some j) e a = by_jump j j.item e refl a

    by : Among w (block_edges f b) ⊎ Among w (all_edges f bs) → (Among w (all_edges f bs) → Leaves f bs w) → Leaves f (b ∷ bs) w
    by (inl a) rest = by_end b.jump refl a
    by (inr a) rest = let r = rest a in record { block = r.block; there = inr r.there; label = r.label; branches = r.branches; is = r.is; some = r.some }

on_edges_all : (classes : Classes) (f : Func) (test : VirtualBlock ℕ → Bool) (ws : List Edge) (es : List Ending) → AreOnEdges f ws es → ((w : Edge) (e : Ending) → Among w ws → IsOnEdge f w e → test (edge_of classes e) ≡ true) → list_all test (map (edge_of classes) es) ≡ true
on_edges_all classes f test [] [] are each = refl
on_edges_all classes f test [] (e ∷ es) are each = absurd are
on_edges_all classes f test (w ∷ ws) [] are each = absurd are
on_edges_all classes f test (w ∷ ws) (e ∷ es) are each =
    ap (λ x. x && list_all test (map (edge_of classes) es)) (each w e (inl refl) are.0) ∙ on_edges_all classes f test ws es are.1 (λ x d a. each x d (inr a))

pub edges_all : (classes : Classes) (f : Func) (test : VirtualBlock ℕ → Bool) (bs : List Block) (es : List Ending) → AreOnEdges f (all_edges f bs) es → EachEdge classes f test bs → list_all test (map (edge_of classes) es) ≡ true
edges_all classes f test bs es are each = on_edges_all classes f test (all_edges f bs) es are (λ w e a. each w e (edge_leaves f bs w a))

-- ---- labels

record Position {A : Type 0} (p : A → Bool) (i : ℕ) (xs : List A) : Type 0 where
  place : ℕ
  is : position_from p i xs ≡ Some place
  above : i ≤ place
  below : place < i + length xs

found_at : {A : Type 0} (p : A → Bool) (i : ℕ) (xs : List A) → list_any p xs ≡ true → Position p i xs
found_at p i [] h = absurd (let no : ⊥ = cc in no)
found_at p i (x ∷ xs) h = by (p x) refl h (found_at p (i + 1) xs)
  where
    by : (b : Bool) → p x ≡ b → (b || list_any p xs) ≡ true → (list_any p xs ≡ true → Position p (i + 1) xs) → Position p i (x ∷ xs)
    by true e g rest = record { place = i; is = ap (λ b. cond b (Some i) (position_from p (i + 1) xs)) e; above = omega arith; below = omega arith }
    by false e g rest =
        let r = rest g in
        let above = r.above in
        let below = r.below in
        record { place = r.place; is = ap (λ b. cond b (Some i) (position_from p (i + 1) xs)) e ∙ r.is; above = omega (arith, above); below = omega (arith, below) }

-- a label that a block of the function has, and the first has not, is a block's behind the first
pub record IsTarget (f : Func) (l : ℕ) : Type 0 where
  pub place : ℕ
  pub is : place_of f.blocks l ≡ Some place
  pub not_first : 0 < place
  pub within : place < length f.blocks

target_found : (f : Func) (blocks : List Block) (l : ℕ) → f.blocks ≡ blocks → is_label blocks l ≡ true → is_entry blocks l ≡ false → IsTarget f l
target_found f [] l e known entry = absurd (let no : ⊥ = cc in no)
target_found f (b ∷ blocks) l e known entry =
    let r = found_at (λ (c : Block). nat_eq c.label l) 1 blocks (sym (ap (λ x. x || list_any (λ (c : Block). nat_eq c.label l) blocks) entry) ∙ known) in
    let long : length f.blocks ≡ suc (length blocks) = ap length e in
    let above = r.above in
    let below = r.below in
    record {
      place = r.place;
      is =
          ap (λ bs. place_of bs l) e
          ∙ position_from-zero (λ (c : Block). nat_eq c.label l) (b ∷ blocks)
          ∙ ap (λ x. cond x (Some 0) (position_from (λ (c : Block). nat_eq c.label l) 1 blocks)) entry
          ∙ r.is;
      not_first = omega (arith, above);
      within = omega (arith, below, long);
    }

-- a label that a jump names
pub is_target : (f : Func) → IsGoodFunction f → (b : Block) (j : Lined Jump) (l line : ℕ) → Among b f.blocks → b.jump ≡ Some j → Among (record { line = line; number = l }) (jump_sites j.line j.item) → IsTarget f l
is_target f good b j l line a jump site =
    let s : Site = record { line = line; number = l } in
    let here : Among s (targets_of f) = flat f.blocks a in
    let known = none_among (λ (x : Site). when (not (is_label f.blocks x.number)) x.line) (targets_of f) s
    (neither_first (first (λ (x : Site). when (not (is_label f.blocks x.number)) x.line) (targets_of f)) (first (λ (x : Site). when (not (is_label f.blocks x.number)) x.line) (sources_of f)) (good.rules KnownLabels)) here in
    let entry = none_among (λ (x : Site). when (is_entry f.blocks x.number) x.line) (targets_of f) s (good.rules EntryNotTarget) here in
    target_found f f.blocks l refl (not-false (is_label f.blocks l) (not_broken (not (is_label f.blocks l)) line known)) (not_broken (is_entry f.blocks l) line entry)
  where
    flat : (bs : List Block) → Among b bs → Among (record { line = line; number = l }) (flat_map block_targets bs)
    flat [] h = absurd h
    flat (c ∷ bs) (inl e) = among_left _ (block_targets c) _ (subst (λ (x : Block). Among (record { line = line; number = l }) (end_sites x.jump)) e (subst (λ o. Among (record { line = line; number = l }) (end_sites o)) (sym jump) site))
    flat (c ∷ bs) (inr h) = among_right _ (block_targets c) _ (flat bs h)
