-- Where endings and edges of a lowered function stand, and that its temporaries are numbered below their count.
use Rattle.std.proofs.Common.{◌≡◌, ℕ, zero, suc, ◌+◌, ◌<◌, ◌≤◌, Bool, true, false, cond, nat_eq, nat_lt, List, [], ◌∷◌, ◌++◌, length, refl, ◌∙◌, ap, subst, arith, slice_get, Some, None, flat_map, sum_by}
use Rattle.std.proofs.lemmas.Bool.Decides.{nat_tests}
use Rattle.std.proofs.lemmas.List.Sums.{sum_by-cons}
use Rattle.il_ast.specs.declared.block.Phi.{Phi}
use Rattle.il_ast.specs.declared.block.Block.{Block}
use Rattle.il_ast.specs.declared.function.Func.{Func}
use Rattle.il_ast.specs.Prelude.{come_after, temps_of, temps_in_block, temps_in_phi}
use Rattle.phi_copies.specs.declared.ending.Ending.{Ending}
use Rattle.phi_copies.specs.Copies.{phis_before}
use Rattle.phi_copies.specs.Lowered.{Edge, block_edges, all_edges, IsBlockEnding, AreEndings, IsOnEdge, AreOnEdges}
use Rattle.il_ast.proofs.Listed.{get_before, get_behind}

-- ---- temporaries

-- each is less than n
abbrev pub AllLess : ℕ → List ℕ → Type 0
AllLess n [] = Unit {0}
AllLess n (x ∷ xs) = (x < n) × AllLess n xs

less_left : (n : ℕ) (xs ys : List ℕ) → AllLess n (xs ++ ys) → AllLess n xs
less_left n [] ys h = tt
less_left n (x ∷ xs) ys h = (h.0, less_left n xs ys h.1)

less_right : (n : ℕ) (xs ys : List ℕ) → AllLess n (xs ++ ys) → AllLess n ys
less_right n [] ys h = h
less_right n (x ∷ xs) ys h = less_right n xs ys h.1

pub come_up : (n k : ℕ) (xs : List ℕ) → come_after n xs ≡ Some k → (n ≤ k) × AllLess k xs
come_up n k [] h = (let e : n ≡ k = cc in omega (arith, e), tt)
come_up n k (x ∷ xs) h = by (come_up n k xs) (come_up (n + 1) k xs) (nat_lt x n) (nat_eq x n) refl refl h
  where
    by : (come_after n xs ≡ Some k → (n ≤ k) × AllLess k xs) → (come_after (n + 1) xs ≡ Some k → (n + 1 ≤ k) × AllLess k xs) → (b c : Bool) → nat_lt x n ≡ b → nat_eq x n ≡ c → cond b (come_after n xs) (cond c (come_after (n + 1) xs) None) ≡ Some k → (n ≤ k) × AllLess k (x ∷ xs)
    by same next true c e f g =
        let a = same g in
        let le : n ≤ k = a.0 in
        let lt : x < n = grind (arith, nat_tests) in
        (le, (omega (arith, le, lt), a.1))
    by same next false true e f g =
        let a = next g in
        let le : n + 1 ≤ k = a.0 in
        let is : x ≡ n = grind (arith, nat_tests) in
        (omega (arith, le), (omega (arith, le, is), a.1))
    by same next false false e f g = absurd (let no : ⊥ = cc in no)

block_less : (n : ℕ) (blocks : List Block) (k : ℕ) (b : Block) → slice_get blocks k ≡ Some b → AllLess n (flat_map temps_in_block blocks) → AllLess n (temps_in_block b)
block_less n [] k b at h = absurd (let no : ⊥ = cc in no)
block_less n (c ∷ blocks) zero b at h =
    let e : c ≡ b = cc in subst (λ x. AllLess n (temps_in_block x)) e (less_left n (temps_in_block c) (flat_map temps_in_block blocks) h)
block_less n (c ∷ blocks) (suc k) b at h = block_less n blocks k b at (less_right n (temps_in_block c) (flat_map temps_in_block blocks) h)

-- the temporaries that phis assign are numbered below n
abbrev pub AllBelow : ℕ → List Phi → Type 0
AllBelow n [] = Unit {0}
AllBelow n (p ∷ ps) = (p.to.temp < n) × AllBelow n ps

phis_less : (n : ℕ) (phis : List Phi) → AllLess n (flat_map temps_in_phi phis) → AllBelow n phis
phis_less n [] h = tt
phis_less n (p ∷ phis) h = (h.0, phis_less n phis (less_right n (temps_in_phi p) (flat_map temps_in_phi phis) h))

-- the phis of a block assign temporaries of the function
pub phis_below : (f : Func) (k : ℕ) (b : Block) → slice_get f.blocks k ≡ Some b → AllBelow (length f.temps) b.phis
phis_below f k b at =
    let n = length f.temps in
    let all = (come_up 0 n (temps_of f.params f.blocks) f.temps_in_order).1 in
    phis_less n b.phis
    (less_left n (flat_map temps_in_phi b.phis) _
    (block_less n f.blocks k b at (less_right n _ (flat_map temps_in_block f.blocks) all)))

-- and there are temporaries enough for them
pub phis_counted : (blocks : List Block) (k : ℕ) (b : Block) → slice_get blocks k ≡ Some b → phis_before blocks k + length b.phis ≤ sum_by (λ (x : Block). length x.phis) blocks
phis_counted [] k b at = absurd (let no : ⊥ = cc in no)
phis_counted (c ∷ blocks) zero b at =
    let e : c ≡ b = cc in
    let same : length c.phis ≡ length b.phis = ap (λ (x : Block). length x.phis) e in
    let all = sum_by-cons (λ (x : Block). length x.phis) c blocks in
    omega (arith, same, all)
phis_counted (c ∷ blocks) (suc k) b at =
    let le = phis_counted blocks k b at in
    let all = sum_by-cons (λ (x : Block). length x.phis) c blocks in
    omega (arith, le, all)

-- ---- endings and edges

-- how many edges the first k blocks have
abbrev pub edges_before : Func → List Block → ℕ → ℕ
edges_before f [] k = 0
edges_before f (b ∷ blocks) zero = 0
edges_before f (b ∷ blocks) (suc k) = length (block_edges f b) + edges_before f blocks k

-- the ending of a block
pub record EndingAt (f : Func) (n : ℕ) (b : Block) (es : List Ending) (k : ℕ) : Type 0 where
  pub ending : Ending
  pub here : slice_get es k ≡ Some ending
  pub is : IsBlockEnding f n b ending

ending_from : (f : Func) (n : ℕ) (blocks : List Block) (es : List Ending) (k : ℕ) (b : Block) → AreEndings f n blocks es → slice_get blocks k ≡ Some b → EndingAt f (n + edges_before f blocks k) b es k
ending_from f n [] es k b are at = absurd (let no : ⊥ = cc in no)
ending_from f n (c ∷ blocks) [] k b are at = absurd are
ending_from f n (c ∷ blocks) (e ∷ es) zero b are at =
    let same : c ≡ b = cc in
    let none : n ≡ n + 0 = omega arith in
    record { ending = e; here = refl; is = subst (λ m. IsBlockEnding f m b e) none (subst (λ x. IsBlockEnding f n x e) same are.0) }
ending_from f n (c ∷ blocks) (e ∷ es) (suc k) b are at =
    let sum : n + length (block_edges f c) + edges_before f blocks k ≡ n + (length (block_edges f c) + edges_before f blocks k) = omega arith in
    let r = ending_from f (n + length (block_edges f c)) blocks es k b are.1 at in
    record { ending = r.ending; here = r.here; is = subst (λ m. IsBlockEnding f m b r.ending) sum r.is }

pub ending_at : (f : Func) (es : List Ending) (k : ℕ) (b : Block) → AreEndings f 0 f.blocks es → slice_get f.blocks k ≡ Some b → EndingAt f (edges_before f f.blocks k) b es k
ending_at f es k b are at =
    let none : 0 + edges_before f f.blocks k ≡ edges_before f f.blocks k = omega arith in
    subst (λ m. EndingAt f m b es k) none (ending_from f 0 f.blocks es k b are at)

-- the ending on an edge
pub record OnEdgeAt (f : Func) (w : Edge) (es : List Ending) (k : ℕ) : Type 0 where
  pub ending : Ending
  pub here : slice_get es k ≡ Some ending
  pub is : IsOnEdge f w ending

pub on_edge_at : (f : Func) (ws : List Edge) (es : List Ending) (k : ℕ) (w : Edge) → AreOnEdges f ws es → slice_get ws k ≡ Some w → OnEdgeAt f w es k
on_edge_at f [] es k w are at = absurd (let no : ⊥ = cc in no)
on_edge_at f (x ∷ ws) [] k w are at = absurd are
on_edge_at f (x ∷ ws) (e ∷ es) zero w are at =
    let same : x ≡ w = cc in record { ending = e; here = refl; is = subst (λ y. IsOnEdge f y e) same are.0 }
on_edge_at f (x ∷ ws) (e ∷ es) (suc k) w are at =
    let r = on_edge_at f ws es k w are.1 at in record { ending = r.ending; here = r.here; is = r.is }

pub edge_at : (f : Func) (blocks : List Block) (k j : ℕ) (b : Block) (w : Edge) → slice_get blocks k ≡ Some b → slice_get (block_edges f b) j ≡ Some w → slice_get (all_edges f blocks) (edges_before f blocks k + j) ≡ Some w
edge_at f [] k j b w at here = absurd (let no : ⊥ = cc in no)
edge_at f (c ∷ blocks) zero j b w at here =
    let same : c ≡ b = cc in
    let none : 0 + j ≡ j = omega arith in
    ap (slice_get (block_edges f c ++ all_edges f blocks)) none
    ∙ get_before (block_edges f c) (all_edges f blocks) j w (ap (λ x. slice_get (block_edges f x) j) same ∙ here)
edge_at f (c ∷ blocks) (suc k) j b w at here =
    let past : length (block_edges f c) + edges_before f blocks k + j ≡ length (block_edges f c) + (edges_before f blocks k + j) = omega arith in
    ap (slice_get (block_edges f c ++ all_edges f blocks)) past
    ∙ get_behind (block_edges f c) (all_edges f blocks) (edges_before f blocks k + j)
    ∙ edge_at f blocks k j b w at here
