-- The numbers of phis' temporaries, as they are looked up.
use Rattle.std.proofs.Common.{◌≡◌, ℕ, zero, suc, ◌+◌, ◌*◌, ◌≤◌, List, [], ◌∷◌, ◌++◌, length, refl, sym, ◌∙◌, ap, subst, arith, append_assoc, slice_get, Option, Some, None, length-append, append-nil}
use Rattle.il_ast.specs.declared.instruction.Jump.{Jump}
use Rattle.il_ast.specs.declared.instruction.Jump.TheVariants.{Goto, Branch, Return, Halt}
use Rattle.il_ast.specs.declared.instruction.Lined.{Lined}
use Rattle.il_ast.specs.declared.block.Phi.{Phi}
use Rattle.il_ast.specs.declared.block.Block.{Block}
use Rattle.il_ast.specs.declared.function.Func.{Func}
use Rattle.phi_copies.specs.declared.ending.Ending.{Ending}
use Rattle.phi_copies.specs.Good.{IsGoodFunction}
use Rattle.phi_copies.specs.Copies.{phis_of, phis_at, phis_before, first_own}
use Rattle.phi_copies.specs.Lowered.{target, Edge, edge_with, edge, jump_edges, end_edges, block_edges, all_edges, straight, IsBlockEnding, AreEndings, AreOnEdges, IsLowered}
use Rattle.phi_copies.specs.Map.{first_numbers}
use Rattle.phi_copies.proofs.Counting.{is_small}
use Rattle.phi_copies.proofs.EdgePlaces.{phis_counted}
use Rattle.il_ast.proofs.Chosen.{same_chosen, none_chosen}

number_at : (n : ℕ) (blocks : List Block) (k : ℕ) (b : Block) → slice_get blocks k ≡ Some b → slice_get (first_numbers n blocks) k ≡ Some (n + phis_before blocks k)
number_at n [] k b e = absurd (let no : ⊥ = cc in no)
number_at n (c ∷ blocks) zero b e = let none : n ≡ n + 0 = omega arith in ap Some none
number_at n (c ∷ blocks) (suc k) b e =
    let sum : n + length c.phis + phis_before blocks k ≡ n + (length c.phis + phis_before blocks k) = omega arith in
    number_at (n + length c.phis) blocks k b e ∙ ap Some sum

-- the number that was looked up
pub number_is : (f : Func) (firsts : List ℕ) (k n : ℕ) (b : Block) → firsts ≡ first_numbers (length f.temps) f.blocks → slice_get firsts k ≡ Some n → slice_get f.blocks k ≡ Some b → n ≡ length f.temps + phis_before f.blocks k
number_is f firsts k n b are at here =
    same_chosen (sym at ∙ ap (λ ns. slice_get ns k) are ∙ number_at (length f.temps) f.blocks k b here)

-- there is a number for each block, and no other
nowhere : (n : ℕ) (blocks : List Block) (k : ℕ) → slice_get blocks k ≡ None → slice_get (first_numbers n blocks) k ≡ None
nowhere n [] k e = refl
nowhere n (c ∷ blocks) zero e = absurd (let no : ⊥ = cc in no)
nowhere n (c ∷ blocks) (suc k) e = nowhere (n + length c.phis) blocks k e

numbered : (f : Func) (firsts : List ℕ) (k n : ℕ) → firsts ≡ first_numbers (length f.temps) f.blocks → slice_get firsts k ≡ Some n → slice_get f.blocks k ≡ None → ⊥
numbered f firsts k n are at none = none_chosen (sym (nowhere (length f.temps) f.blocks k none) ∙ ap (λ ns. slice_get ns k) (sym are) ∙ at)

pub entry_small : (f : Func) (firsts : List ℕ) (k n : ℕ) → IsGoodFunction f → firsts ≡ first_numbers (length f.temps) f.blocks → slice_get firsts k ≡ Some n → n + length (phis_at f.blocks k) ≤ 44000
entry_small f firsts k n good are at = by (slice_get f.blocks k) refl
  where
    by : (b : Option Block) → slice_get f.blocks k ≡ b → n + length (phis_of b) ≤ 44000
    by None e = absurd (numbered f firsts k n are at e)
    by (Some b) e =
        let is = number_is f firsts k n b are at e in
        let all = phis_counted f.blocks k b e in
        let small = (is_small f good).temporaries in
        omega (arith, is, all, small)

-- the block that has this number
pub record Numbered (f : Func) (k n : ℕ) : Type 0 where
  pub block : Block
  pub here : slice_get f.blocks k ≡ Some block
  pub is : n ≡ first_own f k

pub entry_found : (f : Func) (firsts : List ℕ) (k n : ℕ) → firsts ≡ first_numbers (length f.temps) f.blocks → slice_get firsts k ≡ Some n → Numbered f k n
entry_found f firsts k n are at = by (slice_get f.blocks k) refl
  where
    by : (b : Option Block) → slice_get f.blocks k ≡ b → Numbered f k n
    by None e = absurd (numbered f firsts k n are at e)
    by (Some b) e = record { block = b; here = e; is = number_is f firsts k n b are at e }

-- a place without a block
pub entry_unnumbered : (f : Func) (firsts : List ℕ) (k : ℕ) → firsts ≡ first_numbers (length f.temps) f.blocks → slice_get firsts k ≡ None → slice_get f.blocks k ≡ None
entry_unnumbered f firsts k are none = by (slice_get f.blocks k) refl
  where
    by : (b : Option Block) → slice_get f.blocks k ≡ b → slice_get f.blocks k ≡ None
    by None e = e
    by (Some b) e = absurd (none_chosen (sym none ∙ ap (λ ns. slice_get ns k) are ∙ number_at (length f.temps) f.blocks k b e))

-- ---- a block has at most two edges

edge_few : (from k : ℕ) (phis : List Phi) → length (edge_with from k phis) ≤ 1
edge_few from k [] = omega arith
edge_few from k (p ∷ ps) = omega arith

jump_few : (f : Func) (from : ℕ) (j : Jump) → length (jump_edges f from j) ≤ 2
jump_few f from (Goto l) = omega arith
jump_few f from (Branch on nonzero otherwise) =
    let one = edge_few from (target f.blocks nonzero) (phis_at f.blocks (target f.blocks nonzero)) in
    let two = edge_few from (target f.blocks otherwise) (phis_at f.blocks (target f.blocks otherwise)) in
    let all = length-append (edge f from (target f.blocks nonzero)) (edge f from (target f.blocks otherwise)) in
    omega (arith, one, two, all)
jump_few f from (Return a) = omega arith
jump_few f from Halt = omega arith

end_few : (f : Func) (from : ℕ) (j : Option (Lined Jump)) → length (end_edges f from j) ≤ 2
end_few f from None = omega arith
end_few f from (Some j) = jump_few f from (straight j.item)

pub edges_few : (f : Func) (b : Block) → length (block_edges f b) ≤ 2
edges_few f b = end_few f b.label b.jump

-- ---- endings on edges

pub on_edges_many : (f : Func) (ws : List Edge) (es : List Ending) → AreOnEdges f ws es → length es ≡ length ws
on_edges_many f [] [] h = refl
on_edges_many f [] (e ∷ es) h = absurd h
on_edges_many f (w ∷ ws) [] h = absurd h
on_edges_many f (w ∷ ws) (e ∷ es) h = ap suc (on_edges_many f ws es h.1)

pub on_edges_both : (f : Func) (ws xs : List Edge) (es ds : List Ending) → AreOnEdges f ws es → AreOnEdges f xs ds → AreOnEdges f (ws ++ xs) (es ++ ds)
on_edges_both f [] xs [] ds h k = k
on_edges_both f [] xs (e ∷ es) ds h k = absurd h
on_edges_both f (w ∷ ws) xs [] ds h k = absurd h
on_edges_both f (w ∷ ws) xs (e ∷ es) ds h k = (h.0, on_edges_both f ws xs es ds h.1 k)

-- ---- the loop over blocks, one further

-- endings and edges of the blocks so far, before any of the rest
pub record SoFar (f : Func) (endings edges : List Ending) (rest : List Block) (index : ℕ) : Type 0 where
  pub few : length edges ≤ 2 * index
  pub endings_are : (es : List Ending) → AreEndings f (length edges) rest es → AreEndings f 0 f.blocks (endings ++ es)
  pub edges_are : (es : List Ending) → AreOnEdges f (all_edges f rest) es → AreOnEdges f (all_edges f f.blocks) (edges ++ es)

pub further : (f : Func) (endings edges new : List Ending) (e : Ending) (b : Block) (rest : List Block) (index : ℕ) → SoFar f endings edges (b ∷ rest) index → IsBlockEnding f (length edges) b e → AreOnEdges f (block_edges f b) new → SoFar f (endings ++ e ∷ []) (edges ++ new) rest (index + 1)
further f endings edges new e b rest index so is are =
    let many = on_edges_many f (block_edges f b) new are in
    let long : length (edges ++ new) ≡ length edges + length (block_edges f b) = length-append edges new ∙ ap (λ n. length edges + n) many in
    let two = edges_few f b in
    let few = so.few in
    record {
      few = omega (arith, long, two, few);
      endings_are = λ es h.
          subst (AreEndings f 0 f.blocks) (sym (append_assoc endings (e ∷ []) es))
          (so.endings_are (e ∷ es) (is, subst (λ n. AreEndings f n rest es) long h));
      edges_are = λ es h.
          subst (AreOnEdges f (all_edges f f.blocks)) (sym (append_assoc edges new es))
          (so.edges_are (new ++ es) (on_edges_both f (block_edges f b) (all_edges f rest) new es are h));
    }

pub at_last : (f : Func) (endings edges : List Ending) (index : ℕ) → SoFar f endings edges [] index → IsLowered f (record { endings = endings; edges = edges })
at_last f endings edges index so =
    record {
      endings = subst (AreEndings f 0 f.blocks) (append-nil endings) (so.endings_are [] tt);
      edges = subst (AreOnEdges f (all_edges f f.blocks)) (append-nil edges) (so.edges_are [] tt);
    }
