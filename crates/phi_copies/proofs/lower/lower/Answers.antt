use Rattle.std.proofs.Common.{◌≡◌, [], ◌∷◌, ◌++◌, ℕ, ◌+◌, ◌≤◌, List, length, drop, sym, ◌∙◌, ap, subst, arith}
use Rattle.std.proofs.lemmas.List.{drop_more}
use Rattle.std.proofs.Math.ListN.{drop_of_length-le}
use Rattle.il_ast.specs.declared.block.Block.{Block}
use Rattle.il_ast.specs.declared.function.Func.{Func}
use Rattle.phi_copies.specs.declared.ending.Ending.{Ending}
use Rattle.phi_copies.specs.Lowered.{block_edges, IsBlockEnding, AreOnEdges, IsLowered}
use Rattle.phi_copies.proofs.Counting.{is_small}
use Rattle.phi_copies.proofs.EntryNumbers.{SoFar, further, at_last}
use Rattle.phi_copies.proofs.Lowering.{lowered_keeps}
use Rattle.phi_copies.proofs.lower.lower.Goals as goal

pub block_ending-requires : goal.block_ending-requires
block_ending-requires c =
    let few = (is_small c.args.func.now c.requires).blocks in
    let two = c.loop-block.invariant.few in
    let within = c.loop-block-test.true in
    let long = c.len.ensures in
    let all = ap length c.as_slice-block-items.ensures in
    omega (arith, few, two, within, long, all)

pub loop-block-preserved : goal.loop-block-preserved
loop-block-preserved c =
    let f = c.args.func.now in
    let b = c.block-item.result in
    let k = c.loop-block.block-index in
    let blocks = c.as_slice-block-items.result.now in
    let endings = c.loop-block.endings.items in
    let edges = c.loop-block.edges.items in
    let e = c.in_ok-block_ending.field-0 in
    let parted = drop_more blocks k b c.loop-block-test.true ∙ ap (λ x. x ∷ drop (k + 1) blocks) (sym c.block-item.is) in
    let so = subst (λ rest. SoFar f endings edges rest k) parted c.loop-block.invariant in
    let long : c.len.result ≡ length edges = omega (arith, c.len.ensures) in
    let same = c.in_ok-map.ensures in
    let ending_is = subst (λ n. IsBlockEnding f n b e) long (subst (λ g. IsBlockEnding g c.len.result b e) same c.in_ok-block_ending.ensures) in
    let new = c.in_ok-push_edges.ensures.0 in
    let edges_are = subst (λ g. AreOnEdges g (block_edges g b) new) same c.in_ok-push_edges.ensures.2 in
    subst (λ es. SoFar f es c.push_edges.new.edges.items (drop (k + 1) blocks) (k + 1)) (sym c.in_ok-push.ensures.items)
    (subst (λ ds. SoFar f (endings ++ e ∷ []) ds (drop (k + 1) blocks) (k + 1)) (sym c.in_ok-push_edges.ensures.1)
    (further f endings edges new e b (drop (k + 1) blocks) k so ending_is edges_are))

-- the endings and edges, once all blocks have been
all_lowered : (f : Func) (blocks : List Block) (endings edges : List Ending) (es ds : List Ending) (k : ℕ) → SoFar f endings edges (drop k blocks) k → length blocks ≤ k → es ≡ endings → ds ≡ edges → IsLowered f (record { endings = es; edges = ds })
all_lowered f blocks endings edges es ds k so le e d =
    let none : drop k blocks ≡ [] = drop_of_length-le blocks le in
    subst (λ xs. IsLowered f (record { endings = xs; edges = ds })) (sym e)
    (subst (λ xs. IsLowered f (record { endings = endings; edges = xs })) (sym d)
    (at_last f endings edges k (subst (λ rest. SoFar f endings edges rest k) none so)))

pub invariant_of-result : goal.invariant_of-result
invariant_of-result c =
    record {
      good = c.requires;
      lowered = all_lowered c.args.func.now c.as_slice-block-items.result.now c.loop-block.endings.items c.loop-block.edges.items c.from_vec.result c.from_vec-2.result c.loop-block.block-index
          c.loop-block.invariant (omega (arith, c.loop-block-test.false)) c.from_vec.ensures c.from_vec-2.ensures;
    }

pub returns-clause-keeps : goal.returns-clause-keeps
returns-clause-keeps c =
    lowered_keeps c.args.func.now (record { endings = c.from_vec.result; edges = c.from_vec-2.result })
    (all_lowered c.args.func.now c.as_slice-block-items.result.now c.loop-block.endings.items c.loop-block.edges.items c.from_vec.result c.from_vec-2.result c.loop-block.block-index
    c.loop-block.invariant (omega (arith, c.loop-block-test.false)) c.from_vec.ensures c.from_vec-2.ensures)
