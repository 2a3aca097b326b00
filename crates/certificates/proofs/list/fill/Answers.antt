use Rattle.std.proofs.Common.{arith, ◌≡◌, length, ap, ◌∙◌, sym}
use Rattle.cfg_live.specs.declared.graph.Graph.{Graph}
use Rattle.certificates.specs.Listed.{end_point}
use Rattle.cfg_live.proofs.Counting.{uses_count}
use Rattle.certificates.proofs.list.fill.Goals as goal

pub push_starts-requires : goal.push_starts-requires
push_starts-requires c =
    let same : end_point 0 c.as_slice-blocks.result.now ≡ c.len-points.result =
    ap (end_point 0) c.as_slice-blocks.ensures ∙ sym (uses_count c.args.function.now.code.blocks) ∙ sym (ap (λ (g : Graph). length g.uses) c.in_ok-graph.ensures) ∙ sym c.len-points.ensures in
    omega (arith, same, c.len-points.type_inv)
