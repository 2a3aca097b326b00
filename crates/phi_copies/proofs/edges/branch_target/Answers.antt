use Rattle.std.proofs.Common.{arith}
use Rattle.phi_copies.proofs.Counting.{is_small}
use Rattle.phi_copies.proofs.edges.branch_target.Goals as goal

pub overflow_add-result : goal.overflow_add-result
overflow_add-result c =
    let small = (is_small c.args.map.now.func.now c.args.map.now.good).blocks in
    let long = c.len.ensures in
    let few = c.requires in
    omega (arith, small, long, few)
