use Rattle.std.proofs.Common.{Option, subst, IfSome, slice_index_or}
use Rattle.inlining.specs.declared.growth.Cut.{Cut}
use Rattle.inlining.specs.Growth.{IsCut}
use Rattle.inlining.proofs.Placing.{placed_on}
use Rattle.inlining.proofs.calls.with_call.Goals as goal

pub returns-in-Some : goal.returns-in-Some
returns-in-Some c =
    let candidates = c.args.candidates.now in
    let g = c.args.growth in
    let cut = subst (λ (o : Option Cut). IfSome o (λ d. IsCut candidates g (slice_index_or g.blocks.items c.args.at d.up_to) d)) c.in-Some.is c.in_ok-cut.ensures in
    placed_on candidates g c.args.at c.in-Some.cut.up_to c.in-Some.cut c.requires cut c.put.result c.put.ensures.blocks c.put.ensures.room
