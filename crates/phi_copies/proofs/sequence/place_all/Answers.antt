use Rattle.std.proofs.Common.{◌≡◌, length, ap, ◌∙◌}
use Rattle.phi_copies.specs.Order.{Seen}
use Rattle.phi_copies.proofs.Loops.{sequence_on}
use Rattle.phi_copies.proofs.sequence.place_all.Goals as goal

pub loop-start-preserved : goal.loop-start-preserved
loop-start-preserved c =
    let ms = c.args.moves.now in
    let before = c.loop-start.invariant in
    let size : length c.walk.new.visited ≡ length ms = c.walk.auto.visited ∙ ap length before.same ∙ before.state.size in
    let walked : Seen ms c.walk.new.visited c.loop-start.placed c.walk.new.path.items = rw before.same at c.in_ok-end.ensures.seen in
    sequence_on ms c.args.scratch c.loop-start.visited c.loop-start.placed c.loop-start.path.items c.loop-start.out.items
    c.walk.new.visited c.place_way.new.placed c.place_way.new.path.items c.place_way.new.out.items c.loop-start.start before
    size c.in_ok-place_way.ensures.open.state c.in_ok-place_way.ensures.open.few
    (c.in_ok-place_way.ensures.open.seen c.walk.new.visited walked)
    c.in_ok-place_way.ensures.empty c.in_ok-end.ensures.grown c.in_ok-end.ensures.started
