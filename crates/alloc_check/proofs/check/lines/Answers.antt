use Rattle.std.proofs.Common.{arith}
use Rattle.alloc_check.specs.Prelude.{jump_point}
use Rattle.cfg_live.proofs.Counting.{next_fits}
use Rattle.std.proofs.lemmas.Grind.{common_steps}
use Rattle.alloc_check.proofs.check.lines.Goals as goal

pub point-requires-clause-room : goal.point-requires-clause-room
point-requires-clause-room c =
    let low = next_fits c.args.lines.now c.loop-from.from-index c.loop-from.at (jump_point c.args.first c.args.lines.now) c.from-item.result c.loop-from-test.true c.from-item.is c.loop-from.invariant.points in
    omega (arith, c.requires.room)

pub next_point-at-requires : goal.next_point-at-requires
next_point-at-requires c =
    let low = next_fits c.args.lines.now c.loop-from.from-index c.loop-from.at (jump_point c.args.first c.args.lines.now) c.from-item.result c.loop-from-test.true c.from-item.is c.loop-from.invariant.points in
    omega (arith, c.requires.room)

pub loop-from-preserved : goal.loop-from-preserved
loop-from-preserved c = grind (arith, common_steps)
