use Rattle.std.proofs.Common.{arith}
use Rattle.alloc_check.specs.Prelude.{jump_point}
use Rattle.cfg_live.proofs.Counting.{next_fits}
use Rattle.std.proofs.lemmas.Grind.{common_steps}
use Rattle.alloc_check.proofs.stays.lines_stay.Goals as goal

pub next_point-at-requires : goal.next_point-at-requires
next_point-at-requires c =
    let low = next_fits c.args.lines.now c.loop-line.line-index c.loop-line.at (jump_point c.args.first c.args.lines.now) c.line-item.result c.loop-line-test.true c.line-item.is c.loop-line.invariant.points in
    omega (arith, c.requires.room)

pub loop-line-preserved : goal.loop-line-preserved
loop-line-preserved c = grind (arith, common_steps)
