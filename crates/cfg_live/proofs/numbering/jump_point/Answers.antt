use Rattle.std.proofs.Common.{arith}
use Rattle.cfg_live.specs.Numbering.{jump_point}
use Rattle.cfg_live.proofs.Counting.{next_fits}
use Rattle.cfg_live.proofs.numbering.jump_point.Goals as goal

pub next_point-point-requires : goal.next_point-point-requires
next_point-point-requires c =
    let low = next_fits c.args.lines.now c.loop-line.line-index c.loop-line.point (jump_point c.args.first c.args.lines.now) c.line-item.result c.loop-line-test.true c.line-item.is c.loop-line.invariant in
    omega (arith, c.requires)
