use Rattle.std.proofs.Common.{sym, ◌∙◌}
use Rattle.alloc_check.specs.Prelude.{next_point, jump_point}
use Rattle.alloc_check.proofs.Counted.{beyond}
use Rattle.cfg_live.proofs.Counting.{next_fits}
use Rattle.alloc_check.proofs.points.lines_within.Goals as goal

pub returns-in-None : goal.returns-in-None
returns-in-None c =
    let end = jump_point c.args.first c.args.lines.now in
    let l = c.line-item.result in
    sym (beyond c.args.limit (next_point c.loop-line.point l) end (sym c.next_within.ensures ∙ c.in-None.is)
    (next_fits c.args.lines.now c.loop-line.line-index c.loop-line.point end l c.loop-line-test.true c.line-item.is c.loop-line.invariant.points))
