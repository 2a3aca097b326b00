use Rattle.std.proofs.Common.{arith, ◌+◌, ◌++◌, drop, ap, sym, ◌∙◌}
use Rattle.alloc_check.specs.Prelude.{jump_point, certified_lines}
use Rattle.cfg_live.proofs.Counting.{next_fits}
use Rattle.vcode.proofs.Lists.{item_next}
use Rattle.alloc_check.proofs.Walks.{push_on}
use Rattle.alloc_check.proofs.certified.push_lines.Goals as goal

pub next_point-at-requires : goal.next_point-at-requires
next_point-at-requires c =
    let low = next_fits c.args.lines.now c.loop-from.from-index c.loop-from.at (jump_point c.args.first c.args.lines.now) c.from-item.result c.loop-from-test.true c.from-item.is c.loop-from.invariant.points in
    omega (arith, c.requires)

pub loop-from-preserved : goal.loop-from-preserved
loop-from-preserved c =
    let lines = c.args.lines.now in
    let l = c.from-item.result in
    record {
      lines =
          push_on c.args.certificate.now lines c.loop-from.from-index c.loop-from.at c.next_point-at.result l c.loop-from.placed c.push_point.new.placed
          (c.args.placed.now ++ certified_lines c.args.certificate.now c.args.first lines) c.loop-from-test.true c.from-item.is c.next_point-at.ensures
          c.in_ok-push_point.ensures c.loop-from.invariant.lines;
      points =
          ap (λ q. jump_point q (drop (c.loop-from.from-index + 1) lines)) c.next_point-at.ensures
          ∙ ap (jump_point c.loop-from.at) (sym (item_next lines c.loop-from.from-index l c.loop-from-test.true c.from-item.is))
          ∙ c.loop-from.invariant.points;
    }
