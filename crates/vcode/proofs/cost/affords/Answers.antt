use Rattle.std.proofs.Common.{◌+◌, drop, sym, ap, ◌∙◌, arith}
use Rattle.vcode.specs.Prelude.{affords}
use Rattle.vcode.proofs.Lists.{item_next}
use Rattle.vcode.proofs.Affording.{after_line, not_after}
use Rattle.vcode.proofs.cost.affords.Goals as goal

pub loop-line-preserved : goal.loop-line-preserved
loop-line-preserved g c =
    let jump = c.args.jump.now in
    let lines = c.args.lines.now in
    let i = c.loop-line.line-index in
    let item = c.line-item.result in
    record {
      walk =
          after_line c.loop-line.credit c.in-Some.left jump item (drop (i + 1) lines) (sym c.in-Some.ensures.spent)
          ∙ ap (affords c.loop-line.credit jump) (sym (item_next lines i item c.loop-line-test.true c.line-item.is))
          ∙ c.loop-line.invariant.walk;
      small = let low = c.in-Some.ensures.small in let before = c.loop-line.invariant.small in omega (arith, low, before);
    }

pub returns-in-None : goal.returns-in-None
returns-in-None g c =
    let jump = c.args.jump.now in
    let lines = c.args.lines.now in
    let i = c.loop-line.line-index in
    let item = c.line-item.result in
    sym
    (sym c.loop-line.invariant.walk
    ∙ (ap (affords c.loop-line.credit jump) (item_next lines i item c.loop-line-test.true c.line-item.is)
    ∙ not_after c.loop-line.credit jump item (drop (i + 1) lines) (sym c.in-None.ensures.spent)))
