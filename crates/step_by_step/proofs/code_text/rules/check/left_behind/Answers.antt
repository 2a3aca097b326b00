use Rattle.std.proofs.Common.{ap, arith, sum_by}
use Rattle.std.proofs.lemmas.List.{at_drop_all}
use Rattle.std.proofs.lemmas.List.Sums.{sum_by-drop_more}
use Rattle.step_by_step.specs.Function.{measured}
use Rattle.step_by_step.proofs.code_text.rules.check.left_behind.Goals as goal

pub loop-line-preserved : goal.loop-line-preserved
loop-line-preserved g c =
    let lines = c.args.lines.now in
    let next = sum_by-drop_more (measured c.args.measure) lines c.loop-line.line-index c.line-item.result c.loop-line-test.true in
    let here = ap (measured c.args.measure) c.line-item.is in
    let part = c.in_ok-has.ensures in
    let before = c.loop-line.invariant in
    omega (arith, next, here, part, before)

pub returns : goal.returns
returns g c =
    let none = at_drop_all (sum_by (measured {P = g.row.P.Denot} c.args.measure)) c.args.lines.now c.loop-line.line-index c.loop-line-test.false in
    let before = c.loop-line.invariant in
    omega (arith, none, before)
