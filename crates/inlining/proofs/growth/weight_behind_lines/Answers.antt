use Rattle.std.proofs.Common.{ℕ, ap, arith, sum_by}
use Rattle.std.proofs.lemmas.List.{at_drop_all}
use Rattle.std.proofs.lemmas.List.Sums.{sum_by-drop_more}
use Rattle.vcode.specs.Prelude.{weight_of}
use Rattle.inlining.proofs.growth.weight_behind_lines.Goals as goal

pub loop-line-preserved : goal.loop-line-preserved
loop-line-preserved c =
    let lines = c.args.lines.now in
    let next = sum_by-drop_more weight_of lines c.loop-line.line-index c.line-item.result c.loop-line-test.true in
    let here = ap weight_of c.line-item.is in
    let part = c.weight_of-weight.ensures in
    let before = c.loop-line.invariant in
    omega (arith, next, here, part, before)

pub returns : goal.returns
returns c =
    let none = at_drop_all (sum_by (weight_of {P = ℕ})) c.args.lines.now c.loop-line.line-index c.loop-line-test.false in
    let before = c.loop-line.invariant in
    omega (arith, none, before)
