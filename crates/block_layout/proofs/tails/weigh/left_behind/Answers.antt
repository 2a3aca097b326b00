use Rattle.std.proofs.Common.{ap, arith, sum_by}
use Rattle.std.proofs.lemmas.List.{at_drop_all}
use Rattle.std.proofs.lemmas.List.Sums.{sum_by-drop_more}
use Rattle.block_layout.specs.Joined.{burden}
use Rattle.block_layout.proofs.tails.weigh.left_behind.Goals as goal

pub loop-line-preserved : goal.loop-line-preserved
loop-line-preserved c =
    let lines = c.args.lines.now in
    let next = sum_by-drop_more burden lines c.loop-line.line-index c.line-item.result c.loop-line-test.true in
    let here = ap burden c.line-item.is in
    let part = c.burden-taken.ensures in
    let before = c.loop-line.invariant in
    omega (arith, next, here, part, before)

pub returns : goal.returns
returns c =
    let none = at_drop_all (sum_by burden) c.args.lines.now c.loop-line.line-index c.loop-line-test.false in
    let before = c.loop-line.invariant in
    omega (arith, none, before)
