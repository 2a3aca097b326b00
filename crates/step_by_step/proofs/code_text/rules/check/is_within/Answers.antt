use Rattle.std.proofs.Common.{List, ap, arith, sum_by}
use Rattle.std.proofs.lemmas.List.Sums.{sum_by-drop_more}
use Rattle.vcode.specs.declared.line.Line.{Line}
use Rattle.vcode.specs.declared.code.Block.{Block}
use Rattle.step_by_step.specs.Function.{measured}
use Rattle.step_by_step.proofs.code_text.rules.check.is_within.Goals as goal

pub loop-block-preserved : goal.loop-block-preserved
loop-block-preserved g c =
    let blocks = c.args.blocks.now in
    let of_block = λ (b : Block g.row.P.Denot). sum_by (measured c.args.measure) b.lines in
    let next = sum_by-drop_more of_block blocks c.loop-block.block-index c.block-item.result c.loop-block-test.true in
    let here = ap of_block c.block-item.is in
    let same = ap (λ (lines : List (Line g.row.P.Denot)). sum_by (measured c.args.measure) lines) c.as_slice.ensures in
    let part = c.in-Some.ensures in
    let before = c.loop-block.invariant in
    omega (arith, next, here, same, part, before)
