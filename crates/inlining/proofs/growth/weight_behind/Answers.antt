use Rattle.std.proofs.Common.{ℕ, List, ap, arith, sum_by}
use Rattle.std.proofs.lemmas.List.{at_drop_all}
use Rattle.std.proofs.lemmas.List.Sums.{sum_by-drop_more}
use Rattle.vcode.specs.declared.line.Line.{Line}
use Rattle.vcode.specs.declared.code.Block.{Block}
use Rattle.vcode.specs.Prelude.{weight_of}
use Rattle.inlining.proofs.growth.weight_behind.Goals as goal

pub loop-block-preserved : goal.loop-block-preserved
loop-block-preserved c =
    let blocks = c.args.blocks.now in
    let of_block = λ (b : Block ℕ). sum_by weight_of b.lines in
    let next = sum_by-drop_more of_block blocks c.loop-block.block-index c.block-item.result c.loop-block-test.true in
    let here = ap of_block c.block-item.is in
    let same = ap (λ (lines : List (Line ℕ)). sum_by weight_of lines) c.as_slice.ensures in
    let part = c.in-Some.ensures in
    let before = c.loop-block.invariant in
    omega (arith, next, here, same, part, before)

pub returns : goal.returns
returns c =
    let none = at_drop_all (sum_by (λ (b : Block ℕ). sum_by weight_of b.lines)) c.args.blocks.now c.loop-block.block-index c.loop-block-test.false in
    let before = c.loop-block.invariant in
    omega (arith, none, before)
