use Rattle.std.proofs.Common.{◌+◌, drop, sym, ap, ◌∙◌}
use Rattle.std.proofs.lemmas.List.{drop_all}
use Rattle.vcode.proofs.Lists.{item_next}
use Rattle.cfg_live.specs.Rows.{next_blocks}
use Rattle.cfg_live.proofs.points.push_next_blocks.Goals as goal

pub loop-block-preserved : goal.loop-block-preserved
loop-block-preserved c =
    let blocks = c.args.blocks.now in
    let firsts = c.args.firsts.now in
    let i = c.loop-block.block-index in
    ap (λ ns. next_blocks firsts ns (drop (i + 1) blocks)) c.in_ok-push_next_block.ensures
    ∙ (ap (next_blocks firsts c.loop-block.nexts.items) (sym (item_next blocks i c.block-item.result c.loop-block-test.true c.block-item.is)) ∙ c.loop-block.invariant)

pub returns : goal.returns
returns c =
    ap (next_blocks c.args.firsts.now c.loop-block.nexts.items) (sym (drop_all c.loop-block.block-index c.args.blocks.now c.loop-block-test.false))
    ∙ c.loop-block.invariant
