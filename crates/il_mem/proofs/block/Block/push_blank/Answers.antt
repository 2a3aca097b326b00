use Rattle.il_mem.proofs.OverlaidLemmas.{one_more}
use Rattle.il_mem.proofs.block.Block.push_blank.Goals as goal

pub returns : goal.returns
returns c =
    one_more c.self.inside.bytes.items c.reserve.new.self.items c.self.inside.marks.items c.push.new.self.items c.self.inside.values.items c.reserve-2.new.self.items
    c.args.self.now c.self.view_is c.self.invariant.0 c.in_ok-reserve.ensures.items c.in_ok-push.ensures.items c.in_ok-reserve-2.ensures.items
