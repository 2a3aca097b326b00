use Rattle.std.proofs.Common.{◌≡◌, length, arith}
use Rattle.il_mem.proofs.OverlaidLemmas.{as_many}
use Rattle.il_mem.proofs.block.Block.len.Goals as goal

pub returns : goal.returns
returns c =
    let same : length c.args.self.now ≡ length c.self.inside.marks.items = as_many _ _ _ _ c.self.view_is in omega arith
