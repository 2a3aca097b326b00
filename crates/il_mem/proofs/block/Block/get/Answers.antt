use Rattle.std.proofs.Common.{◌≡◌, length, arith}
use Rattle.il_mem.proofs.OverlaidLemmas.{as_many, front_cell, behind_cell}
use Rattle.il_mem.proofs.block.Block.get.Goals as goal

pub cell_at-requires : goal.cell_at-requires
cell_at-requires c =
    let same : length c.args.self.now ≡ length c.self.inside.marks.items = as_many _ _ _ _ c.self.view_is in omega arith

pub returns-then-at-len : goal.returns-then-at-len
returns-then-at-len c =
    front_cell c.self.inside.bytes.items c.self.inside.marks.items c.self.inside.values.items c.args.self.now c.args.at c.index.result.now c.index.result.now
    c.self.view_is c.self.invariant.0 (omega arith) c.index.ensures

pub returns-else-at-len : goal.returns-else-at-len
returns-else-at-len c =
    behind_cell c.self.inside.bytes.items c.self.inside.marks.items c.as_slice.result.now c.self.inside.values.items c.as_slice-else-at-len.result.now
    c.args.self.now c.args.at c.cell_at.result c.self.view_is c.as_slice.ensures.value c.as_slice-else-at-len.ensures.value (omega arith) c.cell_at.ensures
