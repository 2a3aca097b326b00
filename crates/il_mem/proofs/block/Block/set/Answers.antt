use Rattle.std.proofs.Common.{◌≡◌, ◌≤◌, length, arith, vec_capacity}
use Rattle.il_mem.proofs.OverlaidLemmas.{as_many, set_marked}
use Rattle.il_mem.proofs.block.Block.set.Goals as goal

pub set_cell-requires : goal.set_cell-requires
set_cell-requires c =
    let same : length c.args.self.now ≡ length c.self.inside.marks.items = as_many _ _ _ _ c.self.view_is in
    let kept : length c.cut.new.marks.items ≡ length c.self.inside.marks.items = c.cut.ensures.marks in
    let room : length c.self.inside.marks.items ≤ vec_capacity c.self.inside.values = c.self.invariant.2 in
    record { inside = omega arith; room = omega arith }

pub invariant_of-self : goal.invariant_of-self
invariant_of-self c =
    let same : length c.args.self.now ≡ length c.self.inside.marks.items = as_many _ _ _ _ c.self.view_is in
    let kept : length c.cut.new.marks.items ≡ length c.self.inside.marks.items = c.cut.ensures.marks in
    let few : length c.cut.new.bytes.items ≤ c.args.at = c.cut.ensures.bytes in
    let as_before : vec_capacity c.cut.new.bytes ≡ vec_capacity c.self.inside.bytes = c.cut.ensures.capacity in
    let many : length c.set_cell.new.marks.items ≡ length c.cut.new.marks.items = c.set_cell.ensures.length in
    let more : vec_capacity c.self.inside.values ≤ vec_capacity c.set_cell.new.values = c.set_cell.ensures.capacity in
    let room : length c.self.inside.marks.items ≤ vec_capacity c.self.inside.bytes = c.self.invariant.1 in
    let place : length c.self.inside.marks.items ≤ vec_capacity c.self.inside.values = c.self.invariant.2 in (
      omega arith,
      omega arith,
      omega arith,
    )

pub returns-after-self : goal.returns-after-self
returns-after-self c =
    set_marked c.self.inside.bytes.items c.cut.new.bytes.items c.self.inside.marks.items c.cut.new.marks.items c.set_cell.new.marks.items
    c.self.inside.values.items c.set_cell.new.values.items c.args.self.now c.args.at c.args.cell c.self.view_is c.cut.ensures.cells c.cut.ensures.bytes c.set_cell.ensures.cells
