use Rattle.std.proofs.Common.{◌≡◌, ◌+◌, ◌≤◌, length, refl, arith}
use Rattle.il_ast.specs.Prelude.{byte_count}
use Rattle.il_mem.proofs.OverlaidLemmas.{as_many, numbered}
use Rattle.il_mem.proofs.block.Block.set_number.Goals as goal

pub returns-then-is_within : goal.returns-then-is_within
returns-then-is_within c =
    let same : length c.args.self.now ≡ length c.self.inside.marks.items = as_many _ _ _ _ c.self.view_is in
    let short : length c.self.inside.bytes.items ≤ length c.self.inside.marks.items = c.self.invariant.0 in
    let inside : c.args.to + byte_count c.args.size ≤ c.len.result = c.if-is_within.ensures.0 refl in (
      omega arith,
      numbered c.args.to (byte_count c.args.size) c.args.number c.self.inside.bytes.items c.overwrite.new.bytes.items c.self.inside.marks.items c.self.inside.values.items
          c.args.self.now c.self.view_is (omega arith) c.overwrite.ensures.bytes,
    )
