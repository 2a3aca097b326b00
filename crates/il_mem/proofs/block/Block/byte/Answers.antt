use Rattle.std.proofs.Common.{ap, sym, ◌∙◌, ◌≡◌, length, get_or, arith, option_and_then}
use Rattle.il_ast.specs.declared.value.Value.TheVariants.{Integer}
use Rattle.il_mem.specs.Cells.{plain_byte}
use Rattle.il_mem.proofs.OverlaidLemmas.{as_many, front_cell, behind_mark}
use Rattle.il_mem.proofs.block.Block.byte.Goals as goal

pub index-requires-else-at-len : goal.index-requires-else-at-len
index-requires-else-at-len c =
    let same : length c.args.self.now ≡ length c.self.inside.marks.items = as_many _ _ _ _ c.self.view_is in omega arith

pub returns-then-at-len-clause-byte : goal.returns-then-at-len-clause-byte
returns-then-at-len-clause-byte c =
    ap (option_and_then plain_byte)
    (sym (front_cell c.self.inside.bytes.items c.self.inside.marks.items c.self.inside.values.items c.args.self.now c.args.at c.index.result.now c.index.result.now
    c.self.view_is c.self.invariant.0 (omega arith) c.index.ensures))

pub returns-else-at-len-clause-byte : goal.returns-else-at-len-clause-byte
returns-else-at-len-clause-byte c =
    let same : length c.args.self.now ≡ length c.self.inside.marks.items = as_many _ _ _ _ c.self.view_is in
    c.byte_in.ensures.byte (get_or c.self.inside.values.items c.args.at (Integer 0))
    ∙ ap (option_and_then plain_byte)
    (sym (behind_mark c.self.inside.bytes.items c.self.inside.marks.items c.self.inside.values.items c.args.self.now c.args.at c.index-else-at-len.result.now
    c.self.view_is (omega arith) (omega arith) c.index-else-at-len.ensures))
