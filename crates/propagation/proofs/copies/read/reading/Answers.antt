use Rattle.std.proofs.Common.{◌∙◌, ap, map}
use Rattle.vcode.proofs.Results.{becomes_these}
use Rattle.propagation.specs.Copied.{reading_block}
use Rattle.propagation.proofs.KeepingCopies.{owed}
use Rattle.propagation.proofs.copies.read.reading.Goals as goal

pub with_blocks-requires-clause-becomes : goal.with_blocks-requires-clause-becomes
with_blocks-requires-clause-becomes c =
    let v = c.args.function.now in
    becomes_these v v.registers (map reading_block v.code.blocks) c.in_ok-blocks.blocks (owed v) (c.in_ok-blocks.ensures ∙ ap (map reading_block) c.as_slice.ensures)
