use Rattle.std.proofs.Common.{map, ◌∙◌}
use Rattle.vcode.proofs.Results.{becomes_these}
use Rattle.dead_code.specs.Without.{kept_block}
use Rattle.dead_code.proofs.Keeping.{owed}
use Rattle.dead_code.proofs.remove.with_these.Goals as goal

pub with_blocks-requires-clause-becomes : goal.with_blocks-requires-clause-becomes
with_blocks-requires-clause-becomes c =
    let v = c.args.function.now in
    becomes_these v v.registers (map (kept_block v.registers c.args.starts.now) v.code.blocks) c.from_vec.result (owed v c.args.starts.now c.requires.closed) (c.from_vec.ensures ∙ c.requires.kept)
