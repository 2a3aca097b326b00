use Rattle.std.proofs.Common.{ℕ, List, subst}
use Rattle.vcode.specs.declared.code.Block.{Block}
use Rattle.vcode.proofs.Results.{becomes_these}
use Rattle.code_motion.specs.Longer.{AllLonger}
use Rattle.code_motion.proofs.Keeping.{owed}
use Rattle.code_motion.proofs.hoist.apply.Goals as goal

pub with_blocks-requires-clause-becomes : goal.with_blocks-requires-clause-becomes
with_blocks-requires-clause-becomes c =
    let v = c.args.function.now in
    let m = c.more.result in
    let items = c.in_ok-blocks.blocks.items in
    let all : AllLonger v.registers m v.code.blocks items =
    subst (λ (bs : List (Block ℕ)). AllLonger v.registers m bs items) c.as_slice-2.ensures c.in_ok-blocks.ensures in
    becomes_these v m items c.from_vec.result (owed v m items c.more.ensures.least all) c.from_vec.ensures
