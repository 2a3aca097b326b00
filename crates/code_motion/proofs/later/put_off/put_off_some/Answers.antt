use Rattle.std.proofs.Common.{ℕ, List, subst}
use Rattle.vcode.specs.declared.code.Block.{Block}
use Rattle.vcode.proofs.Results.{becomes_these}
use Rattle.code_motion.specs.Later.{AllLater}
use Rattle.code_motion.proofs.KeepingLater.{owed_later}
use Rattle.code_motion.proofs.later.put_off.put_off_some.Goals as goal

pub with_blocks-requires-clause-becomes : goal.with_blocks-requires-clause-becomes
with_blocks-requires-clause-becomes c =
    let v = c.args.function.now in
    let items = c.in_ok-made.made.items in
    let all : AllLater v.code.blocks items =
    subst (λ (bs : List (Block ℕ)). AllLater bs items) c.as_slice.ensures c.in_ok-made.ensures in
    becomes_these v v.registers items c.from_vec.result (owed_later v items all) c.from_vec.ensures
