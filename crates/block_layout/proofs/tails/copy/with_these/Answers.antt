use Rattle.std.proofs.Common.{ℕ, List, sym, subst}
use Rattle.vcode.specs.declared.code.Block.{Block}
use Rattle.vcode.specs.Prelude.{Becomes}
use Rattle.block_layout.proofs.KeepingLonger.{becomes_longer}
use Rattle.block_layout.proofs.tails.copy.with_these.Goals as goal

pub with_blocks-requires-clause-becomes : goal.with_blocks-requires-clause-becomes
with_blocks-requires-clause-becomes c =
    let v = c.args.function.now in
    let items = c.args.blocks.items in
    subst (λ (bs : List (Block ℕ)). Becomes v v.registers bs) (sym c.from_vec.ensures) (becomes_longer v items c.requires.longer c.requires.light)
