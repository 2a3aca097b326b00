use Rattle.std.proofs.Common.{ℕ, List, subst, IfSome}
use Rattle.vcode.specs.declared.code.Block.{Block}
use Rattle.dead_code.specs.Without.{Closed}
use Rattle.dead_code.proofs.remove.without_dead.Goals as goal

pub with_these-requires-clause-closed : goal.with_these-requires-clause-closed
with_these-requires-clause-closed c =
    let closed : Closed c.in_ok-set.set.length c.args.starts.now c.as_slice.result.now =
    subst (λ o. IfSome o (λ v. Closed c.in_ok-set.set.length c.args.starts.now c.as_slice.result.now)) c.in-Some.is c.in_ok-blocks.ensures.closed in
    subst (λ (bs : List (Block ℕ)). Closed c.args.function.now.registers c.args.starts.now bs) c.as_slice.ensures
    (subst (λ n. Closed n c.args.starts.now c.as_slice.result.now) c.in_ok-set.ensures.length closed)
