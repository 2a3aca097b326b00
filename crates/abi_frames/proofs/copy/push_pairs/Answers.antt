use Rattle.std.proofs.Common.{arith}
use Rattle.std.proofs.lemmas.Bool.Decides.{nat_tests}
use Rattle.abi_frames.proofs.Pairs.{pair_more}
use Rattle.abi_frames.proofs.copy.push_pairs.Goals as goal

pub loop-done-preserved : goal.loop-done-preserved
loop-done-preserved c =
    let test = c.loop-done-test.true in
    pair_more c.loop-done.items.items _ c.push_pair.new.items.items c.args.from c.args.to c.args.pairs c.loop-done.done (grind (arith, nat_tests)) c.in_ok-push_pair.ensures c.loop-done.invariant
