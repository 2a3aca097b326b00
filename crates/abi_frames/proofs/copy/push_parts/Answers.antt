use Rattle.std.proofs.Common.{arith}
use Rattle.std.proofs.lemmas.Bool.Decides.{nat_tests}
use Rattle.abi_frames.proofs.Pairs.{part_more}
use Rattle.abi_frames.proofs.copy.push_parts.Goals as goal

pub loop-preserved : goal.loop-preserved
loop-preserved c =
    let test = c.loop-test.true in
    part_more c.loop.items.items _ c.push_part.new.items.items c.args.parts c.loop.counter (grind (arith, nat_tests)) c.in_ok-push_part.ensures c.loop.invariant
