use Rattle.std.proofs.Common.{◌≡◌, ◌++◌, drop}
use Rattle.abi_frames.specs.Moves.{exchange}
use Rattle.abi_frames.proofs.moves.exchange.Given as goal

abbrev pub invariant-loop-argument : goal.invariant-loop-argument
invariant-loop-argument l =
    l.after.items ++ exchange l.a l.b (drop l.argument-index l.argument-items) ≡ exchange l.a l.b l.fn.arguments.items
