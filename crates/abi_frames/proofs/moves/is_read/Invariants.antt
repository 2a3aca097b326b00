use Rattle.std.proofs.Common.{◌≡◌, drop}
use Rattle.abi_frames.specs.Moves.{is_read}
use Rattle.abi_frames.proofs.moves.is_read.Given as goal

abbrev pub invariant-loop-argument : goal.invariant-loop-argument
invariant-loop-argument l = is_read l.number (drop l.argument-index l.arguments) ≡ is_read l.fn.number l.fn.arguments
