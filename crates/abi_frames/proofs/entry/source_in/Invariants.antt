use Rattle.std.proofs.Common.{◌≡◌, drop}
use Rattle.abi_frames.specs.Functions.{source_in}
use Rattle.abi_frames.proofs.entry.source_in.Given as goal

abbrev pub invariant-loop-argument : goal.invariant-loop-argument
invariant-loop-argument l = source_in l.number l.argument (drop l.argument l.params) ≡ source_in l.fn.number 0 l.fn.params
