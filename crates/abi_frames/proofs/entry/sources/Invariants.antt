use Rattle.std.proofs.Common.{◌≡◌, ◌++◌, ◌-◌}
use Rattle.abi_frames.specs.Functions.{sources}
use Rattle.abi_frames.proofs.entry.sources.Given as goal

abbrev pub invariant-loop-number : goal.invariant-loop-number
invariant-loop-number l = l.all.items ++ sources (8 - l.number) l.number l.params ≡ sources 8 0 l.fn.params
