use Rattle.std.proofs.Common.{◌≡◌, ◌-◌, ◌++◌}
use Rattle.abi_frames.specs.Emission.{copy_parts}
use Rattle.abi_frames.proofs.copy.push_parts.Given as goal

abbrev pub invariant-loop : goal.invariant-loop
invariant-loop l = l.items.items ++ copy_parts (l.parts - l.counter) ≡ l.fn.items.items ++ copy_parts l.fn.parts
