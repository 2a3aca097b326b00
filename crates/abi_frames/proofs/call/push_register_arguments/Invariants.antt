use Rattle.std.proofs.Common.{◌≡◌, ◌++◌, drop}
use Rattle.abi_frames.specs.Emission.{register_all}
use Rattle.abi_frames.proofs.call.push_register_arguments.Given as goal

abbrev pub invariant-loop-number : goal.invariant-loop-number
invariant-loop-number l =
    l.items.items ++ register_all l.layout l.number (drop l.number l.arguments) ≡ l.fn.items.items ++ register_all l.fn.layout 0 l.fn.arguments
