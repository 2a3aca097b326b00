use Rattle.std.proofs.Common.{◌≡◌, ◌++◌, drop}
use Rattle.abi_frames.specs.Emission.{stack_all}
use Rattle.abi_frames.proofs.call.push_stack_arguments.Given as goal

abbrev pub invariant-loop-number : goal.invariant-loop-number
invariant-loop-number l =
    l.items.items ++ stack_all l.layout l.number (drop l.number l.arguments) ≡ l.fn.items.items ++ stack_all l.fn.layout 0 l.fn.arguments
