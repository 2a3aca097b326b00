use Rattle.std.proofs.Common.{◌≡◌, ◌++◌, drop}
use Rattle.abi_frames.specs.Functions.{is_on_stack, arguments_items}
use Rattle.abi_frames.proofs.entry.push_stacked.Given as goal

abbrev pub invariant-loop-argument : goal.invariant-loop-argument
invariant-loop-argument l =
    l.items.items ++ arguments_items l.layout is_on_stack l.argument (drop l.argument l.params)
    ≡ l.fn.items.items ++ arguments_items l.fn.layout is_on_stack 0 l.fn.params
