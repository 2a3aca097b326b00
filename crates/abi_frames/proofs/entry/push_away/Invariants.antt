use Rattle.std.proofs.Common.{◌≡◌, ◌++◌, drop}
use Rattle.abi_frames.specs.Functions.{goes_away, arguments_items}
use Rattle.abi_frames.proofs.entry.push_away.Given as goal

abbrev pub invariant-loop-argument : goal.invariant-loop-argument
invariant-loop-argument l =
    l.items.items ++ arguments_items l.layout goes_away l.argument (drop l.argument l.params)
    ≡ l.fn.items.items ++ arguments_items l.fn.layout goes_away 0 l.fn.params
