use Rattle.std.proofs.Common.{◌≡◌, ◌-◌, ◌*◌, ◌++◌}
use Rattle.abi_frames.specs.Emission.{copy_pairs}
use Rattle.abi_frames.proofs.copy.push_pairs.Given as goal

abbrev pub invariant-loop-done : goal.invariant-loop-done
invariant-loop-done l =
    l.items.items ++ copy_pairs l.from l.to (16 * l.done) (l.pairs - l.done) ≡ l.fn.items.items ++ copy_pairs l.fn.from l.fn.to 0 l.fn.pairs
