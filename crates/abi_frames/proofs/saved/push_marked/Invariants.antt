use Rattle.std.proofs.Common.{◌≡◌, ◌++◌, drop, filter}
use Rattle.abi_frames.specs.Performs.{is_marked}
use Rattle.abi_frames.proofs.saved.push_marked.Given as goal

abbrev pub invariant-loop-number : goal.invariant-loop-number
invariant-loop-number l =
    l.saved.items ++ filter (is_marked l.marks) (drop l.number-index l.registers) ≡ l.fn.saved.items ++ filter (is_marked l.fn.marks) l.fn.registers
