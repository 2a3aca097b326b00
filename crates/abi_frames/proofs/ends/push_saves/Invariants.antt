use Rattle.std.proofs.Common.{◌≡◌, ◌+◌, ◌*◌, ◌++◌, drop, length}
use Rattle.abi_frames.specs.Emission.{save_all}
use Rattle.abi_frames.proofs.ends.push_saves.Given as goal

abbrev pub invariant-loop-number : goal.invariant-loop-number
invariant-loop-number l =
    (l.items.items ++ save_all l.offset (drop l.number-index l.registers) ≡ l.fn.items.items ++ save_all l.fn.from l.fn.registers)
    × (l.offset + 8 * length (drop l.number-index l.registers) ≡ l.fn.from + 8 * length l.fn.registers)
