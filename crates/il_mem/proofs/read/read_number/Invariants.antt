use Rattle.std.proofs.Common.{◌≡◌, ◌<◌, ◌≤◌, ◌-◌, ◌^◌, take, drop, Some, option_map}
use Rattle.il_ast.specs.Prelude.{number_of, plain_bytes}
use Rattle.il_mem.proofs.read.read_number.Given as goal

abbrev pub invariant-loop-left : goal.invariant-loop-left
invariant-loop-left l =
    (option_map number_of (plain_bytes (drop l.left (take l.count (drop l.from l.block)))) ≡ Some l.number)
    × (l.number < 256 ^ (l.count - l.left))
    × (l.left ≤ l.count)

abbrev pub decreases-loop-left : goal.decreases-loop-left
decreases-loop-left l = l.left
