use Rattle.std.proofs.Common.{◌≡◌, ◌≤◌, ◌*◌, drop}
use Rattle.abi_frames.specs.Emission.{left_behind}
use Rattle.abi_frames.proofs.price.left_behind.Given as goal

abbrev pub invariant-loop-line : goal.invariant-loop-line
invariant-loop-line l = (left_behind l.left (drop l.line-index l.lines) ≡ left_behind 0 l.fn.lines) × (l.left ≤ 137438953472 * l.line-index)
