use Rattle.std.proofs.Common.{◌≡◌, drop, max}
use Rattle.abi_frames.specs.Performs.{most_in_lines}
use Rattle.abi_frames.proofs.room.most_in_lines.Given as goal

abbrev pub invariant-loop-line : goal.invariant-loop-line
invariant-loop-line l = max l.most (most_in_lines (drop l.line-index l.lines)) ≡ most_in_lines l.fn.lines
