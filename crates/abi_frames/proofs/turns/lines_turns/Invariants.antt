use Rattle.std.proofs.Common.{◌≡◌, ◌+◌, drop, sum_by}
use Rattle.vcode.specs.Prelude.{turns_of}
use Rattle.abi_frames.proofs.turns.lines_turns.Given as goal

abbrev pub invariant-loop-line : goal.invariant-loop-line
invariant-loop-line l = l.total + sum_by turns_of (drop l.line-index l.lines) ≡ sum_by turns_of l.fn.lines
