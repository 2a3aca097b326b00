use Rattle.std.proofs.Common.{◌≡◌, ◌+◌, drop, sum_by}
use Rattle.vcode.specs.Prelude.{alloc_bytes}
use Rattle.abi_frames.proofs.room.lines_area.Given as goal

abbrev pub invariant-loop-line : goal.invariant-loop-line
invariant-loop-line l = l.total + sum_by alloc_bytes (drop l.line-index l.lines) ≡ sum_by alloc_bytes l.fn.lines
