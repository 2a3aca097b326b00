use Rattle.std.proofs.Common.{◌≡◌, drop}
use Rattle.std.specs.List.{list_any}
use Rattle.abi_frames.specs.Performs.{is_call}
use Rattle.abi_frames.proofs.saved.lines_call.Given as goal

abbrev pub invariant-loop-line : goal.invariant-loop-line
invariant-loop-line l = list_any is_call (drop l.line-index l.lines) ≡ list_any is_call l.fn.lines
