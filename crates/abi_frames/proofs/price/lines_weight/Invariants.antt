use Rattle.std.proofs.Common.{◌≡◌, ◌+◌, drop, sum_by}
use Rattle.vcode.specs.Prelude.{weight_of}
use Rattle.abi_frames.proofs.price.lines_weight.Given as goal

abbrev pub invariant-loop-line : goal.invariant-loop-line
invariant-loop-line l = l.total + sum_by weight_of (drop l.line-index l.lines) ≡ sum_by weight_of l.fn.lines
