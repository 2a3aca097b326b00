use Rattle.std.proofs.Common.{◌≡◌, ◌++◌, drop}
use Rattle.vcode.proofs.line.push_lines.Given as goal

abbrev pub invariant-loop-line : goal.invariant-loop-line
invariant-loop-line g l = l.to.items ++ drop l.line-index l.lines ≡ l.fn.to.items ++ l.fn.lines
