use Rattle.std.proofs.Common.{append_assoc, rules}
use Rattle.shell.specs.Lines.{line}
use Rattle.shell.proofs.dis_lines.line.Goals as goal

pub returns : goal.returns
unfolding line
returns c = rw (← c.in_ok-place.ensures, ← c.in_ok-digits.ensures, ← c.in_ok-shown.ensures) (simp append_assoc (search rules))
