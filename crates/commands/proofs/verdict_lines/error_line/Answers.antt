use Rattle.std.proofs.Common.{append_assoc, rules}
use Rattle.commands.specs.Verdicts.{error_line}
use Rattle.commands.proofs.verdict_lines.error_line.Goals as goal

pub returns : goal.returns
unfolding error_line
returns c = rw (← c.path_of-path.ensures, ← c.in_ok-code.ensures) (simp append_assoc (search rules))
