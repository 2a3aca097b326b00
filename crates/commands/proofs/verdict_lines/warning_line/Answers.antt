use Rattle.std.proofs.Common.{append_assoc, rules}
use Rattle.commands.specs.Verdicts.{warning_line}
use Rattle.commands.proofs.verdict_lines.warning_line.Goals as goal

pub returns : goal.returns
unfolding warning_line
returns c = rw (← c.path_of-path.ensures) (simp append_assoc (search rules))
