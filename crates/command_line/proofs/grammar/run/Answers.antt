use Rattle.std.proofs.Common.{codes}
use Rattle.command_line.specs.Grammar.{limit_rule}
use Rattle.command_line.proofs.grammar.run.Goals as goal

pub returns : goal.returns
returns c = c.running.ensures (codes "run") (c.in_ok-command.ensures limit_rule c.limit-limit.ensures)
