use Rattle.std.proofs.Common.{codes}
use Rattle.command_line.specs.Grammar.{limit_rule}
use Rattle.command_line.proofs.grammar.interp.Goals as goal

pub returns : goal.returns
returns c = c.running.ensures (codes "interp") (c.in_ok-command.ensures limit_rule c.limit-limit.ensures)
