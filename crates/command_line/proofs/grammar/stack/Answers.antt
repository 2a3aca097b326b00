use Rattle.command_line.specs.Grammar.{files_rule}
use Rattle.command_line.proofs.grammar.stack.Goals as goal

pub returns : goal.returns
returns c = c.command.ensures files_rule c.files.ensures
