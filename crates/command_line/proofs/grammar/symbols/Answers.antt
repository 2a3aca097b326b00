use Rattle.std.proofs.Common.{codes}
use Rattle.clap.specs.Simple.{new_app, with_rule}
use Rattle.command_line.specs.Grammar.{also_out_rule, files_rule}
use Rattle.command_line.proofs.Adding.{last_argument}
use Rattle.command_line.proofs.grammar.symbols.Goals as goal

pub returns : goal.returns
returns c = last_argument _ _ _ (with_rule (new_app (codes "symbols")) also_out_rule) files_rule c.arg.ensures (c.in_ok-command.ensures also_out_rule c.also_out.ensures) c.files.ensures
