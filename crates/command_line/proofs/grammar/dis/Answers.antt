use Rattle.std.proofs.Common.{codes}
use Rattle.clap.specs.Simple.{new_app, with_rule}
use Rattle.command_line.specs.Grammar.{explain_rule, path_rule}
use Rattle.command_line.proofs.Adding.{last_argument}
use Rattle.command_line.proofs.grammar.dis.Goals as goal

pub returns : goal.returns
returns c =
    last_argument _ _ _ (with_rule (new_app (codes "dis")) explain_rule) (path_rule (codes "EXE")) c.arg.ensures (c.in_ok-command.ensures explain_rule c.explain.ensures) c.path-file.ensures
