use Rattle.std.proofs.Common.{codes}
use Rattle.clap.specs.Simple.{new_app, with_rule}
use Rattle.command_line.specs.Grammar.{files_rule, last_rule, limit_rule}
use Rattle.command_line.proofs.Adding.{last_argument, one_argument}
use Rattle.command_line.proofs.grammar.trace.Goals as goal

pub returns : goal.returns
returns c =
    let limited = with_rule (new_app (codes "trace")) limit_rule in
    let second = one_argument _ _ _ limited last_rule c.in_ok-arg.ensures (c.in_ok-command.ensures limit_rule c.limit-limit.ensures) c.last.ensures in
    last_argument _ _ _ (with_rule limited last_rule) files_rule c.arg-2.ensures second c.files.ensures
