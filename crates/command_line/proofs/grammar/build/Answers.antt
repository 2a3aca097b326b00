use Rattle.std.proofs.Common.{codes}
use Rattle.clap.specs.Simple.{new_app, with_rule}
use Rattle.command_line.specs.Grammar.{explain_rule, files_rule, out_rule}
use Rattle.command_line.proofs.Adding.{last_argument, one_argument}
use Rattle.command_line.proofs.grammar.build.Goals as goal

pub returns : goal.returns
returns c =
    let first = with_rule (new_app (codes "build")) out_rule in
    let second = one_argument _ _ _ first explain_rule c.in_ok-arg.ensures (c.in_ok-command.ensures out_rule c.out.ensures) c.explain.ensures in
    last_argument _ _ _ (with_rule first explain_rule) files_rule c.arg-2.ensures second c.files.ensures
