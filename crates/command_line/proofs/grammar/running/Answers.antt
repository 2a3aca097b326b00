use Rattle.clap.specs.Simple.{new_app, with_rule}
use Rattle.command_line.specs.Grammar.{explain_rule, limit_rule, path_rule, words_rule}
use Rattle.command_line.proofs.Adding.{last_argument, one_argument}
use Rattle.command_line.proofs.grammar.running.Goals as goal

pub returns : goal.returns
returns c = λ name is.
    let limited = with_rule (new_app name) limit_rule in
    let explained = with_rule limited explain_rule in
    let second = one_argument _ _ _ limited explain_rule c.in_ok-arg.ensures is c.explain.ensures in
    let third = one_argument _ _ _ explained (path_rule c.args.file.now) c.in_ok-arg-2.ensures second c.path.ensures in
    last_argument _ _ _ (with_rule explained (path_rule c.args.file.now)) words_rule c.arg-3.ensures third c.words.ensures
