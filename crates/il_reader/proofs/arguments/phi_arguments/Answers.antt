use Rattle.std.proofs.Common.{List, sym, ap, ◌∙◌}
use Rattle.std.proofs.lemmas.Result.{err_from_is_err_and}
use Rattle.il_ast.specs.declared.block.PhiArg.{PhiArg}
use Rattle.il_reader.specs.Prelude.{sees, phi_argument, comma, is_comma, is_label, appended, pushed}
use Rattle.il_reader.proofs.Rounds.{commas_pushed}
use Rattle.il_reader.proofs.arguments.phi_arguments.Goals as goal

pub returns-in_err-more_phi_arguments : goal.returns-in_err-more_phi_arguments
returns-in_err-more_phi_arguments c =
    let p = err_from_is_err_and c.from_residual-in_err-more_phi_arguments.result c.from_residual-in_err-more_phi_arguments.ensures.1 in
    let first = ap (λ (xs : List PhiArg). pushed xs (phi_argument c.args.reader.now)) (sym c.new-args.ensures) ∙ c.in_ok-push_phi_argument.ensures in
    rw (p.1, p.2) (λ e.
    commas_pushed (sees is_comma) comma (sees is_label) phi_argument c.push_phi_argument.new.args c.args.reader.now c.push_phi_argument.new.reader first
    ∙ ap (appended c.push_phi_argument.new.args) (c.in_err-more_phi_arguments.ensures e))

pub returns : goal.returns
returns c =
    let first = ap (λ (xs : List PhiArg). pushed xs (phi_argument c.args.reader.now)) (sym c.new-args.ensures) ∙ c.in_ok-push_phi_argument.ensures in
    commas_pushed (sees is_comma) comma (sees is_label) phi_argument c.push_phi_argument.new.args c.args.reader.now c.push_phi_argument.new.reader first
    ∙ c.in_ok-more_phi_arguments.ensures
