use Rattle.std.proofs.Common.{List, sym, ap, ◌∙◌}
use Rattle.std.proofs.lemmas.Result.{err_from_is_err_and}
use Rattle.il_ast.specs.declared.datum.Field.{Field}
use Rattle.il_reader.specs.Prelude.{sees, comma, is_comma, is_word, spaced, field, appended, pushed}
use Rattle.il_reader.proofs.Rounds.{commas_pushed}
use Rattle.il_reader.proofs.datum.field_list.Goals as goal

pub returns-in_err-more_fields : goal.returns-in_err-more_fields
returns-in_err-more_fields c =
    let p = err_from_is_err_and c.from_residual-in_err-more_fields.result c.from_residual-in_err-more_fields.ensures.1 in
    let first = ap (λ (xs : List Field). pushed xs (field c.args.reader.now)) (sym c.new-fields.ensures) ∙ c.in_ok-push_field.ensures in
    rw (p.1, p.2) (λ e.
    commas_pushed (sees is_comma) (spaced comma) (sees is_word) field c.push_field.new.fields c.args.reader.now c.push_field.new.reader first
    ∙ ap (appended c.push_field.new.fields) (c.in_err-more_fields.ensures e))

pub returns : goal.returns
returns c =
    let first = ap (λ (xs : List Field). pushed xs (field c.args.reader.now)) (sym c.new-fields.ensures) ∙ c.in_ok-push_field.ensures in
    commas_pushed (sees is_comma) (spaced comma) (sees is_word) field c.push_field.new.fields c.args.reader.now c.push_field.new.reader first
    ∙ c.in_ok-more_fields.ensures
