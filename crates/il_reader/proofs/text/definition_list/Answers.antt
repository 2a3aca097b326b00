use Rattle.std.proofs.Common.{◌≡◌, Bool, cond, List, [], Some, sym, ap, ◌∙◌, rules, true}
use Rattle.std.proofs.lemmas.Result.{err_from_is_err_and}
use Rattle.il_ast.specs.declared.text.Definition.{Definition}
use Rattle.il_reader.specs.Prelude.{sees, commas, is_newline, is_word, between, definition, appended, pushed, parts_of}
use Rattle.il_reader.proofs.Rounds.{commas_pushed}
use Rattle.il_reader.proofs.text.definition_list.Goals as goal

pub returns-in_err-more_definitions : goal.returns-in_err-more_definitions
returns-in_err-more_definitions c =
    let p = err_from_is_err_and c.from_residual-in_err-more_definitions.result c.from_residual-in_err-more_definitions.ensures.1 in
    let s = c.args.reader.now in
    let first = ap (λ (ds : List Definition). pushed (parts_of ds) (definition s)) (sym c.new-definitions.ensures) ∙ c.in_ok-push_definition.ensures in
    let look : sees is_word s ≡ true = search rules in
    rw (p.1, p.2) (λ e.
    ap (λ (b : Bool). cond b (commas (sees is_newline) between (sees is_word) definition s) (Some ([], s))) look
    ∙ commas_pushed (sees is_newline) between (sees is_word) definition (parts_of c.push_definition.new.definitions) s c.push_definition.new.reader first
    ∙ ap (appended (parts_of c.push_definition.new.definitions)) (c.in_err-more_definitions.ensures e))

pub returns : goal.returns
returns c =
    let s = c.args.reader.now in
    let first = ap (λ (ds : List Definition). pushed (parts_of ds) (definition s)) (sym c.new-definitions.ensures) ∙ c.in_ok-push_definition.ensures in
    let look : sees is_word s ≡ true = search rules in
    ap (λ (b : Bool). cond b (commas (sees is_newline) between (sees is_word) definition s) (Some ([], s))) look
    ∙ commas_pushed (sees is_newline) between (sees is_word) definition (parts_of c.push_definition.new.definitions) s c.push_definition.new.reader first
    ∙ c.in_ok-more_definitions.ensures
