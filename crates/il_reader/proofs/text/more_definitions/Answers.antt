use Rattle.std.proofs.Common.{◌≡◌, ℕ, ◌-◌, suc, length, sym, ap, ◌∙◌, arith, rules}
use Rattle.std.proofs.lemmas.Result.{err_from_is_err_and}
use Rattle.il_reader.specs.Prelude.{sees, separated, is_newline, is_word, between, definition, appended, parts_of}
use Rattle.il_reader.proofs.Rounds.{separated_more, separated_last, separated_no_comma, separated_no_item, appended_none}
use Rattle.il_reader.proofs.text.more_definitions.Goals as goal

pub loop-init : goal.loop-init
loop-init c =
    let n : c.rounds-end.result - 0 ≡ suc (length c.args.reader.now.rest) = omega (arith, c.rounds-end.ensures) in
    ap (λ (n : ℕ). appended (parts_of c.args.definitions.now) (separated n (sees is_newline) between (sees is_word) definition c.args.reader.now)) n

pub loop-preserved : goal.loop-preserved
loop-preserved c =
    sym (separated_more c.rounds-end.result c.loop.counter (sees is_newline) between (sees is_word) definition
    (parts_of c.loop.definitions) (parts_of c.push_definition.new.definitions) c.loop.reader c.between.new.reader c.push_definition.new.reader
    c.loop-test.true (search rules) c.in_ok-between.ensures (search rules) c.in_ok-push_definition.ensures)
    ∙ c.loop.invariant

pub returns-in_err-between : goal.returns-in_err-between
returns-in_err-between c =
    let p = err_from_is_err_and c.from_residual.result c.from_residual.ensures.1 in
    rw (p.1, p.2) (λ e. appended_none (parts_of c.args.definitions.now) (separated (suc (length c.args.reader.now.rest)) (sees is_newline) between (sees is_word) definition c.args.reader.now)
    (sym c.loop.invariant ∙ ap (appended (parts_of c.loop.definitions))
    (separated_no_comma c.rounds-end.result c.loop.counter (sees is_newline) between (sees is_word) definition c.loop.reader
    c.loop-test.true (search rules) (c.in_err-between.ensures e))))

pub returns-then-not-is_word : goal.returns-then-not-is_word
returns-then-not-is_word c =
    sym c.loop.invariant
    ∙ separated_last c.rounds-end.result c.loop.counter (sees is_newline) between (sees is_word) definition (parts_of c.loop.definitions) c.loop.reader c.between.new.reader
    c.loop-test.true (search rules) c.in_ok-between.ensures (search rules)

pub returns-in_err-push_definition : goal.returns-in_err-push_definition
returns-in_err-push_definition c =
    let p = err_from_is_err_and c.from_residual-in_err-push_definition.result c.from_residual-in_err-push_definition.ensures.1 in
    rw (p.1, p.2) (λ e. appended_none (parts_of c.args.definitions.now) (separated (suc (length c.args.reader.now.rest)) (sees is_newline) between (sees is_word) definition c.args.reader.now)
    (sym c.loop.invariant ∙ ap (appended (parts_of c.loop.definitions))
    (separated_no_item c.rounds-end.result c.loop.counter (sees is_newline) between (sees is_word) definition c.loop.reader c.between.new.reader
    c.loop-test.true (search rules) c.in_ok-between.ensures (search rules) (c.in_err-push_definition.ensures e))))

pub returns : goal.returns
returns c =
    let n : c.rounds-end.result - c.loop.counter ≡ 0 = omega arith in
    λ e. appended_none (parts_of c.args.definitions.now) (separated (suc (length c.args.reader.now.rest)) (sees is_newline) between (sees is_word) definition c.args.reader.now)
    (sym c.loop.invariant ∙ ap (λ (n : ℕ). appended (parts_of c.loop.definitions) (separated n (sees is_newline) between (sees is_word) definition c.loop.reader)) n)
