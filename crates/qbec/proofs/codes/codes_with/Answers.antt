use Rattle.std.proofs.Common.{◌≡◌, List, Some, slice_get, sym, ◌∙◌, ap, subst}
use Rattle.std.proofs.lemmas.Option.{slice_get-get_or}
use Rattle.rv_isa.specs.Prelude.{Words}
use Rattle.qbec.specs.Pipeline.{AllHaveForm}
use Rattle.qbec.proofs.CodeLemmas.{CodesSoFar, no_codes, all_codes, one_more_code}
use Rattle.qbec.proofs.Reaching.{one_more_form}
use Rattle.qbec.proofs.codes.codes_with.Goals as goal

pub loop-function-init : goal.loop-function-init
loop-function-init g c = (
  λ p are. subst (λ (xs : List Words). CodesSoFar p c.args.functions.now 0 xs) (sym c.new-codes.ensures.items) (no_codes p c.args.functions.now),
  subst (AllHaveForm c.args.form) (sym c.new-codes.ensures.items) tt,
)

pub words_of-requires : goal.words_of-requires
words_of-requires g c =
    c.requires c.loop-function.function-index c.function-item.result
    (slice_get-get_or c.args.functions.now c.loop-function.function-index _ c.loop-function-test.true ∙ ap (λ f. Some f) (sym c.function-item.is))

pub returns-clause-words : goal.returns-clause-words
returns-clause-words g c = λ p are. all_codes p c.args.functions.now c.loop-function.function-index c.loop-function.codes.items c.loop-function-test.false (c.loop-function.invariant.0 p are)

pub loop-function-preserved : goal.loop-function-preserved
loop-function-preserved g c =
    let stands = c.in_ok-code.ensures in
    let at : slice_get c.args.functions.now c.loop-function.function-index ≡ Some c.function-item.result =
    slice_get-get_or c.args.functions.now c.loop-function.function-index _ c.loop-function-test.true ∙ ap (λ f. Some f) (sym c.function-item.is)
    in (
      λ p are.
          one_more_code p c.args.functions.now c.loop-function.function-index c.function-item.result c.loop-function.codes.items c.push_code.new.codes.items c.in_ok-code.code at
          (c.loop-function.invariant.0 p are) (stands.stand p are) stands.few c.in_ok-push_code.ensures.code c.in_ok-push_code.ensures.pushed,
      subst (AllHaveForm c.args.form) (sym c.in_ok-push_code.ensures.pushed) (one_more_form c.args.form c.loop-function.codes.items c.in_ok-code.code c.loop-function.invariant.1 stands.calls),
    )
