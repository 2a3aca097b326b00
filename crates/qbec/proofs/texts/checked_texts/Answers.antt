use Rattle.std.proofs.Common.{sym, subst}
use Rattle.qbec.proofs.TextLemmas.{TextsSoFar, none_yet, text_more, text_refused, text_only, all_found, all_only}
use Rattle.qbec.proofs.texts.checked_texts.Goals as goal

pub loop-k-init : goal.loop-k-init
loop-k-init c = subst (TextsSoFar c.args.texts.now 0) (sym c.new-checked.ensures.items) (none_yet c.args.texts.now)

pub returns-in-Err-clause-only : goal.returns-in-Err-clause-only
returns-in-Err-clause-only c =
    text_only c.args.texts.now c.loop-k.k _ c.loop-k.checked.items _ c.loop-k-test.true c.loop-k.invariant (λ d reads. c.in-Err.ensures.only d reads)

pub returns-in-Err-clause-says : goal.returns-in-Err-clause-says
returns-in-Err-clause-says c =
    text_refused c.args.texts.now c.loop-k.k _ _ c.loop-k-test.true c.in-Err.ensures.says

pub loop-k-preserved : goal.loop-k-preserved
loop-k-preserved c =
    text_more c.args.texts.now c.loop-k.k _ c.loop-k.checked.items _ _ c.loop-k-test.true c.loop-k.invariant c.in-Ok.ensures.found
    (λ d reads. c.in-Ok.ensures.only d reads) c.in_ok-push_text-in-Ok.ensures

pub returns-clause-found : goal.returns-clause-found
returns-clause-found c = all_found c.args.texts.now c.loop-k.k c.loop-k.checked.items c.loop-k-test.false c.loop-k.invariant

pub returns-clause-only : goal.returns-clause-only
returns-clause-only c = all_only c.args.texts.now c.loop-k.k c.loop-k.checked.items c.loop-k-test.false c.loop-k.invariant
