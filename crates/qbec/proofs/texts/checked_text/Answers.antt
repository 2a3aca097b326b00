use Rattle.std.proofs.Common.{sym, ◌∙◌, subst, ap}
use Rattle.il_types.specs.Prelude.{IsGood}
use Rattle.qbec.specs.declared.error.CompileError.{CompileError}
use Rattle.qbec.specs.Refusals.{RefusesText, read_refusal, check_refusal}
use Rattle.qbec.proofs.TextLemmas.{read_says, check_says}
use Rattle.qbec.proofs.texts.checked_text.Goals as goal

pub returns-in-Ok-check-clause-only : goal.returns-in-Ok-check-clause-only
returns-in-Ok-check-clause-only c = λ d reads. c.in-Ok-check.ensures.truth ∙ c.in-Ok.ensures.only d.text reads

pub returns-in-Err-check-clause-only : goal.returns-in-Err-check-clause-only
returns-in-Err-check-clause-only c = λ d reads.
    c.check_refusal.ensures
    ∙ ap (check_refusal c.args.number) (c.in-Err-check.ensures.good (subst IsGood (sym (c.in-Ok.ensures.only d.text reads)) d.good))

pub returns-in-Err-check-clause-says : goal.returns-in-Err-check-clause-says
returns-in-Err-check-clause-says c =
    subst (λ (e : CompileError). RefusesText e c.args.number c.args.bytes.now) (sym c.check_refusal.ensures)
    (check_says c.args.number c.args.bytes.now c.in-Ok.tree c.in-Err-check.error c.in-Ok.ensures.found c.in-Err-check.ensures.truth)

pub returns-in-Err-clause-only : goal.returns-in-Err-clause-only
returns-in-Err-clause-only c = λ d reads. c.read_refusal.ensures ∙ ap (read_refusal c.args.number) (c.in-Err.ensures.only d.text reads)

pub returns-in-Err-clause-says : goal.returns-in-Err-clause-says
returns-in-Err-clause-says c =
    subst (λ (e : CompileError). RefusesText e c.args.number c.args.bytes.now) (sym c.read_refusal.ensures)
    (read_says c.args.number c.args.bytes.now c.in-Err.error c.in-Err.ensures.line (λ t reads. c.in-Err.ensures.only t reads))
