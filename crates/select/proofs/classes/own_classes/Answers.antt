use Rattle.std.proofs.Common.{◌<◌, sym, ◌∙◌, ap, subst}
use Rattle.std.proofs.lemmas.Result.{IfOk-weaker}
use Rattle.select.specs.Narrow.{has_word, word_or_long}
use Rattle.select.proofs.classes.own_classes.Goals as goal

pub returns-clause-entries : goal.returns-clause-entries
returns-clause-entries c =
    IfOk-weaker c.assigned_classes.result _ _
    (λ table entries t low. entries t (subst (λ k. t < k) (sym c.len.ensures) low) ∙ ap (λ ds. word_or_long (has_word t ds)) (c.as_slice.ensures ∙ c.in_ok-assigned.ensures))
    c.assigned_classes.ensures.entries
