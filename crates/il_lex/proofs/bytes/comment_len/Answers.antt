use Rattle.std.proofs.Common.{◌≡◌, Bool, true, false, not, length, sym, ap, refl, arith}
use Rattle.std.proofs.lemmas.List.Sums.{prefix_len_is}
use Rattle.il_lex.specs.Quoted.{is_in_comment}
use Rattle.il_lex.proofs.bytes.comment_len.Goals as goal

not_true : (b : Bool) → ¬ (b ≡ true) → not b ≡ true
not_true true h = absurd (h refl)
not_true false h = refl

pub returns-in-Some-clause-value : goal.returns-in-Some-clause-value
returns-in-Some-clause-value c =
    sym (prefix_len_is is_in_comment c.args.bytes.now c.in-Some.len 0 (omega (arith, c.in-Some.ensures.0.high))
    (λ k h. not_true _ (c.in-Some.ensures.0.before k (omega arith) h))
    (λ h. ap not c.in-Some.ensures.1))

pub returns-in-None-clause-value : goal.returns-in-None-clause-value
returns-in-None-clause-value c =
    sym (prefix_len_is is_in_comment c.args.bytes.now (length c.args.bytes.now) 0 (omega arith)
    (λ k h. not_true _ (c.in-None.ensures k (omega arith) h))
    (λ h. absurd (omega arith)))
