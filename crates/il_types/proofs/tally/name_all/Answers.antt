use Rattle.std.proofs.Common.{◌∙◌, ap, cond, get_or, nat_eq}
use Rattle.il_types.specs.Prelude.{once_more}
use Rattle.il_types.proofs.TallyLemmas.{named_further}
use Rattle.il_types.proofs.tally.name_all.Goals as goal

pub loop-number-preserved : goal.loop-number-preserved
loop-number-preserved c =
    λ n. c.in_ok-name.ensures n
    ∙ (ap (λ o. cond (nat_eq (get_or c.args.numbers.now c.loop-number.number-index 0) n) (once_more o) o) (c.loop-number.invariant n)
    ∙ named_further c.args.numbers.now c.loop-number.number-index 0 n c.loop-number-test.true)
