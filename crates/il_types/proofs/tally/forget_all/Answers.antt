use Rattle.std.proofs.Common.{◌∙◌, ap, cond, List, ℕ, nat_eq, take_all}
use Rattle.std.specs.List.{list_any}
use Rattle.il_types.specs.declared.tally.Often.TheVariants.{Never}
use Rattle.il_types.specs.Prelude.{named}
use Rattle.il_types.proofs.TallyLemmas.{all_forgotten}
use Rattle.il_types.proofs.tally.forget_all.Goals as goal

pub returns : goal.returns
returns c =
    λ n. c.loop-number.invariant n
    ∙ (ap (λ (ms : List ℕ). cond (list_any (λ m. nat_eq m n) ms) Never (named c.args.tally.now.items n))
    (take_all c.loop-number.number-index c.args.numbers.now c.loop-number-test.false)
    ∙ (ap (cond (list_any (λ m. nat_eq m n) c.args.numbers.now) Never) (c.requires n) ∙ all_forgotten c.args.numbers.now n))
