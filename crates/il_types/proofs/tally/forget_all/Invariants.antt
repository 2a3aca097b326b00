use Rattle.std.proofs.Common.{◌≡◌, ℕ, take, cond, nat_eq}
use Rattle.std.specs.List.{list_any}
use Rattle.il_types.specs.declared.tally.Often.TheVariants.{Never}
use Rattle.il_types.specs.Prelude.{named}
use Rattle.il_types.proofs.tally.forget_all.Given as goal

abbrev pub invariant-loop-number : goal.invariant-loop-number
invariant-loop-number l =
    (n : ℕ) → named l.tally.items n ≡ cond (list_any (λ m. nat_eq m n) (take l.number-index l.numbers)) Never (named l.fn.tally.items n)
