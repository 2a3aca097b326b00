use Rattle.std.proofs.Common.{ℕ, List, drop, ap, sym, ◌∙◌, arith}
use Rattle.std.proofs.Math.ListN.{drop_of_length-le}
use Rattle.std.proofs.lemmas.Grind.{common_steps}
use Rattle.vcode.specs.declared.place.Destination.{Destination}
use Rattle.alloc_check.specs.Prelude.{nobody}
use Rattle.alloc_check.proofs.Entering.{owner_from, none_from, owner_is}
use Rattle.alloc_check.proofs.entry.owner_at.Goals as goal

pub returns-in-None : goal.returns-in-None
returns-in-None c =
    sym (none_from c.args.params.now c.args.places.now c.loop-k.k c.args.place c.loop-k.owner c.in-None.ensures.lookup.3)
    ∙ c.loop-k.invariant
    ∙ sym (owner_is c.args.params.now c.args.places.now nobody c.args.place)

pub returns : goal.returns
returns c =
    sym (ap (λ (ds : List (Destination ℕ)). owner_from ds (drop c.loop-k.k c.args.places.now) c.args.place c.loop-k.owner) (drop_of_length-le c.args.params.now c.loop-k-test.false))
    ∙ c.loop-k.invariant
    ∙ sym (owner_is c.args.params.now c.args.places.now nobody c.args.place)

pub loop-k-preserved : goal.loop-k-preserved
loop-k-preserved c = grind (arith, common_steps)
