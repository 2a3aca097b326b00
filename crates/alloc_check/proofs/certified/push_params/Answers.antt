use Rattle.std.proofs.Common.{arith, sym, ◌∙◌, ap, ◌++◌, append-nil}
use Rattle.std.proofs.lemmas.Grind.{common_steps}
use Rattle.alloc_check.proofs.Entering.{no_more}
use Rattle.alloc_check.proofs.certified.push_params.Goals as goal

pub returns-in-None : goal.returns-in-None
returns-in-None c =
    let none = no_more c.args.params.now c.args.places.now c.loop-k.k c.in-None.ensures.lookup.3 in
    sym (ap (λ ds. c.loop-k.placed ++ ds) none ∙ append-nil c.loop-k.placed) ∙ c.loop-k.invariant

pub loop-k-preserved : goal.loop-k-preserved
loop-k-preserved c = grind (arith, common_steps)
