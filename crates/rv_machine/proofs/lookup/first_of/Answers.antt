use Rattle.std.proofs.Common.{◌+◌}
use Rattle.rv_machine.proofs.WholeLemmas.{first-found, untouched-more}
use Rattle.rv_machine.proofs.lookup.first_of.Goals as goal

pub returns-then-reaches : goal.returns-then-reaches
returns-then-reaches c =
    first-found c.args.at (c.args.more + 1) c.loop-k.k c.args.regions.now c.index-regions-k.result c.loop-k-test.true c.index-regions-k.is c.loop-k.invariant

pub loop-k-preserved : goal.loop-k-preserved
loop-k-preserved c =
    untouched-more c.args.at (c.args.more + 1) c.loop-k.k c.args.regions.now c.index-regions-k.result c.index-regions-k.is c.if-reaches.ensures c.loop-k.invariant
