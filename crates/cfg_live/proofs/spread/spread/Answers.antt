use Rattle.cfg_live.proofs.Marks.{went_then}
use Rattle.cfg_live.proofs.spread.spread.Goals as goal

pub returns-clause-went : goal.returns-clause-went
returns-clause-went c =
    went_then c.args.graph.now c.args.set.now.length c.settle_soon.new.set.length c.args.rows.now c.settle_soon.new.rows c.spread_along.new.rows c.settle_soon.ensures.went
    c.settle_soon.ensures.length c.spread_along.ensures.went
