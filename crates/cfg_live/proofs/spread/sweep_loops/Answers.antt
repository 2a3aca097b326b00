use Rattle.cfg_live.proofs.Marks.{went_then}
use Rattle.cfg_live.proofs.spread.sweep_loops.Goals as goal

pub returns-clause-went : goal.returns-clause-went
returns-clause-went c =
    went_then c.args.graph.now c.args.set.now.length _ c.args.rows.now _ c.follow_grown.new.rows c.sweep_noted.ensures.went c.sweep_noted.ensures.length
    c.follow_grown.ensures.went
