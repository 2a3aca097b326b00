use Rattle.std.proofs.Common.{◌∙◌}
use Rattle.cfg_live.proofs.Marks.{went_then}
use Rattle.cfg_live.proofs.spread.spread_along.Goals as goal

pub returns-in_err-sweep_any_loops-clause-went : goal.returns-in_err-sweep_any_loops-clause-went
returns-in_err-sweep_any_loops-clause-went c =
    went_then c.args.graph.now c.args.set.now.length _ c.args.rows.now _ c.sweep_any_loops.new.rows c.sweep_along.ensures.went c.sweep_along.ensures.length
    c.sweep_any_loops.ensures.went

pub returns-clause-went : goal.returns-clause-went
returns-clause-went c =
    went_then c.args.graph.now c.args.set.now.length c.sweep_any_loops.new.set.length c.args.rows.now c.sweep_any_loops.new.rows c.settle.new.rows
    (went_then c.args.graph.now c.args.set.now.length c.sweep_along.new.set.length c.args.rows.now c.sweep_along.new.rows c.sweep_any_loops.new.rows
    c.sweep_along.ensures.went c.sweep_along.ensures.length c.sweep_any_loops.ensures.went)
    (c.sweep_any_loops.ensures.length ∙ c.sweep_along.ensures.length) c.settle.ensures.went
