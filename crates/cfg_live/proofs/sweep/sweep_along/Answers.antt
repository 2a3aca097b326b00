use Rattle.std.proofs.Common.{◌∙◌}
use Rattle.cfg_live.proofs.Marks.{went_on, at_length}
use Rattle.cfg_live.proofs.sweep.sweep_along.Goals as goal

pub loop-point-preserved : goal.loop-point-preserved
loop-point-preserved c =
    record {
      same_length = c.visit_if_there.ensures.length ∙ c.loop-point.invariant.same_length;
      went =
          went_on c.args.graph.now c.args.set.now.length c.args.rows.now c.loop-point.rows c.visit_if_there.new.rows c.loop-point.invariant.went
          (at_length c.args.graph.now c.loop-point.set.length c.args.set.now.length c.loop-point.rows c.visit_if_there.new.rows c.loop-point.invariant.same_length c.visit_if_there.ensures.went);
    }
