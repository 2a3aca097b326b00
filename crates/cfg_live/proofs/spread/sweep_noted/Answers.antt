use Rattle.std.proofs.Common.{◌∙◌}
use Rattle.cfg_live.proofs.Marks.{went_on, at_length}
use Rattle.cfg_live.proofs.spread.sweep_noted.Goals as goal

pub loop-point-preserved : goal.loop-point-preserved
loop-point-preserved c =
    record {
      same_length = c.visit_noted.ensures.length ∙ c.loop-point.invariant.same_length;
      went =
          went_on c.args.graph.now c.args.set.now.length c.args.rows.now c.loop-point.rows c.visit_noted.new.rows c.loop-point.invariant.went
          (at_length c.args.graph.now c.loop-point.set.length c.args.set.now.length c.loop-point.rows c.visit_noted.new.rows c.loop-point.invariant.same_length c.visit_noted.ensures.went);
    }

pub returns-in_err-visit_noted-clause-went : goal.returns-in_err-visit_noted-clause-went
returns-in_err-visit_noted-clause-went c =
    went_on c.args.graph.now c.args.set.now.length c.args.rows.now c.loop-point.rows c.visit_noted.new.rows c.loop-point.invariant.went
    (at_length c.args.graph.now c.loop-point.set.length c.args.set.now.length c.loop-point.rows c.visit_noted.new.rows c.loop-point.invariant.same_length c.visit_noted.ensures.went)
