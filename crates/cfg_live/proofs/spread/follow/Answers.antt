use Rattle.std.proofs.Common.{◌∙◌}
use Rattle.cfg_live.proofs.Marks.{went_on, at_length}
use Rattle.cfg_live.proofs.spread.follow.Goals as goal

pub returns-in_err-visit_listed-in-Some-clause-went : goal.returns-in_err-visit_listed-in-Some-clause-went
returns-in_err-visit_listed-in-Some-clause-went c =
    went_on c.args.graph.now c.args.set.now.length c.args.rows.now c.loop.rows c.visit_listed.new.rows c.loop.invariant.went
    (at_length c.args.graph.now c.loop.set.length c.args.set.now.length c.loop.rows c.visit_listed.new.rows c.loop.invariant.same_length c.visit_listed.ensures.went)

pub loop-preserved : goal.loop-preserved
loop-preserved c =
    record {
      same_length = c.visit_listed.ensures.length ∙ c.loop.invariant.same_length;
      went =
          went_on c.args.graph.now c.args.set.now.length c.args.rows.now c.loop.rows c.visit_listed.new.rows c.loop.invariant.went
          (at_length c.args.graph.now c.loop.set.length c.args.set.now.length c.loop.rows c.visit_listed.new.rows c.loop.invariant.same_length c.visit_listed.ensures.went);
    }
