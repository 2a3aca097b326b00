use Rattle.std.proofs.Common.{ℕ, ◌∙◌, subst}
use Rattle.cfg_live.specs.Rows.{Stable}
use Rattle.cfg_live.proofs.Marks.{went_then}
use Rattle.cfg_live.proofs.Back.{latches_on}
use Rattle.cfg_live.proofs.sweep.latches_stand.Goals as goal

pub returns-then-visit_latch-clause-went : goal.returns-then-visit_latch-clause-went
returns-then-visit_latch-clause-went c =
    went_then c.args.graph.now c.args.set.now.length c.loop-point.set.length c.args.rows.now c.loop-point.rows c.visit_latch.new.rows c.loop-point.invariant.went
    c.loop-point.invariant.same_length c.visit_latch.ensures.went

pub loop-point-preserved : goal.loop-point-preserved
loop-point-preserved c =
    let g = c.args.graph.now in
    let n = c.args.set.now.length in
    let e = c.loop-point.invariant.same_length in
    let none = c.if-visit_latch.false in
    record {
      same_length = c.visit_latch.ensures.length ∙ e;
      went = went_then g n c.loop-point.set.length c.args.rows.now c.loop-point.rows c.visit_latch.new.rows c.loop-point.invariant.went e c.visit_latch.ensures.went;
      same = λ p r. c.visit_latch.ensures.same none p r ∙ c.loop-point.invariant.same p r;
      stable =
          latches_on g n c.loop-point.rows c.visit_latch.new.rows c.loop-point.point (c.visit_latch.ensures.same none) c.loop-point.invariant.stable
          (λ back. subst (λ (m : ℕ). Stable g m c.visit_latch.new.rows c.loop-point.point) e (c.visit_latch.ensures.stable none back));
    }
