use Rattle.std.proofs.Common.{◌∙◌, ℕ, subst}
use Rattle.cfg_live.specs.Rows.{Went, Changed, Stable}
use Rattle.cfg_live.proofs.Marks.{went_on, at_length, changed_on, stable_on}
use Rattle.cfg_live.proofs.sweep.sweep.Goals as goal

pub loop-point-preserved : goal.loop-point-preserved
loop-point-preserved c =
    let e = c.loop-point.invariant.same_length in
    let went : Went c.args.graph.now c.args.set.now.length c.loop-point.rows c.visit-changed.new.rows =
    at_length c.args.graph.now c.loop-point.set.length c.args.set.now.length c.loop-point.rows c.visit-changed.new.rows e c.visit-changed.ensures.went
    in
    let changed : Changed c.args.set.now.length c.loop-point.rows c.visit-changed.new.rows c.visit-changed.result =
    subst (λ (n : ℕ). Changed n c.loop-point.rows c.visit-changed.new.rows c.visit-changed.result) e c.visit-changed.ensures.changed
    in
    record {
      same_length = c.visit-changed.ensures.length ∙ e;
      went = went_on c.args.graph.now c.args.set.now.length c.args.rows.now c.loop-point.rows c.visit-changed.new.rows c.loop-point.invariant.went went;
      changed =
          changed_on c.args.graph.now c.args.set.now.length c.args.rows.now c.loop-point.rows c.visit-changed.new.rows c.loop-point.invariant.went went
          c.loop-point.changed c.visit-changed.result c.loop-point.invariant.changed changed;
      stable =
          stable_on c.args.graph.now c.args.set.now.length c.loop-point.rows c.visit-changed.new.rows c.loop-point.changed c.visit-changed.result c.loop-point.point
          c.loop-point.invariant.stable changed
          (λ none. subst (λ (n : ℕ). Stable c.args.graph.now n c.visit-changed.new.rows c.loop-point.point) e (c.visit-changed.ensures.stable none));
    }
