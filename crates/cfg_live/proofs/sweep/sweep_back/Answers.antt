use Rattle.std.proofs.Common.{◌≡◌, ◌-◌, ℕ, true, length, ◌∙◌, subst, arith}
use Rattle.cfg_live.specs.Rows.{Went, flows, holds}
use Rattle.cfg_live.proofs.Marks.{went_on, at_length}
use Rattle.cfg_live.proofs.Back.{stable_back}
use Rattle.cfg_live.proofs.sweep.sweep_back.Goals as goal

pub loop-point-preserved : goal.loop-point-preserved
loop-point-preserved c =
    let g = c.args.graph.now in
    let n = c.args.set.now.length in
    let e = c.loop-point.invariant.same_length in
    let point = c.loop-point.point - 1 in
    let went : Went g n c.loop-point.rows c.visit.new.rows = at_length g c.loop-point.set.length n c.loop-point.rows c.visit.new.rows e c.visit.ensures.went in
    record {
      same_length = c.visit.ensures.length ∙ e;
      went = went_on g n c.args.rows.now c.loop-point.rows c.visit.new.rows c.loop-point.invariant.went went;
      stable =
          stable_back g n (length c.args.rows.now) c.loop-point.rows c.visit.new.rows point went
          (subst (λ (m : ℕ). (r : ℕ) → flows g m c.loop-point.rows point r ≡ true → holds c.visit.new.rows point r ≡ true) e c.visit.ensures.taken) c.visit.ensures.others
          (λ p low inside on. c.loop-point.invariant.stable p (omega (arith, low, c.loop-point-test.true)) inside on);
    }
