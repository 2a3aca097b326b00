use Rattle.std.proofs.Common.{ℕ, ◌<◌, ◌∙◌, subst}
use Rattle.cfg_live.specs.Rows.{Stable}
use Rattle.cfg_live.proofs.Marks.{went_then}
use Rattle.cfg_live.proofs.Back.{all_stable}
use Rattle.cfg_live.proofs.sweep.settle_soon.Goals as goal

pub returns-then-latches_stand-clause-went : goal.returns-then-latches_stand-clause-went
returns-then-latches_stand-clause-went c =
    let g = c.args.graph.now in
    let n = c.args.set.now.length in
    let e = c.loop.invariant.same_length in
    went_then g n c.sweep_back.new.set.length c.args.rows.now c.sweep_back.new.rows c.latches_stand.new.rows
    (went_then g n c.loop.set.length c.args.rows.now c.loop.rows c.sweep_back.new.rows c.loop.invariant.went e c.sweep_back.ensures.went)
    (c.sweep_back.ensures.length ∙ e) c.latches_stand.ensures.went

pub returns-then-latches_stand-clause-stable : goal.returns-then-latches_stand-clause-stable
returns-then-latches_stand-clause-stable c = λ done p inside.
    let g = c.args.graph.now in
    let n = c.args.set.now.length in
    let e = c.loop.invariant.same_length in
    let yes = c.if-latches_stand.true in
    all_stable g n c.sweep_back.new.rows c.latches_stand.new.rows (c.latches_stand.ensures.same yes) p
    (λ on. subst (λ (m : ℕ). Stable g m c.sweep_back.new.rows p) e (c.sweep_back.ensures.stable p (subst (λ (m : ℕ). p < m) c.latches_stand.ensures.went.as_many inside) on))
    (λ back. subst (λ (m : ℕ). Stable g m c.latches_stand.new.rows p) (c.sweep_back.ensures.length ∙ e) (c.latches_stand.ensures.stable yes p inside back))

pub loop-preserved : goal.loop-preserved
loop-preserved c =
    let g = c.args.graph.now in
    let n = c.args.set.now.length in
    let e = c.loop.invariant.same_length in
    record {
      same_length = c.latches_stand.ensures.length ∙ c.sweep_back.ensures.length ∙ e;
      went =
          went_then g n c.sweep_back.new.set.length c.args.rows.now c.sweep_back.new.rows c.latches_stand.new.rows
          (went_then g n c.loop.set.length c.args.rows.now c.loop.rows c.sweep_back.new.rows c.loop.invariant.went e c.sweep_back.ensures.went)
          (c.sweep_back.ensures.length ∙ e) c.latches_stand.ensures.went;
    }
