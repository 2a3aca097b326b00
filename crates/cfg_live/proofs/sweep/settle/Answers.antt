use Rattle.std.proofs.Common.{◌∙◌, subst, ℕ}
use Rattle.cfg_live.specs.Rows.{Went, NewMark}
use Rattle.cfg_live.proofs.Marks.{went_on, went_nowhere, at_length}
use Rattle.cfg_live.proofs.Unset.{falls}
use Rattle.cfg_live.proofs.sweep.settle.Goals as goal

pub loop-smaller : goal.loop-smaller
loop-smaller c =
    let e = c.loop.invariant.same_length in
    let once : Went c.args.graph.now c.args.set.now.length c.loop.rows c.sweep.new.rows =
    at_length c.args.graph.now c.loop.set.length c.args.set.now.length c.loop.rows c.sweep.new.rows e c.sweep.ensures.went
    in
    let mark : NewMark c.args.set.now.length c.loop.rows c.sweep.new.rows =
    subst (λ (n : ℕ). NewMark n c.loop.rows c.sweep.new.rows) e c.loop-test.ensures.changed
    in
    falls c.args.graph.now c.args.set.now.length _ c.loop.rows c.sweep.new.rows c.sweep.new.rows c.loop.invariant.went.as_many mark once
    (went_nowhere c.args.graph.now c.args.set.now.length c.sweep.new.rows once.sized)

pub loop-preserved : goal.loop-preserved
loop-preserved c =
    let e = c.loop.invariant.same_length in
    record {
      same_length = c.sweep.ensures.length ∙ e;
      went =
          went_on c.args.graph.now c.args.set.now.length c.args.rows.now c.loop.rows c.sweep.new.rows c.loop.invariant.went
          (at_length c.args.graph.now c.loop.set.length c.args.set.now.length c.loop.rows c.sweep.new.rows e c.sweep.ensures.went);
    }
