use Rattle.std.proofs.lemmas.Option.{slice_get-get_or}
use Rattle.obj_link.specs.Prelude.{program}
use Rattle.qbec.proofs.Placing.{candidates_none, more_candidates}
use Rattle.qbec.proofs.candidates.candidates_meant.Goals as goal

pub loop-target-init : goal.loop-target-init
loop-target-init c = candidates_none (program c.args.linked.now) c.args.text c.args.targets.now c.in_ok-candidates.candidates.items c.in_ok-candidates.ensures.items

pub loop-target-preserved : goal.loop-target-preserved
loop-target-preserved c =
    more_candidates (program c.args.linked.now) c.args.text c.args.targets.now c.loop-target.candidates.items c.push.new.self.items c.in_ok-candidate_meant.field-0 _ c.loop-target.target-index c.in_ok-push.ensures.items
    c.loop-target.invariant (slice_get-get_or c.args.targets.now c.loop-target.target-index _ c.loop-target-test.true) c.in_ok-candidate_meant.ensures

pub returns : goal.returns
returns c = c.loop-target.invariant.1
