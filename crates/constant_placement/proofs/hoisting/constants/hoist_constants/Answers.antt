use Rattle.constant_placement.proofs.hoisting.constants.hoist_constants.Goals as goal

pub loop-plan-preserved : goal.loop-plan-preserved
loop-plan-preserved c = c.in_ok-made.ensures
