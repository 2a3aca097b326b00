use Rattle.stack_bound.proofs.GoodRuns.{bounds_are_enough}
use Rattle.stack_bound.proofs.laws.bounds_are_enough.Goals as goal

pub returns : goal.returns
returns c = bounds_are_enough
