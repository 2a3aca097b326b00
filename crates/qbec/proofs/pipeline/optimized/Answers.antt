use Rattle.qbec.proofs.Standing.{stand_within}
use Rattle.qbec.proofs.pipeline.optimized.Goals as goal

pub returns : goal.returns
returns g c =
    stand_within c.args.form c.args.candidates.now c.args.func.now c.in_ok-placed.placed.located c.in_ok-placed.ensures.is c.in_ok-placed.ensures.keeps
    c.fitting.result c.fitting.ensures
