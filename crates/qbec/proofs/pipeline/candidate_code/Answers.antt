use Rattle.qbec.proofs.PromotedFunctions.{still_good}
use Rattle.qbec.proofs.Placing.{candidate_code_answer}
use Rattle.qbec.proofs.pipeline.candidate_code.Goals as goal

pub candidate_of-requires : goal.candidate_of-requires
candidate_of-requires c = still_good c.args.func.now c.in_ok-promoted.promoted c.in_ok-promoted.ensures c.requires

pub returns : goal.returns
returns c =
    candidate_code_answer c.args.below.now c.args.func.now c.in_ok-promoted.promoted c.in_ok-promoted.ensures c.candidate_of.result c.candidate_of.ensures
