use Rattle.qbec.proofs.pipeline.virtual_code_of.Goals as goal

pub loop-line-preserved : goal.loop-line-preserved
loop-line-preserved c = c.in_ok-made.ensures
