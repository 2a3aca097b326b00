use Rattle.operation_code.proofs.constant.+made_length.Given as goal

abbrev pub decreases-made_length : goal.decreases-made_length
decreases-made_length l = l.shifts
