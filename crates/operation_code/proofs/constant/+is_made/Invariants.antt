use Rattle.operation_code.proofs.constant.+is_made.Given as goal

abbrev pub decreases-is_made : goal.decreases-is_made
decreases-is_made l = l.shifts
