use Rattle.operation_code.proofs.constant.+push_made.Given as goal

abbrev pub decreases-push_made : goal.decreases-push_made
decreases-push_made l = l.shifts
