use Rattle.rv_machine.proofs.access.+number.Given as goal

abbrev pub decreases-number : goal.decreases-number
decreases-number g l = l.n
