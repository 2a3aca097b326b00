use Rattle.rv_machine.proofs.access.+set_bytes.Given as goal

abbrev pub decreases-set_bytes : goal.decreases-set_bytes
decreases-set_bytes g l = l.n
