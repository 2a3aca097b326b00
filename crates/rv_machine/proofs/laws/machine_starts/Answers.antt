use Rattle.rv_machine.proofs.StartLaws.{machine_starts}
use Rattle.rv_machine.proofs.laws.machine_starts.Goals as goal

pub returns : goal.returns
returns c = machine_starts
