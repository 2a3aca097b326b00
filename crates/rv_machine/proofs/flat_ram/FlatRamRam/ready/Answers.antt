use Rattle.std.proofs.Common.{refl}
use Rattle.rv_isa.proofs.MemoryLemmas.{each_from}
use Rattle.rv_machine.proofs.flat_ram.FlatRamRam.ready.Goals as goal

pub returns-clause-ready : goal.returns-clause-ready
returns-clause-ready c = each_from _ c.args.at c.args.n (λ x low high. refl)
