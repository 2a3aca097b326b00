use Rattle.std.proofs.Common.{arith}
use Rattle.std.proofs.lemmas.Result.{on_ok_weaker}
use Rattle.rv_isa.proofs.MemoryLemmas.{each_from}
use Rattle.rv_machine.proofs.PageLemmas.{ready-each}
use Rattle.rv_machine.proofs.page_ram.PageRamRam.ready.Goals as goal

pub returns-then-n-eq0-clause-ready : goal.returns-then-n-eq0-clause-ready
returns-then-n-eq0-clause-ready c = each_from _ c.args.at c.args.n (λ x low high. absurd (omega (arith, c.if-n-eq0.true, low, high)))

pub returns-clause-ready : goal.returns-clause-ready
returns-clause-ready c =
    on_ok_weaker c.make_pages.result (λ made. ready-each c.make_pages.new.pages.items c.args.at c.args.n c.if-n-eq0.false made) c.make_pages.ensures.made
