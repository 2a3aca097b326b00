use Rattle.std.proofs.Common.{◌≡◌, drop}
use Rattle.certificates.specs.Listed.{with_places}
use Rattle.certificates.proofs.list.push_reads.Given as goal

abbrev pub invariant-loop-register : goal.invariant-loop-register
invariant-loop-register l = with_places l.list l.equalities (drop l.register-index l.reads) ≡ with_places l.list l.fn.equalities l.fn.reads
