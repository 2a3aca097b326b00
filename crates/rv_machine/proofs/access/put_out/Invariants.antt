use Rattle.std.proofs.Common.{◌≡◌, ◌++◌}
use Rattle.rv_isa.specs.Prelude.{bytes_at}
use Rattle.rv_machine.proofs.access.put_out.Given as goal

abbrev pub invariant-loop-k : goal.invariant-loop-k
invariant-loop-k g l = l.output.items ≡ l.initial.output.items ++ bytes_at (g.R.Ram.byte_at l.ram) l.at l.k
