use Rattle.std.proofs.Common.{◌≡◌, ◌+◌, drop}
use Rattle.rv_machine.specs.Steps.{filled}
use Rattle.rv_machine.proofs.fill.set_all.Given as goal

-- what is filled from here on is what is filled from the start
abbrev pub invariant-loop-k : goal.invariant-loop-k
invariant-loop-k g l = record {
  filling : filled (g.R.Ram.byte_at l.ram) (l.at + l.k) (drop l.k l.bytes) ≡ filled (g.R.Ram.byte_at l.initial.ram) l.at l.bytes;
  permissions : g.R.Ram.permission_at l.ram ≡ g.R.Ram.permission_at l.initial.ram;
  ready : g.R.Ram.is_ready l.ram ≡ g.R.Ram.is_ready l.initial.ram;
}
