use Rattle.std.proofs.Common.{◌≡◌}
use Rattle.certificates.specs.Listed.{slots}
use Rattle.certificates.proofs.spill_all.slots.Given as goal

abbrev pub invariant-loop-register : goal.invariant-loop-register
invariant-loop-register l = l.list.items ≡ slots l.register
