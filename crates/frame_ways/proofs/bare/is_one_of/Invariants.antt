use Rattle.std.proofs.Common.{◌≡◌, drop}
use Rattle.std.specs.List.{list_any}
use Rattle.frame_ways.specs.Plans.{is_register}
use Rattle.frame_ways.proofs.bare.is_one_of.Given as goal

abbrev pub invariant-loop-number : goal.invariant-loop-number
invariant-loop-number l = list_any (λ r. is_register r l.place) (drop l.number-index l.registers) ≡ list_any (λ r. is_register r l.fn.place) l.fn.registers
