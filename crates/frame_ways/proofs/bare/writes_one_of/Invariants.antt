use Rattle.std.proofs.Common.{◌≡◌, drop}
use Rattle.std.specs.List.{list_any}
use Rattle.frame_ways.specs.Plans.{writes}
use Rattle.frame_ways.proofs.bare.writes_one_of.Given as goal

abbrev pub invariant-loop-number : goal.invariant-loop-number
invariant-loop-number l = list_any (λ r. writes r l.line) (drop l.number-index l.registers) ≡ list_any (λ r. writes r l.fn.line) l.fn.registers
