use Rattle.std.proofs.Common.{◌≡◌, true, drop}
use Rattle.std.specs.List.{list_all}
use Rattle.constant_placement.specs.Known.{is_low}
use Rattle.constant_placement.proofs.sinking.with_sets.are_low.Given as goal

abbrev pub invariant-loop-known : goal.invariant-loop-known
invariant-loop-known l = list_all (is_low l.registers) (drop l.known-index l.plan) ≡ true → list_all (is_low l.registers) l.plan ≡ true
