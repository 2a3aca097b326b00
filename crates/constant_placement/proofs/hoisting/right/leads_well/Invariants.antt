use Rattle.std.proofs.Common.{◌≡◌, drop}
use Rattle.constant_placement.specs.Held.{leads_well}
use Rattle.constant_placement.proofs.hoisting.right.leads_well.Given as goal

abbrev pub invariant-loop-number : goal.invariant-loop-number
invariant-loop-number l = leads_well l.plan l.number (drop l.number l.blocks) ≡ leads_well l.plan 0 l.blocks
