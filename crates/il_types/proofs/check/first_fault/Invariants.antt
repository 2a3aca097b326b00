use Rattle.std.proofs.Common.{◌≡◌, drop}
use Rattle.il_types.specs.Prelude.{first_fault}
use Rattle.il_types.proofs.check.first_fault.Given as goal

abbrev pub invariant-loop-definition : goal.invariant-loop-definition
invariant-loop-definition l = first_fault (drop l.definition-index l.definitions) ≡ first_fault l.definitions
