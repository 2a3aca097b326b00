use Rattle.std.proofs.Common.{◌≡◌, drop}
use Rattle.std.specs.List.{list_all}
use Rattle.il_types.specs.Prelude.{definition_within}
use Rattle.il_types.proofs.limits.all_within.Given as goal

abbrev pub invariant-loop-definition : goal.invariant-loop-definition
invariant-loop-definition l = list_all definition_within (drop l.definition-index l.definitions) ≡ list_all definition_within l.definitions
