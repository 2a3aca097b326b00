use Rattle.std.proofs.Common.{◌≡◌, take}
use Rattle.il_types.specs.Prelude.{global_sites}
use Rattle.il_types.proofs.globals.global_sites.Given as goal

abbrev pub invariant-loop-definition : goal.invariant-loop-definition
invariant-loop-definition l = l.found.items ≡ global_sites (take l.definition-index l.definitions)
