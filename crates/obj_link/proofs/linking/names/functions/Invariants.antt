use Rattle.std.proofs.Common.{◌≡◌, ◌++◌, map, drop}
use Rattle.obj_link.specs.Prelude.{shown, functions_from}
use Rattle.obj_link.proofs.linking.names.functions.Given as goal

abbrev pub invariant-loop-number : goal.invariant-loop-number
invariant-loop-number l = map shown l.found.items ++ functions_from l.number (drop l.number l.texts) ≡ functions_from 0 l.texts
