use Rattle.std.proofs.Common.{◌≡◌, ◌++◌, map, take, flat_map}
use Rattle.obj_link.specs.Prelude.{shown, function_in}
use Rattle.obj_link.proofs.linking.names.collect_functions.Given as goal

abbrev pub invariant-loop-definition : goal.invariant-loop-definition
invariant-loop-definition l = map shown l.found.items ≡ map shown l.fn.found.items ++ flat_map (function_in l.text) (take l.definition-index l.definitions)
