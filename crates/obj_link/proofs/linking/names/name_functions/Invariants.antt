use Rattle.std.proofs.Common.{◌≡◌, ◌++◌, map, drop}
use Rattle.obj_link.specs.Prelude.{shown, names_of_functions}
use Rattle.obj_link.proofs.linking.names.name_functions.Given as goal

abbrev pub invariant-loop-number : goal.invariant-loop-number
invariant-loop-number l = l.names.items ++ names_of_functions l.number (map shown (drop l.number l.functions)) ≡ l.fn.names.items ++ names_of_functions 0 (map shown l.functions)
