use Rattle.std.proofs.Common.{◌≡◌, ◌++◌, drop}
use Rattle.obj_link.specs.Prelude.{function_addresses, functions_end}
use Rattle.obj_link.proofs.placing.addresses.function_addresses.Given as goal

abbrev pub invariant-loop-code : goal.invariant-loop-code
invariant-loop-code l =
    (l.found.items ++ function_addresses l.at (drop l.code-index l.codes) ≡ function_addresses l.fn.start l.fn.codes)
    × (functions_end l.at (drop l.code-index l.codes) ≡ functions_end l.fn.start l.fn.codes)
