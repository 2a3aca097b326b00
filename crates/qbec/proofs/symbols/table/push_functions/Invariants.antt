use Rattle.std.proofs.Common.{◌≡◌, ◌++◌, drop, map}
use Rattle.obj_link.specs.Prelude.{functions_start, function_addresses, functions_end, shown}
use Rattle.qbec.specs.Symbols.{entry, function_entries}
use Rattle.qbec.proofs.symbols.table.push_functions.Given as goal

abbrev pub invariant-loop-k : goal.invariant-loop-k
invariant-loop-k l = record {
  listed : map entry l.found.items ++ function_entries l.texts (function_addresses l.at (drop l.k l.codes)) (drop l.k l.codes) (map shown (drop l.k l.functions))
      ≡ map entry l.fn.found.items ++ function_entries l.texts (function_addresses functions_start l.codes) l.codes (map shown l.functions);
  end : functions_end l.at (drop l.k l.codes) ≡ functions_end functions_start l.codes;
}
