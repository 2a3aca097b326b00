use Rattle.std.proofs.Common.{◌≡◌, ◌++◌, drop, map}
use Rattle.obj_link.specs.Prelude.{shown, functions_end, functions_words}
use Rattle.obj_link.proofs.placing.fill.push_functions.Given as goal

abbrev pub invariant-loop-number : goal.invariant-loop-number
invariant-loop-number l =
    (l.words.items ++ functions_words l.addresses l.targets l.at (drop l.number l.codes) (map shown (drop l.number l.functions))
    ≡ l.fn.words.items ++ functions_words l.fn.addresses l.fn.targets l.fn.start l.fn.codes (map shown l.fn.functions))
    × (functions_end l.at (drop l.number l.codes) ≡ functions_end l.fn.start l.fn.codes)
