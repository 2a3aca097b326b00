use Rattle.std.proofs.Common.{◌≡◌, drop}
use Rattle.obj_link.specs.Prelude.{symbols_by, meaning_in}
use Rattle.obj_link.proofs.TargetLemmas.{found_then}
use Rattle.obj_link.proofs.linking.targets.symbol_targets.Given as goal

abbrev pub invariant-loop-symbol : goal.invariant-loop-symbol
invariant-loop-symbol l =
    symbols_by (meaning_in l.owned l.exports l.text) 0 l.symbols
    ≡ found_then l.found.items (symbols_by (meaning_in l.owned l.exports l.text) l.symbol (drop l.symbol l.symbols))
