use Rattle.std.proofs.Common.{◌≡◌, ◌++◌, drop, map}
use Rattle.std.specs.List.{concat}
use Rattle.qbec.specs.Symbols.{symbol_line, entry}
use Rattle.qbec.proofs.symbols.listing.lines_of.Given as goal

abbrev pub invariant-loop-symbol : goal.invariant-loop-symbol
invariant-loop-symbol l =
    l.listing.items ++ concat (map (λ s. symbol_line (entry s)) (drop l.symbol-index l.symbols))
    ≡ concat (map (λ s. symbol_line (entry s)) l.symbols)
