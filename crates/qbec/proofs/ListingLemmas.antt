-- The lines of a program's names, from its symbols.
use Rattle.std.proofs.Common.{◌≡◌, ℕ, List, map, Vec, Global, Result, Ok, Err, IfOk, ◌∙◌, ap, sym}
use Rattle.std.specs.List.{concat}
use Rattle.std.proofs.lemmas.Simd.{map-map}
use Rattle.il_ast.specs.declared.program.Program.{Program}
use Rattle.il_types.specs.declared.checked.Checked.{Checked}
use Rattle.rv_isa.specs.Prelude.{Words}
use Rattle.qbec.specs.declared.symbols.symbol.Symbol.{Symbol}
use Rattle.qbec.specs.Symbols.{listing_of, symbol_line, entry, symbols_of}

pub lists : {E : Type 0} (texts : List Checked) (p : Program) (codes : List Words) (found same : List Symbol) (r : Result (Vec ℕ Global) E) → map entry found ≡ symbols_of texts p codes → same ≡ found
    → IfOk r (λ v. v.items ≡ concat (map (λ s. symbol_line (entry s)) same)) → IfOk r (λ v. v.items ≡ listing_of texts p codes)
lists texts p codes found same (Ok v) stand is are =
    are ∙ ap (λ ss. concat (map (λ s. symbol_line (entry s)) ss)) is ∙ ap concat (sym (map-map symbol_line entry found)) ∙ ap (λ es. concat (map symbol_line es)) stand
lists texts p codes found same (Err e) stand is are = tt
