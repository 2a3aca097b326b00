-- How code over registers and slots runs: as the virtual code that it was made of.
use Rattle.std.specs.Prelude.{ℕ, List, map}
use Rattle.il_ast.specs.declared.value.Value.{Value}
use Rattle.il_ast.specs.Prelude.{KeepsCode}
use Rattle.vcode.specs.declared.place.Location.{Location}
use Rattle.vcode.specs.declared.code.Code.{Code}
use Rattle.vcode.specs.Prelude.{virtual, located, begin, step}

-- whatever the global names mean: where the virtual code runs as an outcome that is not undefined,
-- so does the other, with the same calls
abbrev pub RunsAlike : Code ℕ → Code Location → Type 0
RunsAlike v l =
    (globals : List Value)
    → KeepsCode (map (λ d. d.class) v.params) (begin virtual v) (step virtual globals v)
    (begin located l) (step located globals l)
