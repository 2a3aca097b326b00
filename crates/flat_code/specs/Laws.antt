-- The law of code on bytes.
use Rattle.std.specs.Prelude.{map}
use Rattle.vcode.specs.declared.place.Location.{Location}
use Rattle.vcode.specs.declared.code.Code.{Code}
use Rattle.vcode.specs.Prelude.{located, IsRegular, area, begin, step}
use Rattle.flat_code.specs.Flat.{Names, KeepsFlat}
use Rattle.flat_code.specs.Step.{flat_begin, flat_step}

-- location code on bytes keeps the same code on blocks, whatever its global names stand for
abbrev pub FlatKept : Code Location → Type 0
FlatKept f =
    (names : Names)
    → KeepsFlat names (map (λ d. d.class) f.params) f.result (area f) (begin located f)
    (step located names.globals f) (flat_begin f) (flat_step f names.addresses)

-- every code that is regular is kept
abbrev pub RegularIsKept : Type 0
RegularIsKept = (f : Code Location) → IsRegular f → FlatKept f
