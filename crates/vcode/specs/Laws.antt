-- Laws of the meaning.
use Rattle.std.specs.Prelude.{◌≡◌}
use Rattle.il_ast.specs.declared.operation.Class.{Class}
use Rattle.il_ast.specs.declared.operation.Class.TheVariants.{W}
use Rattle.il_ast.specs.declared.value.Value.{Value}
use Rattle.il_ast.specs.Prelude.{in_place, Keeps, IsCodeOf}
use Rattle.il_ast.specs.declared.function.Func.{Func}
use Rattle.vcode.specs.Types.{VFunc, LFunc}
use Rattle.vcode.specs.Rewrites.{virtual_code, location_code}
use Rattle.vcode.specs.Operations.{held}

-- what was written as a value of either class is read as the word that was given
abbrev pub WordsAreRead : Type 0
WordsAreRead = (k : Class) (v : Value) → in_place W (held k v) ≡ in_place W v

-- a pass on virtual code that keeps a function's code gives code of the function, and so does one
-- that gives its registers places
abbrev pub VirtualPassesStay : Type 0
VirtualPassesStay =
    (f : Func) (v w : VFunc) → IsCodeOf f (virtual_code v) →
    Keeps (virtual_code v) (virtual_code w) → IsCodeOf f (virtual_code w)

abbrev pub PlacingStays : Type 0
PlacingStays =
    (f : Func) (v : VFunc) (l : LFunc) → IsCodeOf f (virtual_code v) →
    Keeps (virtual_code v) (location_code l) → IsCodeOf f (location_code l)

-- one pass after another
abbrev pub PassesCompose : Type 0
PassesCompose =
    (u v w : VFunc) → Keeps (virtual_code u) (virtual_code v) →
    Keeps (virtual_code v) (virtual_code w) → Keeps (virtual_code u) (virtual_code w)
