-- What is proved of lowered functions: each keeps the function. And which functions can be lowered.
use Rattle.std.specs.Prelude.{◌≡◌, ℕ, slice_get, Some}
use Rattle.il_ast.specs.declared.function.Func.{Func}
use Rattle.il_ast.specs.declared.text.Definition.TheVariants.{Function}
use Rattle.il_ast.specs.declared.text.Text.{Text}
use Rattle.il_types.specs.Prelude.{IsGood}
use Rattle.phi_copies.specs.Endings.{Endings}
use Rattle.phi_copies.specs.Good.{IsGoodFunction}
use Rattle.phi_copies.specs.Lowered.{IsLowered}
use Rattle.phi_copies.specs.Keeping.{KeepsFunction}

abbrev pub LoweringKeeps : Type 0
LoweringKeeps = (f : Func) (code : Endings) → IsLowered f code → KeepsFunction f code

-- each function of a good text
abbrev pub GoodTextsAreLowered : Type 0
GoodTextsAreLowered =
    (t : Text) → IsGood t → (k : ℕ) (f : Func) → slice_get t.definitions k ≡ Some (Function f) →
    IsGoodFunction f
