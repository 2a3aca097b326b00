-- What a code has to keep to be a function's, whatever its places.
use Rattle.std.specs.Prelude.{ℕ, Bool, ◌<◌, ◌≤◌, IsTrue}
use Rattle.std.specs.List.{list_all}
use Rattle.il_ast.specs.declared.limits.TheConstants.{FUNCTION_WEIGHT}
use Rattle.vcode.specs.declared.limits.TheConstants.{PLACES}
use Rattle.vcode.specs.declared.place.Destination.{Destination}
use Rattle.vcode.specs.declared.code.Code.{Code}
use Rattle.vcode.specs.Prelude.{keeps_places, are_distinct, Places, IsRegular, alloc_bytes, code_weight, weight_of}
use Rattle.vcode.specs.declared.line.Line.{Line}
use Rattle.step_by_step.specs.declared.code_text.rules.check.Measure.{Measure}
use Rattle.step_by_step.specs.declared.code_text.rules.check.Measure.TheVariants.{Stack, Weight}

-- what a line has of a measure
abbrev pub measured : {P : Type 0} → Measure → Line P → ℕ
measured Stack = alloc_bytes
measured Weight = weight_of

-- Of so many places (`count`) it names those that exist; its parameters come to near places, no two of which `apart` says to be one.
pub record IsFunction {P : Type 0} (exists : ℕ → P → Bool) (near : P → Bool)
    (apart : Places P) (count : ℕ) (code : Code P) : Type 0 where
  pub few : count < PLACES
  pub regular : IsRegular code
  pub light : code_weight code ≤ FUNCTION_WEIGHT
  pub known : IsTrue (keeps_places (exists count) code)
  pub close : IsTrue (list_all (λ (d : Destination P). near d.place) code.params)
  pub distinct : IsTrue (are_distinct apart code.params)
