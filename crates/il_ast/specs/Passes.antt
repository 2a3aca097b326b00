-- The promise of every pass on code: what it makes keeps what it was given.
use Rattle.std.specs.Prelude.{◌≡◌, List, map, Option}
use Rattle.il_ast.specs.Types.{Class, Param, Func, Value}
use Rattle.il_ast.specs.Run.{Outcome, body}
use Rattle.il_ast.specs.Logged.{Event}
use Rattle.il_ast.specs.Keeps.{Asked, Given, Body, KeepsMeaning, KeepsCode}

-- A function's code, as passes see it: the classes of its parameters and of its result, and how it
-- runs, given its text's global names. Nothing here bounds what it takes of the stack, nor how long
-- it is: that is tested once it has a frame and words.
pub record Coded : Type 1 where
  pub State : Type 0
  pub params : List Class
  pub result : Option Class
  pub start : Given → State
  pub step : List Value → Given → State → Event State Asked Outcome

-- The second code keeps the first: it has the same parameters and result, and where the first runs
-- as an outcome that is not undefined, so does the second, with the same calls, whatever the global
-- names mean and however the calls go.
pub record Keeps (before after : Coded) : Type 0 where
  pub params : after.params ≡ before.params
  pub result : after.result ≡ before.result
  pub runs : (globals : List Value) → KeepsCode before.params before.start (before.step globals)
      after.start (after.step globals)

abbrev pub classes_of : List Param → List Class
classes_of params = map (λ (x : Param). x.class) params

-- what a function means, with these values of its text's global names
abbrev pub body_of : Func → (globals : List Value) → Body
body_of f globals callees i =
    body (record { func = f; globals = globals }) callees i.turns i.room i.args i.memory

-- The code is a function's: given arguments of its parameters' classes it runs as the function's
-- body.
pub record IsCodeOf (f : Func) (c : Coded) : Type 0 where
  pub params : c.params ≡ classes_of f.params
  pub result : c.result ≡ f.result
  pub runs : (globals : List Value) → KeepsMeaning (classes_of f.params) c.start (c.step globals)
      (body_of f globals)
