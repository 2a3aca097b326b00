-- What is proved of selected code.
use Rattle.std.specs.Prelude.{ℕ, List, ◌+◌, ◌≤◌, length}
use Rattle.il_ast.specs.declared.function.Func.{Func}
use Rattle.il_ast.specs.declared.value.Value.{Value}
use Rattle.il_ast.specs.Prelude.{KeepsCode, classes_of, phi_count, need, weight, IsCodeOf}
use Rattle.phi_copies.specs.Endings.{Endings, begin, step}
use Rattle.vcode.specs.declared.code.Code.{Code}
use Rattle.vcode.specs.Prelude.{virtual, begin as begin_code, step as step_code, coded, frame_bound, code_weight}
use Rattle.phi_copies.specs.Good.{IsGoodFunction}
use Rattle.phi_copies.specs.Lowered.{IsLowered}
use Rattle.select.specs.Selected.{selected, classes_in, IsVirtual}
use Rattle.select.specs.Typed.{Classes, IsTyped}

-- ---- what virtual code owes to the function without phis that it was made of

-- with these values of the text's global names
abbrev pub KeepsEndings : Func → Endings → Code ℕ → Type 0
KeepsEndings f code v =
    (globals : List Value)
    → KeepsCode (classes_of f.params) (begin f) (step globals f code) (begin_code virtual v)
    (step_code virtual globals v)

abbrev pub SelectionKeeps : Type 0
SelectionKeeps =
    (classes : Classes) (f : Func) (code : Endings) → IsTyped classes f code →
    KeepsEndings f code (selected classes f code)

abbrev pub LoweredIsTyped : Type 0
LoweredIsTyped =
    (f : Func) (code : Endings) → IsGoodFunction f → IsLowered f code →
    IsTyped (classes_in f) f code

abbrev pub SelectedIsVirtual : Type 0
SelectedIsVirtual =
    (f : Func) (code : Endings) → IsGoodFunction f → IsLowered f code
    → IsVirtual (selected (classes_in f) f code) (length f.temps + phi_count f)

-- the virtual code is the function's, whatever its text's global names mean, it takes no more of the
-- stack than a call of the function is counted for, and its text weighs no more than the function's
abbrev pub SelectedIsCode : Type 0
SelectedIsCode =
    (f : Func) (code : Endings) → IsGoodFunction f → IsLowered f code
    → IsCodeOf f (coded virtual (selected (classes_in f) f code))
    × (frame_bound (selected (classes_in f) f code) (length f.temps + phi_count f) ≤ need f)
    × (code_weight (selected (classes_in f) f code) ≤ weight f)
