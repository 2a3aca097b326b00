-- What the rules say of the functions of linked texts.
use Rattle.std.specs.Prelude.{◌≡◌, ℕ, List, slice_get, Some}
use Rattle.std.specs.Borrow.{Bor}
use Rattle.il_ast.specs.declared.function.Func.{Func}
use Rattle.il_ast.specs.declared.program.InText.{InText}
use Rattle.il_types.specs.declared.checked.Checked.{Checked}
use Rattle.obj_link.specs.declared.linking.linked.Linked.{Linked}
use Rattle.obj_link.specs.Prelude.{IsLinked}
use Rattle.phi_copies.specs.Good.{IsGoodFunction}

-- each is one that can be lowered
abbrev pub FunctionsAreGood : Type 0
FunctionsAreGood =
    (texts : List Checked) (l : Linked) → IsLinked texts l → (k : ℕ) (f : InText (Bor Func)) →
    slice_get l.functions k ≡ Some f → IsGoodFunction f.item.now
