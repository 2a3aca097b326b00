-- The lines that show how much stack a program takes.
use Rattle.std.specs.Prelude.{◌≡◌, ◌≤◌, ℕ, ◌+◌, ◌++◌, nat_le, if◌then◌else◌, List, [], ◌∷◌, codes, Option, Some, None, decimal}
use Rattle.il_ast.specs.declared.limits.TheConstants.{STACK_ROOM}
use Rattle.il_ast.specs.declared.function.Func.{Func}
use Rattle.il_ast.specs.declared.program.InText.{InText}
use Rattle.il_ast.specs.declared.program.Program.{Program}
use Rattle.il_ast.specs.declared.value.Callee.TheVariants.{Defined}
use Rattle.il_ast.specs.Prelude.{need}
use Rattle.il_types.specs.declared.checked.Checked.{Checked}
use Rattle.il_types.specs.Prelude.{capped}
use Rattle.obj_link.specs.Prelude.{symbol_name, IsProgram}
use Rattle.stack_bound.specs.declared.bounds.Bounds.{Bounds}
use Rattle.stack_bound.specs.Bounds.{AreBounds, bound_of, IsEnough, StaysInStack}
use Rattle.qbec.specs.Refusals.{AreTexts}

-- a bound, or a dash where there is none
abbrev pub bound_text : Option ℕ → List ℕ
bound_text None = codes "-"
bound_text (Some n) = decimal n

-- need, bound and name
unfoldable pub stack_line : List Checked → InText Func → (bound : Option ℕ) → List ℕ
stack_line texts f bound =
    decimal (capped (need f.item)) ++ codes " " ++ bound_text bound ++ codes " "
    ++ symbol_name texts f.text f.item.name ++ codes "\n"

-- the lines of functions from number n on
abbrev pub stack_lines : List Checked → Bounds → (n : ℕ) → List (InText Func) → List ℕ
stack_lines texts b n [] = []
stack_lines texts b n (f ∷ fs) =
    stack_line texts f (bound_of b (Defined n)) ++ stack_lines texts b (n + 1) fs

-- whether n bytes are within the stack
abbrev pub place_words : ℕ → List ℕ
place_words n =
    if nat_le n STACK_ROOM then codes " bytes, within the " else codes " bytes, beyond the "

-- the line of a program that takes at most n bytes
unfoldable pub use_line : ℕ → List ℕ
use_line n =
    codes "at most " ++ decimal n ++ place_words n ++ decimal STACK_ROOM ++ codes " of the stack\n"

-- the last line: what it says is so of every run. Where there is no bound, some reason is given
abbrev pub IsLastLine : Program → Option ℕ → List ℕ → Type 0
IsLastLine p None line = Unit {0}
IsLastLine p (Some n) line =
    (line ≡ use_line n) × IsEnough p n × (n ≤ STACK_ROOM → StaysInStack p)

-- bounds of the program that are right, and that of `main`
pub record ShowsProgram (texts : List Checked) (p : Program) (bytes : List ℕ) : Type 0 where
  pub bounds : Bounds
  pub right : AreBounds p bounds
  pub last : List ℕ
  pub are : bytes ≡ stack_lines texts bounds 0 p.functions ++ last
  pub says : IsLastLine p (bound_of bounds (Defined p.main)) last

-- the texts are a program, and these are its lines
pub record ShowsStack (texts : List (List ℕ)) (bytes : List ℕ) : Type 0 where
  pub checked : List Checked
  pub are : AreTexts texts checked
  pub program : Program
  pub is : IsProgram checked program
  pub shows : ShowsProgram checked program bytes
