-- What stands on lines of its own, as a function of the state.
use Rattle.std.specs.Prelude.{ℕ, Bool, true, false, List, ◌∷◌, Some}
use Rattle.il_lex.specs.declared.kind.Kind.{Kind}
use Rattle.il_lex.specs.declared.kind.Kind.TheVariants.{Label as LabelKind, Newline}
use Rattle.il_ast.specs.declared.instruction.Lined.{Lined}
use Rattle.il_reader.specs.Steps.{many, newline, Step, ◌>>=◌, ◌>>◌, give, sees}

abbrev pub is_label : Kind → Bool
is_label LabelKind = true
is_label _ = false

abbrev pub line : Step ℕ
line s = Some (s.line, s)

abbrev pub lined : {A : Type 0} → Step A → Step (Lined A)
lined p = do
  n ← line
  x ← p
  give (record { line = n; item = x })

abbrev pub is_newline : Kind → Bool
is_newline Newline = true
is_newline _ = false

-- the ends of lines, at least one
abbrev pub line_ends : Step (List (Unit {0}))
line_ends = do
  x ← newline
  xs ← many (sees is_newline) newline
  give (x ∷ xs)

-- what stands on lines of its own
abbrev pub on_line : {A : Type 0} → Step A → Step A
on_line p = do
  x ← p
  line_ends
  give x
