-- What reading a text answers.
use Rattle.std.specs.Prelude.{◌≡◌, ℕ, ◌+◌, ◌≤◌, List, Result, MatchResult}
use Rattle.il_lex.specs.Next.{lines_in}
use Rattle.il_ast.specs.declared.text.Text.{Text}
use Rattle.il_reader.specs.declared.error.ReadError.{ReadError}
use Rattle.il_reader.specs.declared.error.ReadError.TheVariants.{Syntax, Memory}

-- this tree, or want of memory
abbrev pub IsTree : Text → Result Text ReadError → Type 0
IsTree tree result = MatchResult result (λ read. read ≡ tree) (λ error. error ≡ Memory)

-- a refusal names a line of the text
abbrev pub NamesLine : List ℕ → ReadError → Type 0
NamesLine bytes (Syntax line) = (1 ≤ line) × (line ≤ lines_in bytes + 1)
NamesLine bytes Memory = Unit {0}
