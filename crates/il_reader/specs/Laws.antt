-- Laws of trees.
use Rattle.std.specs.Prelude.{◌≡◌, ℕ, List}
use Rattle.il_ast.specs.declared.text.Text.{Text}
use Rattle.il_reader.specs.Reads.{Reads}

-- a text has at most one tree
abbrev pub OneTree : Type 0
OneTree = (bytes : List ℕ) (text other : Text) → Reads bytes text → Reads bytes other → text ≡ other
