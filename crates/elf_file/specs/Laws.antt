-- A law of what files load as.
use Rattle.std.specs.Prelude.{◌≡◌, ℕ, List}
use Rattle.elf_file.specs.Conditions.{Executable, Loads}

-- a file loads as one executable at most
abbrev pub LoadsOnce : Type 0
LoadsOnce = (file : List ℕ) (x y : Executable) → Loads file x → Loads file y → x ≡ y
