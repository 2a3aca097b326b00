-- The states in which the program of a file may start.
use Rattle.std.specs.Prelude.{◌≡◌, ℕ, List, Some}
use Rattle.rv_isa.specs.declared.permission.Permission.{Permission}
use Rattle.rv_isa.specs.Prelude.{State, StartsWith}
use Rattle.elf_file.specs.declared.flags.Flags.{Flags}
use Rattle.elf_file.specs.Conditions.{is_readable, is_writable, is_executable, Executable, byte_in, flags_in}

-- what a program may do with the bytes of a segment that has these flags
abbrev pub permission_of : Flags → Permission
permission_of f =
    record { readable = is_readable f; writable = is_writable f; executable = is_executable f }

-- s is a start of the file with these words: it holds the file at its entry, and finds the words as
-- `StartsWith` says. All else is free: the other registers, the bytes of the stack, and what is
-- mapped elsewhere
pub record Starts (x : Executable) (words : List (List ℕ)) (s : State) : Type 0 where
  pub begins : StartsWith words s
  pub entry : s.pc ≡ x.entry
  pub bytes : (a b : ℕ) → byte_in x a ≡ Some b → s.bytes a ≡ b
  pub permissions : (a : ℕ) (f : Flags) → flags_in x a ≡ Some f → s.allows a ≡ permission_of f
