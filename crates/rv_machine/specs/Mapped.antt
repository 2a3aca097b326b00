-- The memory that a program is started with: the segments of its file, the stack, and its arguments
-- above the stack. Nothing else is mapped.
use Rattle.std.specs.Prelude.{◌≡◌, ℕ, ◌+◌, ◌<◌, ◌^◌, Bool, true, false, ◌&&◌, ◌||◌, nat_le, nat_lt, if◌then◌else◌, Option, Some, None, unwrap_or}
use Rattle.rv_isa.specs.declared.permission.Permission.{Permission}
use Rattle.rv_isa.specs.Prelude.{number_at, stored, allowed, stack_bottom, stack_top}
use Rattle.elf_file.specs.declared.flags.Flags.{Flags}
use Rattle.elf_file.specs.Conditions.{Executable, byte_in, flags_in}
use Rattle.rv_machine.specs.Starts.{permission_of}

-- there is memory at an address where anything is allowed
abbrev pub is_mapped : Permission → Bool
is_mapped p = p.readable || p.writable || p.executable

abbrev pub nothing_allowed : Permission
nothing_allowed = record { readable = false; writable = false; executable = false }

-- the stack and the arguments, which can't be executed here
abbrev pub read_and_write : Permission
read_and_write = record { readable = true; writable = true; executable = false }

-- the stack, and above it as many bytes for the arguments
abbrev pub stack_permission : (arguments at : ℕ) → Permission
stack_permission arguments at =
    if nat_le stack_bottom at && nat_lt at (stack_top + arguments) then read_and_write
    else nothing_allowed

-- the permission of a segment that has the address, and else another
abbrev pub flags_or : Option Flags → Permission → Permission
flags_or None p = p
flags_or (Some f) p = permission_of f

abbrev pub permission_in : Executable → (arguments at : ℕ) → Permission
permission_in x arguments at = flags_or (flags_in x at) (stack_permission arguments at)

-- the file's bytes where a segment is, and 0 elsewhere
abbrev pub start_byte : Executable → (at : ℕ) → ℕ
start_byte x at = unwrap_or (byte_in x at) 0

-- ---- what whole accesses do

-- v is the number of n bytes at an address, which may be read
pub record IsRead (allows : ℕ → Permission) (bytes : ℕ → ℕ) (at n v : ℕ) : Type 0 where
  pub may : allowed (λ a. (allows a).readable) at n ≡ true
  pub value : v ≡ number_at bytes at n
  pub small : v < 256 ^ n

-- the low n bytes of v were stored at an address, which may be written
pub record IsWritten (allows : ℕ → Permission) (old new : ℕ → ℕ) (at n v : ℕ) : Type 0 where
  pub may : allowed (λ a. (allows a).writable) at n ≡ true
  pub value : new ≡ stored old at n v
