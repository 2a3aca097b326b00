-- What files hold, and which calls of a disk failed, and why.
use Rattle.std.specs.Prelude.{◌≡◌, ℕ, ◌++◌, List, [], ◌∷◌, Option, Some, None, Result, Ok, Err, map, string_bytes}
use Rattle.shell.specs.declared.disk.Access.{Access}
use Rattle.shell.specs.declared.disk.FileFault.{FileFault}
use Rattle.shell.specs.declared.disk.FileFault.TheVariants.{Device, Memory}
use Rattle.shell.specs.declared.disk.RefusedCall.{RefusedCall}
use Rattle.shell.specs.declared.disk.Faults.{Faults}
use Rattle.shell.specs.Sink.{one_more}

-- the bytes of the file at each path, where there is one
abbrev pub Files : Type 0
Files = List ℕ → Option (List ℕ)

-- what a disk was asked: to read the file at this path, or to write it
pub record Call : Type 0 where
  pub access : Access
  pub path : List ℕ

-- the calls that failed: those that the device or the file system refused, in order, and how many
-- there were for which memory was refused
pub record FailedCalls : Type 0 where
  pub device : List Call
  pub memory : ℕ

-- what a disk tells at one time: its files, where it tells them, and which of its calls failed
pub record DiskState : Type 0 where
  pub files : Option Files
  pub faults : FailedCalls

-- the file at this path has these bytes, where the disk tells what its files hold
abbrev pub Holds : (told : Option Files) → (path bytes : List ℕ) → Type 0
Holds None path bytes = Unit {0}
Holds (Some files) path bytes = files path ≡ Some bytes

-- no file changed but the one at this path, where the disk tells
abbrev pub Spares : (old new : Option Files) → (path : List ℕ) → Type 0
Spares None None path = Unit {0}
Spares None (Some new) path = ⊥
Spares (Some old) None path = ⊥
Spares (Some old) (Some new) path = (other : List ℕ) → (other ≡ path → ⊥) → new other ≡ old other

-- ---- calls that failed

abbrev pub no_failed_calls : FailedCalls
no_failed_calls = record { device = []; memory = 0 }

-- a call that is noted, and all of them
abbrev pub noted : RefusedCall → Call
noted call = record { access = call.access; path = string_bytes call.path }

abbrev pub told_faults : Faults → FailedCalls
told_faults faults = record { device = map noted faults.device.items; memory = faults.memory }

-- the calls that failed, and then this one, which failed so
abbrev pub with_fault : FileFault → Call → FailedCalls → FailedCalls
with_fault Device call faults = record faults { device = faults.device ++ call ∷ [] }
with_fault Memory call faults = record faults { memory = one_more faults.memory }

-- this call failed so, and no file changed
abbrev pub failed : FileFault → Call → DiskState → DiskState
failed fault call disk = record disk { faults = with_fault fault call disk.faults }

-- the calls that failed, after this one
abbrev pub counted : {X : Type 0} → FailedCalls → Call → Result X FileFault → FailedCalls
counted faults call (Ok answer) = faults
counted faults call (Err fault) = with_fault fault call faults
