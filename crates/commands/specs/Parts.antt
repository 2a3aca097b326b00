-- What the commands do, over any disk and any standard output: what files hold is compiled, run,
-- interpreted or shown so, and the end gives the status or the failure.
use Rattle.std.specs.Prelude.{◌≡◌, ◌⊎◌, ℕ, List, [], ◌∷◌, ◌++◌, Option, Result, Ok, Err}
use Rattle.std.specs.List.{concat}
use Rattle.std.specs.Borrow.{Bor}
use Rattle.il_ast.specs.declared.value.End.{End}
use Rattle.rv_machine.specs.declared.stop.Stop.{Stop}
use Rattle.elf_file.specs.declared.error.LoadError.{LoadError}
use Rattle.elf_file.specs.Conditions.{Executable, Loads, Refuses as RefusesFile}
use Rattle.shell.specs.declared.disk.Access.TheVariants.{Read, Write}
use Rattle.shell.specs.declared.disk.FileFault.TheVariants.{Device, Memory as NoRoom}
use Rattle.shell.specs.Disk.{DiskState, Files, Holds, Spares, failed, with_fault}
use Rattle.shell.specs.Sink.{SinkState, Sends, Breaks, Tells}
use Rattle.shell.specs.Lines.{dis_lines}
use Rattle.qbec.specs.declared.error.CompileError.{CompileError}
use Rattle.qbec.specs.Refusals.{IsCompiled, Refuses as RefusesTexts}
use Rattle.commands.specs.declared.refusal.Refusal.TheVariants.{File}
use Rattle.commands.specs.declared.failure.Failure.{Failure}
use Rattle.commands.specs.declared.failure.Failure.TheVariants.{Memory, Refused, Unread, Unwritten, Output}
use Rattle.commands.specs.Pieces.{TextsBreak, TextsCutOff, not_run, RunsFile, TextsMean, stop_status, end_status, status_of}
use Rattle.commands.specs.Refusals.{compile_refusal, FileIsRefused, TextsAreRefused}
use Rattle.commands.specs.Messages.{line_of}
use Rattle.commands.specs.declared.verdict.Verdict.{Verdict}
use Rattle.commands.specs.Verdicts.{IsVerdict, verdict_status, verdict_lines}

-- ---- files

-- the call that reads this file failed, and no file changed: the device refused, and its path is
-- given; or memory was refused
abbrev pub IsUnread : (old new : DiskState) → Bor (List ℕ) → Failure → Type 0
IsUnread old new path f =
    ((new ≡ failed Device (record { access = Read; path = path.now }) old) × (f ≡ Unread path))
    ⊎ ((new ≡ failed NoRoom (record { access = Read; path = path.now }) old) × (f ≡ Memory))

-- the call that writes this file failed, and no other changed: likewise
pub record IsUnwritten (old new : DiskState) (path : Bor (List ℕ)) (f : Failure) : Type 0 where
  pub spared : Spares old.files new.files path.now
  pub said : ((new.faults ≡ with_fault Device (record { access = Write; path = path.now }) old.faults)
      × (f ≡ Unwritten path))
      ⊎ ((new.faults ≡ with_fault NoRoom (record { access = Write; path = path.now }) old.faults)
      × (f ≡ Memory))

-- each file has the bytes of the text in its place
abbrev pub AllHold : (told : Option Files) → (paths texts : List (List ℕ)) → Type 0
AllHold told [] [] = Unit {0}
AllHold told [] (text ∷ texts) = ⊥
AllHold told (path ∷ paths) [] = ⊥
AllHold told (path ∷ paths) (text ∷ texts) = Holds told path text × AllHold told paths texts

-- a file of these couldn't be read, the first such: those before it have texts
pub record MissesFile (old new : DiskState) (paths : List (List ℕ)) (f : Failure) : Type 0 where
  pub before : List (List ℕ)
  pub path : Bor (List ℕ)
  pub after : List (List ℕ)
  pub are : paths ≡ before ++ (path.now ∷ after)
  pub texts : List (List ℕ)
  pub held : AllHold old.files before texts
  pub unread : IsUnread old new path f

-- ---- build

-- the file `out` has these bytes, no other file changed, and no call failed
abbrev pub IsWritten : (old new : DiskState) → (out bytes : List ℕ) → Type 0
IsWritten old new out bytes =
    Holds new.files out bytes × Spares old.files new.files out × (new.faults ≡ old.faults)

-- the file `out` has an executable of what these texts mean, no other file changed, and no call
-- failed
pub record IsMade (old new : DiskState) (texts : List (List ℕ)) (out : List ℕ) : Type 0 where
  pub bytes : List ℕ
  pub compiled : IsCompiled texts bytes
  pub written : Holds new.files out bytes
  pub spared : Spares old.files new.files out
  pub clean : new.faults ≡ old.faults

-- or it fails so: the texts are refused, and no file changed; or they were compiled, and `out`
-- couldn't be written
unfoldable pub MakingFails : (old new : DiskState) → (texts : List (List ℕ)) → Bor (List ℕ) →
    Failure → Type 0
MakingFails old new texts out f =
    ((e : CompileError) × RefusesTexts e texts × (f ≡ Refused (compile_refusal e)) × (new ≡ old))
    ⊎ ((bytes : List ℕ) × IsCompiled texts bytes × IsUnwritten old new out f)

-- the same of the texts in files
pub record IsBuilt (old new : DiskState) (paths : List (List ℕ)) (out : List ℕ) : Type 0 where
  pub texts : List (List ℕ)
  pub held : AllHold old.files paths texts
  pub made : IsMade old new texts out

-- or a file is unread, or there was no memory, and no file changed
unfoldable pub BuildFails : (old new : DiskState) → (paths : List (List ℕ)) → Bor (List ℕ) →
    Failure → Type 0
BuildFails old new paths out f =
    MissesFile old new paths f ⊎ ((f ≡ Memory) × (new ≡ old))
    ⊎ ((texts : List (List ℕ)) × AllHold old.files paths texts × MakingFails old new texts out f)

-- ---- run and interp

-- what was put out went out, and it ended in this failure; or a beginning of it went out, and then
-- standard output failed
abbrev pub EndsBadly : (output : List ℕ) (end : Result ℕ Failure) (old new : SinkState) →
    Failure → Type 0
EndsBadly output end old new f =
    (Sends old new output × (end ≡ Err f)) ⊎ (Breaks old new output × (f ≡ Output))

-- the bytes of the file run so
pub record RanFile (disk : DiskState) (path : List ℕ) (words : List (List ℕ)) (limit : ℕ)
    (output : List ℕ) (stop : Stop) : Type 0 where
  pub bytes : List ℕ
  pub held : Holds disk.files path bytes
  pub runs : RunsFile bytes words limit output stop

-- the text in the file means so much
pub record RanText (disk : DiskState) (path : List ℕ) (words : List (List ℕ)) (turns : ℕ)
    (output : List ℕ) (ending : End) : Type 0 where
  pub text : List ℕ
  pub held : Holds disk.files path text
  pub means : TextsMean (text ∷ []) words turns output ending

-- what they put out went out, and they ended with this status
unfoldable pub RunsTo : DiskState → (path : List ℕ) →
    (words : List (List ℕ)) (limit : ℕ) (old new : SinkState) (status : ℕ) → Type 0
RunsTo disk path words limit old new status =
    (output : List ℕ) × (stop : Stop) × RanFile disk path words limit output stop
    × Sends old new output × (stop_status stop ≡ Ok status)

unfoldable pub MeansTo : DiskState → (path : List ℕ) →
    (words : List (List ℕ)) (turns : ℕ) (old new : SinkState) (status : ℕ) → Type 0
MeansTo disk path words turns old new status =
    (output : List ℕ) × (ending : End) × RanText disk path words turns output ending
    × Sends old new output × (end_status ending ≡ Ok status)

-- or with this failure: the file is unread, there was no memory, or the file is refused, and
-- nothing was put out; or it ended badly. No file changed, and no call of the disk failed but the
-- one for the file
unfoldable pub RunFails : (disk after : DiskState) → Bor (List ℕ) →
    (words : List (List ℕ)) (limit : ℕ) (old new : SinkState) → Failure → Type 0
RunFails disk after path words limit old new f =
    (IsUnread disk after path f × (new ≡ old)) ⊎ ((f ≡ Memory) × (after ≡ disk) × (new ≡ old))
    ⊎ ((bytes : List ℕ) × Holds disk.files path.now bytes × FileIsRefused bytes words f
    × (after ≡ disk) × (new ≡ old))
    ⊎ ((output : List ℕ) × (stop : Stop) × RanFile disk path.now words limit output stop
    × EndsBadly output (stop_status stop) old new f × (after ≡ disk))

-- the same of a text. Where memory is refused while it is interpreted, that is told as a refusal, and
-- what it puts out in some of these turns went out
unfoldable pub InterpretFails : (disk after : DiskState) → Bor (List ℕ) →
    (words : List (List ℕ)) (turns : ℕ) (old new : SinkState) → Failure → Type 0
InterpretFails disk after path words turns old new f =
    (IsUnread disk after path f × (new ≡ old)) ⊎ ((f ≡ Memory) × (after ≡ disk) × (new ≡ old))
    ⊎ ((text : List ℕ) × Holds disk.files path.now text × TextsAreRefused (text ∷ []) words f
    × (after ≡ disk) × (new ≡ old))
    ⊎ ((output : List ℕ) × (ending : End) × RanText disk path.now words turns output ending
    × EndsBadly output (end_status ending) old new f × (after ≡ disk))
    ⊎ ((text : List ℕ) × Holds disk.files path.now text
    × TextsCutOff (text ∷ []) words turns old new × (f ≡ not_run) × (after ≡ disk))

-- ---- trace

-- the texts in the files mean so much
pub record RanTexts (disk : DiskState) (paths words : List (List ℕ)) (turns : ℕ)
    (output : List ℕ) (ending : End) : Type 0 where
  pub texts : List (List ℕ)
  pub held : AllHold disk.files paths texts
  pub means : TextsMean texts words turns output ending

-- what an end that is no exit tells on standard error: some bytes that say where it was, and the
-- line of the failure, each as far as that took them
unfoldable pub IsTold : (end : Result ℕ Failure) (before after : SinkState) (status : ℕ) → Type 0
IsTold (Ok value) before after status = (status ≡ value) × (after ≡ before)
IsTold (Err f) before after status =
    (status ≡ status_of f) × ((place : List ℕ) × (between : SinkState) × Tells before between place
    × Tells between after (line_of f))

-- what the texts in the files put out went out, and their end was told so
unfoldable pub IsTraced : DiskState → (paths words : List (List ℕ)) (turns : ℕ) →
    (old new before after : SinkState) (status : ℕ) → Type 0
IsTraced disk paths words turns old new before after status =
    (output : List ℕ) × (ending : End) × RanTexts disk paths words turns output ending
    × Sends old new output × IsTold (end_status ending) before after status

-- or it failed so: a file is unread, there was no memory, or the texts or the words are refused, and
-- nothing was put out; a beginning of what they put out went out, and then standard output failed;
-- or what they put out in some of these turns went out, and then memory was refused
unfoldable pub TraceFails : (disk after : DiskState) → (paths words : List (List ℕ)) (turns : ℕ) →
    (old new : SinkState) → Failure → Type 0
TraceFails disk after paths words turns old new f =
    (MissesFile disk after paths f × (new ≡ old)) ⊎ ((f ≡ Memory) × (after ≡ disk) × (new ≡ old))
    ⊎ ((texts : List (List ℕ)) × AllHold disk.files paths texts × TextsAreRefused texts words f
    × (after ≡ disk) × (new ≡ old))
    ⊎ ((texts : List (List ℕ)) × AllHold disk.files paths texts
    × TextsBreak texts words turns old new × (f ≡ Output) × (after ≡ disk))
    ⊎ ((texts : List (List ℕ)) × AllHold disk.files paths texts
    × TextsCutOff texts words turns old new × (f ≡ not_run) × (after ≡ disk))

-- ---- dis

-- there was no memory for these lines, and nothing was put out; or a beginning of them went out,
-- and then standard output failed
abbrev pub ShowingFails : (lines : List ℕ) (old new : SinkState) → Failure → Type 0
ShowingFails lines old new f =
    ((f ≡ Memory) × (new ≡ old)) ⊎ (Breaks old new lines × (f ≡ Output))

-- the file loads, and the lines of its instructions went out
pub record IsDisassembled (disk : DiskState) (path : List ℕ) (old new : SinkState) : Type 0 where
  pub bytes : List ℕ
  pub file : Executable
  pub held : Holds disk.files path bytes
  pub loads : Loads bytes file
  pub sent : Sends old new (concat (dis_lines file.mappings))

-- it loads, but a beginning of the lines went out, and then standard output failed
pub record IsCutShort (disk : DiskState) (path : List ℕ) (old new : SinkState) : Type 0 where
  pub bytes : List ℕ
  pub file : Executable
  pub held : Holds disk.files path bytes
  pub loads : Loads bytes file
  pub broke : Breaks old new (concat (dis_lines file.mappings))

-- a disassembly where the file is unread, there was no memory, or the file is refused, and nothing
-- was put out; or standard output failed
unfoldable pub DisassemblyFails : (disk after : DiskState) → Bor (List ℕ) → (old new : SinkState) →
    Failure → Type 0
DisassemblyFails disk after path old new f =
    (IsUnread disk after path f × (new ≡ old)) ⊎ ((f ≡ Memory) × (after ≡ disk) × (new ≡ old))
    ⊎ ((bytes : List ℕ) × (e : LoadError)
    × Holds disk.files path.now bytes × RefusesFile e bytes × (f ≡ Refused (File e))
    × (after ≡ disk) × (new ≡ old))
    ⊎ (IsCutShort disk path.now old new × (f ≡ Output) × (after ≡ disk))

-- ---- symbols and stack

-- what lines show of texts
abbrev pub Shows : Type 1
Shows = (texts : List (List ℕ)) → (lines : List ℕ) → Type 0

-- the files hold texts, and lines that show so much of them went out
pub record AreShown (shows : Shows) (disk : DiskState) (paths : List (List ℕ))
    (old new : SinkState) : Type 0 where
  pub texts : List (List ℕ)
  pub held : AllHold disk.files paths texts
  pub lines : List ℕ
  pub listed : shows texts lines
  pub sent : Sends old new lines

-- or a beginning of the lines went out, and then standard output failed
pub record AreCutShort (shows : Shows) (disk : DiskState) (paths : List (List ℕ))
    (old new : SinkState) : Type 0 where
  pub texts : List (List ℕ)
  pub held : AllHold disk.files paths texts
  pub lines : List ℕ
  pub listed : shows texts lines
  pub broke : Breaks old new lines

-- they aren't shown where a file is unread, there was no memory, or the texts are refused, and
-- nothing was put out; or standard output failed
unfoldable pub ShowingLinesFails : Shows → (disk after : DiskState) → (paths : List (List ℕ)) →
    (old new : SinkState) → Failure → Type 0
ShowingLinesFails shows disk after paths old new f =
    (MissesFile disk after paths f × (new ≡ old)) ⊎ ((f ≡ Memory) × (after ≡ disk) × (new ≡ old))
    ⊎ ((texts : List (List ℕ)) × (e : CompileError) × AllHold disk.files paths texts
    × RefusesTexts e texts × (f ≡ Refused (compile_refusal e)) × (after ≡ disk) × (new ≡ old))
    ⊎ (AreCutShort shows disk paths old new × (f ≡ Output) × (after ≡ disk))

-- ---- check

-- what is found of texts went to standard error, as far as that took it, and the status tells it
pub record ShowsVerdict (paths texts : List (List ℕ)) (old new : SinkState) (status : ℕ) : Type 0 where
  pub verdict : Verdict
  pub is : IsVerdict texts verdict
  pub told : Tells old new (concat (verdict_lines paths verdict))
  pub tells : status ≡ verdict_status verdict

-- the same of the texts in files
pub record IsChecked (disk : DiskState) (paths : List (List ℕ)) (old new : SinkState)
    (status : ℕ) : Type 0 where
  pub texts : List (List ℕ)
  pub held : AllHold disk.files paths texts
  pub shows : ShowsVerdict paths texts old new status

-- or a file is unread, or there was no memory, and no file changed
unfoldable pub CheckFails : (old new : DiskState) → (paths : List (List ℕ)) → Failure → Type 0
CheckFails old new paths f = MissesFile old new paths f ⊎ ((f ≡ Memory) × (new ≡ old))
