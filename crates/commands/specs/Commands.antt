-- What each command did, over a disk, standard output and standard error: what they told before and
-- after.
use Rattle.std.specs.Prelude.{◌≡◌, ◌⊎◌, ℕ, List, Option, Some, None, Bool, true, false, map}
use Rattle.std.specs.Borrow.{Bor}
use Rattle.shell.specs.Disk.{DiskState}
use Rattle.shell.specs.Sink.{SinkState, Sends, Breaks, Tells}
use Rattle.qbec.specs.declared.error.CompileError.{CompileError}
use Rattle.qbec.specs.Symbols.{IsListedFile}
use Rattle.qbec.specs.Refusals.{Refuses}
use Rattle.commands.specs.declared.failure.Failure.{Failure}
use Rattle.commands.specs.declared.failure.Failure.TheVariants.{Memory, Refused, Output}
use Rattle.commands.specs.Parts.{AllHold, IsUnwritten, IsWritten, MissesFile, IsBuilt, BuildFails, RunsTo, RunFails, MeansTo, InterpretFails, IsDisassembled, DisassemblyFails, AreShown, ShowingLinesFails, IsTraced, TraceFails, IsChecked, CheckFails}
use Rattle.commands.specs.Refusals.{compile_refusal}
use Rattle.command_line.specs.Asked.{AskFor, SaysWhy}
use Rattle.command_line.specs.declared.Command.{Command}
use Rattle.command_line.specs.declared.Command.TheVariants.{Build, Run, Interpret, Disassemble, Check, Symbols, Stack, Trace}
use Rattle.command_line.specs.declared.refusal.Refusal.{Refusal as CommandRefusal}
use Rattle.command_line.specs.declared.refusal.Refusal.TheVariants.{Help, Mistake, Memory as NoRoom}
use Rattle.commands.specs.Messages.{line_of}
use Rattle.commands.specs.StackLines.{ShowsStack}
use Rattle.commands.specs.Pieces.{status_of}

-- ---- what `symbols` does, over any disk and any standard output

-- the file `out`, where there is such a file, has these bytes, no other changed, and no call failed
abbrev pub IsPut : Option (Bor (List ℕ)) → (bytes : List ℕ) → (old new : DiskState) → Type 0
IsPut None bytes old new = new ≡ old
IsPut (Some out) bytes old new = IsWritten old new out.now bytes

-- or it couldn't be written
abbrev pub IsUnput : Option (Bor (List ℕ)) → (old new : DiskState) → Failure → Type 0
IsUnput None old new f = ⊥
IsUnput (Some out) old new f = IsUnwritten old new out f

-- the lines of the names in a file that compiling the texts makes went out, and that file is `out`,
-- where there is such a file
pub record AreListed (texts : List (List ℕ)) (out : Option (Bor (List ℕ))) (disk after : DiskState)
    (old new : SinkState) : Type 0 where
  pub file : List ℕ
  pub lines : List ℕ
  pub listed : IsListedFile texts file lines
  pub put : IsPut out file disk after
  pub sent : Sends old new lines

-- or it failed so: the texts are refused; the file couldn't be written, and nothing was put out; or
-- it was written, a beginning of the lines went out, and then standard output failed
unfoldable pub ListingFails : (texts : List (List ℕ)) → Option (Bor (List ℕ)) →
    (disk after : DiskState) → (old new : SinkState) → Failure → Type 0
ListingFails texts out disk after old new f =
    ((e : CompileError) × Refuses e texts × (f ≡ Refused (compile_refusal e)) × (after ≡ disk)
    × (new ≡ old))
    ⊎ ((file lines : List ℕ) × IsListedFile texts file lines × IsUnput out disk after f
    × (new ≡ old))
    ⊎ ((file lines : List ℕ) × IsListedFile texts file lines × IsPut out file disk after
    × Breaks old new lines × (f ≡ Output))

-- the same of the texts in files
pub record SymbolsAreShown (out : Option (Bor (List ℕ))) (paths : List (List ℕ))
    (disk after : DiskState) (old new : SinkState) : Type 0 where
  pub texts : List (List ℕ)
  pub held : AllHold disk.files paths texts
  pub listed : AreListed texts out disk after old new

-- or a file is unread, or there was no memory, no file changed, and nothing was put out
unfoldable pub SymbolsFail : Option (Bor (List ℕ)) → (paths : List (List ℕ)) →
    (disk after : DiskState) → (old new : SinkState) → Failure → Type 0
SymbolsFail out paths disk after old new f =
    (MissesFile disk after paths f × (new ≡ old)) ⊎ ((f ≡ Memory) × (after ≡ disk) × (new ≡ old))
    ⊎ ((texts : List (List ℕ)) × AllHold disk.files paths texts
    × ListingFails texts out disk after old new f)

-- what a disk and the two streams tell at one time
pub record World : Type 0 where
  pub disk : DiskState
  pub out : SinkState
  pub err : SinkState

-- it was done, with this status, and no call of the disk or of standard output failed; but for
-- what is found by a check, and the end of a trace, nothing went to standard error
abbrev pub Done : Command → (old new : World) → (status : ℕ) → Type 0
Done (Build explain out files) old new status =
    (status ≡ 0) × IsBuilt old.disk new.disk (map (λ p. p.now) files.items) out.now
    × (new.out ≡ old.out) × (new.err ≡ old.err)
Done (Run explain limit file words) old new status =
    RunsTo old.disk file.now (map (λ w. w.now) words.items) limit old.out new.out status
    × (new.disk ≡ old.disk) × (new.err ≡ old.err)
Done (Interpret explain limit file words) old new status =
    MeansTo old.disk file.now (map (λ w. w.now) words.items) limit old.out new.out status
    × (new.disk ≡ old.disk) × (new.err ≡ old.err)
Done (Disassemble explain file) old new status =
    (status ≡ 0) × IsDisassembled old.disk file.now old.out new.out
    × (new.disk ≡ old.disk) × (new.err ≡ old.err)
Done (Check files) old new status =
    IsChecked old.disk (map (λ p. p.now) files.items) old.err new.err status
    × (new.disk ≡ old.disk) × (new.out ≡ old.out)
Done (Symbols out files) old new status =
    (status ≡ 0)
    × SymbolsAreShown out (map (λ p. p.now) files.items) old.disk new.disk old.out new.out
    × (new.err ≡ old.err)
Done (Stack files) old new status =
    (status ≡ 0) × AreShown ShowsStack old.disk (map (λ p. p.now) files.items) old.out new.out
    × (new.disk ≡ old.disk) × (new.err ≡ old.err)
Done (Trace limit last files words) old new status =
    IsTraced old.disk (map (λ p. p.now) files.items) (map (λ w. w.now) words.items) limit
    old.out new.out old.err new.err status
    × (new.disk ≡ old.disk)

-- it failed so
abbrev pub Fails : Command → (disk after : DiskState) (old new : SinkState) → Failure → Type 0
Fails (Build explain out files) disk after old new f =
    BuildFails disk after (map (λ p. p.now) files.items) out f × (new ≡ old)
Fails (Run explain limit file words) disk after old new f =
    RunFails disk after file (map (λ w. w.now) words.items) limit old new f
Fails (Interpret explain limit file words) disk after old new f =
    InterpretFails disk after file (map (λ w. w.now) words.items) limit old new f
Fails (Disassemble explain file) disk after old new f = DisassemblyFails disk after file old new f
Fails (Check files) disk after old new f =
    CheckFails disk after (map (λ p. p.now) files.items) f × (new ≡ old)
Fails (Symbols out files) disk after old new f =
    SymbolsFail out (map (λ p. p.now) files.items) disk after old new f
Fails (Stack files) disk after old new f =
    ShowingLinesFails ShowsStack disk after (map (λ p. p.now) files.items) old new f
Fails (Trace limit last files words) disk after old new f =
    TraceFails disk after (map (λ p. p.now) files.items) (map (λ w. w.now) words.items) limit old new
    f

-- the line of this failure went to standard error, or a beginning of it where that failed; and the
-- status is the failure's
abbrev pub Reported : Failure → (before after : SinkState) → (status : ℕ) → Type 0
Reported f before after status = (status ≡ status_of f) × Tells before after (line_of f)

-- whether words behind the line are asked for: by an option, or by a command that says more than it
abbrev pub is_explained : Command → Bool
is_explained (Build explain out files) = explain
is_explained (Run explain limit file words) = explain
is_explained (Interpret explain limit file words) = explain
is_explained (Disassemble explain file) = explain
is_explained (Check files) = true
is_explained (Symbols out files) = true
is_explained (Stack files) = true
is_explained (Trace limit last files words) = true

-- it was reported so; and where words are asked for, some bytes went to standard error behind the line,
-- as far as that took them
unfoldable pub IsExplained : (asked : Bool) → Failure → (before after : SinkState) →
    (status : ℕ) → Type 0
IsExplained false f before after status = Reported f before after status
IsExplained true f before after status =
    (status ≡ status_of f) × ((words : List ℕ) × (between : SinkState)
    × Tells before between (line_of f) × Tells between after words)

-- a text of help went to standard output, or that failed, or there was no memory for the text.
-- Which text it is isn't said
unfoldable pub IsHelp : (old new before after : SinkState) → (status : ℕ) → Type 0
IsHelp old new before after status =
    ((text : List ℕ) × Sends old new text × (status ≡ 0) × (after ≡ before))
    ⊎ ((text : List ℕ) × Breaks old new text × Reported Output before after status)
    ⊎ ((new ≡ old) × Reported Memory before after status)

-- a text that says what is wrong with the words went to standard error, as far as that took it; or
-- there was no memory for the text
unfoldable pub IsMistake : (before after : SinkState) → (status : ℕ) → Type 0
IsMistake before after status =
    ((text : List ℕ) × Tells before after text × (status ≡ 126))
    ⊎ Reported Memory before after status

-- a text of the command line was shown so
abbrev pub IsShown : CommandRefusal → (old new before after : SinkState) → (status : ℕ) → Type 0
IsShown (Help text) old new before after status = IsHelp old new before after status
IsShown (Mistake text) old new before after status = IsMistake before after status × (new ≡ old)
IsShown NoRoom old new before after status = Reported Memory before after status × (new ≡ old)

-- the command that the words ask for was done, with its status; or it failed, and that is reported; or the words ask for none, a text that says so was shown, and
-- no call of the disk failed and no file changed
unfoldable pub Ends : (words : List (List ℕ)) (old new : World) → (status : ℕ) → Type 0
Ends words old new status =
    ((c : Command) × AskFor words c × Done c old new status)
    ⊎ ((c : Command) × (f : Failure) × AskFor words c × Fails c old.disk new.disk old.out new.out f
    × IsExplained (is_explained c) f old.err new.err status)
    ⊎ ((r : CommandRefusal) × SaysWhy words r × IsShown r old.out new.out old.err new.err status
    × (new.disk ≡ old.disk))
