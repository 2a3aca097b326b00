-- What runs put out, while they run: all of it went out, or a beginning of it.
use Rattle.std.specs.Prelude.{◌≡◌, ℕ, true, List, ◌≤◌, ◌⊎◌, Bool, Result, Ok, Err}
use Rattle.il_ast.specs.declared.program.Program.{Program}
use Rattle.il_ast.specs.declared.value.End.{End}
use Rattle.il_ast.specs.Prelude.{meaning, Behaviour}
use Rattle.elf_file.specs.Conditions.{Loads, Executable}
use Rattle.obj_link.specs.Prelude.{are_arguments}
use Rattle.rv_machine.specs.declared.stop.Stop.{Stop}
use Rattle.rv_machine.specs.Steps.{RunEnds, start_state}
use Rattle.qbec.specs.Refusals.{AreProgram}
use Rattle.rv_isa.specs.Prelude.{State}
use Rattle.il_ast.specs.declared.value.End.TheVariants.{Turns, Exit as Ends, Halt as Halts, Undefined as IsUndefined, Stack as NoRoom}
use Rattle.il_interp.specs.declared.error.RunError.{RunError}
use Rattle.il_interp.specs.declared.error.RunError.TheVariants.{Memory as NotRun}
use Rattle.il_interp.specs.Begun.{Refuses as RefusesWords}
use Rattle.shell.specs.Sink.{SinkState, Sends, Breaks}
use Rattle.commands.specs.declared.failure.Failure.{Failure}
use Rattle.commands.specs.declared.failure.Failure.TheVariants.{Refused, Output, Halt, Limit, Fault, Undefined, Stack, Memory}
use Rattle.commands.specs.Refusals.{run_refusal, FileIsRefused, TextsAreRefused}
use Rattle.rv_isa.specs.declared.fault.Fault.{Fault as MachineFault}
use Rattle.rv_isa.specs.declared.fault.Fault.TheVariants.{UnknownInstruction, Fetch, Load, Store, SystemCall}
use Rattle.rv_machine.specs.declared.stop.Stop.TheVariants.{Exit as Exits, Break, Limit as NotStopped, Memory as NoMemory, Fault as Faults}

-- ---- what runs of files and of texts answer

-- the bytes load as a file, which the machine runs so, from its start with these words, which are
-- within their limits; or it stops for want of memory
pub record RunsFile (bytes : List ℕ) (words : List (List ℕ)) (limit : ℕ) (output : List ℕ)
    (stop : Stop) : Type 0 where
  pub file : Executable
  pub loads : Loads bytes file
  pub fit : are_arguments words ≡ true
  pub ends : RunEnds true limit (start_state file words) output stop

-- the texts are a program, which with these words, within their limits, means this output and this
-- end
pub record TextsMean (texts words : List (List ℕ)) (turns : ℕ) (output : List ℕ) (ending : End) : Type 0 where
  pub program : Program
  pub is : AreProgram texts program
  pub fit : are_arguments words ≡ true
  pub means : meaning program words turns ≡ record { output = output; ending = ending }

-- ---- the machine

-- a run of at most so many instructions from a state ended so, and what it put out went out
pub record RunSends (refuses : Bool) (limit : ℕ) (s : State) (old new : SinkState) (stop : Stop) : Type 0 where
  pub output : List ℕ
  pub ends : RunEnds refuses limit s output stop
  pub sent : Sends old new output

-- it ends so, but a beginning of what it puts out went out, and then the sink failed
pub record RunBreaks (refuses : Bool) (limit : ℕ) (s : State) (old new : SinkState) : Type 0 where
  pub output : List ℕ
  pub stop : Stop
  pub ends : RunEnds refuses limit s output stop
  pub broke : Breaks old new output

-- the same of a file's bytes
pub record FileSends (bytes : List ℕ) (words : List (List ℕ)) (limit : ℕ) (old new : SinkState)
    (stop : Stop) : Type 0 where
  pub output : List ℕ
  pub runs : RunsFile bytes words limit output stop
  pub sent : Sends old new output

pub record FileBreaks (bytes : List ℕ) (words : List (List ℕ)) (limit : ℕ) (old new : SinkState) : Type 0 where
  pub output : List ℕ
  pub stop : Stop
  pub runs : RunsFile bytes words limit output stop
  pub broke : Breaks old new output

-- ---- the interpreter: what comes in so many turns is a function of their number

-- what comes in these turns went out, and ends so
pub record Sent (whole : ℕ → Behaviour) (turns : ℕ) (old new : SinkState) (ending : End) : Type 0 where
  pub output : List ℕ
  pub is : whole turns ≡ record { output = output; ending = ending }
  pub sent : Sends old new output

-- a beginning of it went out, and then the sink failed
pub record Broken (whole : ℕ → Behaviour) (turns : ℕ) (old new : SinkState) : Type 0 where
  pub output : List ℕ
  pub ending : End
  pub is : whole turns ≡ record { output = output; ending = ending }
  pub broke : Breaks old new output

-- what comes in some of these turns went out, and then memory was refused
pub record CutOff (whole : ℕ → Behaviour) (turns : ℕ) (old new : SinkState) : Type 0 where
  pub count : ℕ
  pub output : List ℕ
  pub below : count ≤ turns
  pub is : whole count ≡ record { output = output; ending = Turns }
  pub sent : Sends old new output

-- the failure that the interpreter's want of memory is
abbrev pub not_run : Failure
not_run = Refused (run_refusal NotRun)

abbrev pub SendingFails : (whole : ℕ → Behaviour) (turns : ℕ) (old new : SinkState) → Failure → Type 0
SendingFails whole turns old new f =
    (Broken whole turns old new × (f ≡ Output)) ⊎ (CutOff whole turns old new × (f ≡ not_run))

-- ---- the same of texts

pub record TextsSend (texts words : List (List ℕ)) (turns : ℕ) (old new : SinkState) (ending : End) : Type 0 where
  pub output : List ℕ
  pub means : TextsMean texts words turns output ending
  pub sent : Sends old new output

pub record TextsBreak (texts words : List (List ℕ)) (turns : ℕ) (old new : SinkState) : Type 0 where
  pub output : List ℕ
  pub ending : End
  pub means : TextsMean texts words turns output ending
  pub broke : Breaks old new output

pub record TextsCutOff (texts words : List (List ℕ)) (turns : ℕ) (old new : SinkState) : Type 0 where
  pub count : ℕ
  pub output : List ℕ
  pub below : count ≤ turns
  pub means : TextsMean texts words count output Turns
  pub sent : Sends old new output

-- ---- failures, with what went out before

-- the file or the words are refused, or there was no memory for the machine, and nothing went out;
-- or a beginning of what it puts out went out
unfoldable pub FileFails : (bytes : List ℕ) (words : List (List ℕ)) (limit : ℕ) (old new : SinkState) → Failure → Type 0
FileFails bytes words limit old new f =
    (FileIsRefused bytes words f × (new ≡ old)) ⊎ (FileBreaks bytes words limit old new × (f ≡ Output))

-- the words of a program are refused, or memory for its begin was, and nothing went out; or the
-- words are within their limits, and the failure is one of the run
abbrev pub LinkedFails : (whole : ℕ → Behaviour) (words : List (List ℕ)) (turns : ℕ) (old new : SinkState) → Failure → Type 0
LinkedFails whole words turns old new f =
    ((e : RunError) × RefusesWords e words × (f ≡ Refused (run_refusal e)) × (new ≡ old))
    ⊎ ((are_arguments words ≡ true) × SendingFails whole turns old new f)

unfoldable pub TextsFail : (texts words : List (List ℕ)) (turns : ℕ) (old new : SinkState) → Failure → Type 0
TextsFail texts words turns old new f =
    (TextsAreRefused texts words f × (new ≡ old)) ⊎ (TextsBreak texts words turns old new × (f ≡ Output))
    ⊎ (TextsCutOff texts words turns old new × (f ≡ not_run))

-- ---- exit statuses

-- 128 and SIGABRT for a halt, 124 as timeout(1) answers, 125 for what the program did wrong, and
-- 126 for what was not run
abbrev pub status_of : Failure → ℕ
status_of Halt = 134
status_of Limit = 124
status_of (Fault number pc) = 125
status_of Undefined = 125
status_of Stack = 125
status_of _ = 126

abbrev pub fault_number : MachineFault → ℕ
fault_number UnknownInstruction = 1
fault_number Fetch = 2
fault_number Load = 3
fault_number Store = 4
fault_number SystemCall = 5

-- how a run of the machine ended: its exit status, or a failure
abbrev pub stop_status : Stop → Result ℕ Failure
stop_status (Exits status) = Ok status
stop_status Break = Err Halt
stop_status NotStopped = Err Limit
stop_status NoMemory = Err Memory
stop_status (Faults fault pc) = Err (Fault (fault_number fault) pc)

-- how a run of the interpreter ended
abbrev pub end_status : End → Result ℕ Failure
end_status (Ends status) = Ok status
end_status Halts = Err Halt
end_status IsUndefined = Err Undefined
end_status NoRoom = Err Stack
end_status Turns = Err Limit
