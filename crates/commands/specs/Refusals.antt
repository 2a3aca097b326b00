-- Which failure each refusal becomes, and what a failure says of a file or of a text.
use Rattle.std.specs.Prelude.{◌≡◌, ◌⊎◌, ℕ, false, List}
use Rattle.il_ast.specs.declared.program.Program.{Program}
use Rattle.il_types.specs.Prelude.{rule_number}
use Rattle.il_interp.specs.declared.error.RunError.{RunError}
use Rattle.il_interp.specs.declared.error.RunError.TheVariants.{Words as WordsRefused, Memory as NotRun}
use Rattle.il_interp.specs.Begun.{Refuses as RefusesWords}
use Rattle.elf_file.specs.Conditions.{Loads, Executable, Refuses as RefusesFile}
use Rattle.obj_link.specs.Prelude.{are_arguments}
use Rattle.rv_machine.specs.declared.start.StartError.{StartError}
use Rattle.rv_machine.specs.declared.start.StartError.TheVariants.{Arguments, Memory as NotStarted}
use Rattle.qbec.specs.declared.error.CompileError.{CompileError}
use Rattle.qbec.specs.declared.error.CompileError.TheVariants.{Syntax as NoText, Rule as Broken, UnknownName as Unknown, ExportedTwice as Twice, NoMain as NotMain, Limit as TooMuch, Memory as NotCompiled}
use Rattle.qbec.specs.Refusals.{AreProgram, Refuses as RefusesTexts}
use Rattle.commands.specs.declared.refusal.Refusal.{Refusal}
use Rattle.commands.specs.declared.refusal.Refusal.TheVariants.{Syntax, Rule, UnknownName, ExportedTwice, NoMain, Limit, Memory, Words, File}
use Rattle.commands.specs.declared.failure.Failure.{Failure}
use Rattle.commands.specs.declared.failure.Failure.TheVariants.{Memory as WantsMemory, Refused}

-- ---- which refusal it is

abbrev pub compile_refusal : CompileError → Refusal
compile_refusal (NoText text line) = Syntax text line
compile_refusal (Broken text fault) = Rule (rule_number fault.rule) text fault.line
compile_refusal (Unknown name) = UnknownName name
compile_refusal (Twice name) = ExportedTwice name
compile_refusal NotMain = NoMain
compile_refusal TooMuch = Limit
compile_refusal NotCompiled = Memory

-- the words of a program that is interpreted
abbrev pub run_refusal : RunError → Refusal
run_refusal WordsRefused = Words
run_refusal NotRun = Memory

-- the machine's memory is the command's
abbrev pub start_failure : StartError → Failure
start_failure Arguments = Refused Words
start_failure NotStarted = WantsMemory

-- ---- what it says

-- of a file that was not run: it is none, or the words pass a limit, or there was no memory for the
-- machine
abbrev pub FileIsRefused : List ℕ → (words : List (List ℕ)) → Failure → Type 0
FileIsRefused bytes words (Refused (File e)) = RefusesFile e bytes
FileIsRefused bytes words (Refused Words) =
    (x : Executable) × Loads bytes x × (are_arguments words ≡ false)
FileIsRefused bytes words WantsMemory = (x : Executable) × Loads bytes x
FileIsRefused bytes words f = ⊥

-- of texts that were not interpreted: they are refused as compiling them is, or they are a program
-- and the words are refused
unfoldable pub TextsAreRefused : (texts words : List (List ℕ)) → Failure → Type 0
TextsAreRefused texts words f =
    ((e : CompileError) × RefusesTexts e texts × (f ≡ Refused (compile_refusal e)))
    ⊎ ((e : RunError) × (p : Program) × AreProgram texts p × RefusesWords e words
    × (f ≡ Refused (run_refusal e)))
