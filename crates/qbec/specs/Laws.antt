-- The laws of programs as bytes.
use Rattle.std.specs.Prelude.{◌≡◌, ℕ, ◌<◌, ◌^◌, Bool, true, List, Some}
use Rattle.il_ast.specs.declared.program.Program.{Program}
use Rattle.obj_link.specs.Prelude.{are_arguments}
use Rattle.elf_file.specs.Conditions.{Loads, Executable, IsExecutable, byte_in}
use Rattle.rv_machine.specs.Steps.{RunEnds, start_state, AreTexts as AreWordBytes}
use Rattle.rv_machine.specs.declared.stop.Stop.{Stop}
use Rattle.headline.specs.Answered.{Answers}
use Rattle.qbec.specs.Refusals.{IsCompiled, AreProgram, Refuses}
use Rattle.qbec.specs.declared.error.CompileError.{CompileError}
use Rattle.qbec.specs.declared.error.CompileError.TheVariants.{Memory}

-- texts are at most one program
abbrev pub AtMostOneProgram : Type 0
AtMostOneProgram =
    (texts : List (List ℕ)) (p q : Program) → AreProgram texts p → AreProgram texts q → p ≡ q

-- what a refusal says is true of no program, unless memory was refused
abbrev pub RefusalsAreOfNoProgram : Type 0
RefusalsAreOfNoProgram =
    (texts : List (List ℕ)) (p : Program) (e : CompileError) → AreProgram texts p →
    Refuses e texts → e ≡ Memory

-- what reading a file answers: what it loads as, in numbers of 64 bits and bytes
pub record IsRead (file : List ℕ) (x : Executable) : Type 0 where
  pub loads : Loads file x
  pub keeps : IsExecutable x
  pub entry : x.entry < 2 ^ 64
  pub bytes : (a b : ℕ) → byte_in x a ≡ Some b → b < 256

-- the run answers what the program means that the texts are
pub record AnswersFor (texts words : List (List ℕ)) (limit : ℕ) (output : List ℕ) (stop : Stop) : Type 0
  where
    pub program : Program
    pub are : AreProgram texts program
    pub answers : Answers program words limit output stop

-- A file that compiling answered, read, started with words within their limits and run for at most
-- so many instructions, answers what the program means that the texts are.
abbrev pub CompiledFilesAnswer : Type 0
CompiledFilesAnswer =
    (texts : List (List ℕ)) (file : List ℕ) (x : Executable) (words : List (List ℕ))
    (refuses : Bool) (limit : ℕ) (output : List ℕ) (stop : Stop)
    → IsCompiled texts file
    → IsRead file x
    → are_arguments words ≡ true
    → AreWordBytes words
    → RunEnds refuses limit (start_state x words) output stop
    → AnswersFor texts words limit output stop
