-- The lines on standard error, byte by byte.
use Rattle.std.specs.Prelude.{ℕ, [], ◌∷◌, List, codes, decimal, ◌≡◌}
use Rattle.std.specs.List.{concat}
use Rattle.elf_file.specs.declared.error.LoadError.{LoadError}
use Rattle.elf_file.specs.declared.error.LoadError.TheVariants.{CutOff, OtherKind, OutOfRange, Misplaced, BadEntry, Memory as NotLoaded}
use Rattle.shell.specs.Digits.{sixteen_digits}
use Rattle.commands.specs.declared.refusal.Refusal.{Refusal}
use Rattle.commands.specs.declared.refusal.Refusal.TheVariants.{Syntax, Rule, UnknownName, ExportedTwice, NoMain, Limit as TooMuch, Memory as NotCompiled, Words, File}
use Rattle.commands.specs.declared.failure.Failure.{Failure}
use Rattle.commands.specs.declared.failure.Failure.TheVariants.{Halt, Limit, Fault, Undefined, Stack, Memory, Refused, Unread, Unwritten, Output}
use Rattle.std.specs.Borrow.{Bor}

-- ---- lines, each with its line end, part by part

abbrev pub file_number : LoadError → List ℕ
file_number CutOff = codes "L1"
file_number OtherKind = codes "L2"
file_number OutOfRange = codes "L3"
file_number Misplaced = codes "L4"
file_number BadEntry = codes "L5"
file_number NotLoaded = codes "L6"

abbrev pub refusal_parts : Refusal → List (List ℕ)
refusal_parts (Syntax text line) =
    codes "qbec: refused E1 text " ∷ decimal text ∷ codes " line " ∷ decimal line ∷ codes "\n" ∷ []
refusal_parts (Rule rule text line) =
    codes "qbec: refused E2 C" ∷ decimal rule ∷ codes " text " ∷ decimal text ∷ codes " line "
    ∷ decimal line ∷ codes "\n" ∷ []
refusal_parts (UnknownName name) = codes "qbec: refused E3 $" ∷ name.items ∷ codes "\n" ∷ []
refusal_parts (ExportedTwice name) = codes "qbec: refused E4 $" ∷ name.items ∷ codes "\n" ∷ []
refusal_parts NoMain = codes "qbec: refused E5\n" ∷ []
refusal_parts TooMuch = codes "qbec: refused E6\n" ∷ []
refusal_parts NotCompiled = codes "qbec: refused E7\n" ∷ []
refusal_parts Words = codes "qbec: refused E8\n" ∷ []
refusal_parts (File error) = codes "qbec: refused " ∷ file_number error ∷ codes "\n" ∷ []

abbrev pub parts_of : Failure → List (List ℕ)
parts_of Halt = codes "qbec: halt\n" ∷ []
parts_of Limit = codes "qbec: limit\n" ∷ []
parts_of (Fault number pc) =
    codes "qbec: fault F" ∷ decimal number ∷ codes " at " ∷ sixteen_digits pc ∷ codes "\n" ∷ []
parts_of Undefined = codes "qbec: undefined\n" ∷ []
parts_of Stack = codes "qbec: stack\n" ∷ []
parts_of Memory = codes "qbec: memory\n" ∷ []
parts_of (Refused refusal) = refusal_parts refusal
parts_of (Unread path) = codes "qbec: cannot read " ∷ path.now ∷ codes "\n" ∷ []
parts_of (Unwritten path) = codes "qbec: cannot write " ∷ path.now ∷ codes "\n" ∷ []
parts_of Output = codes "qbec: cannot write standard output\n" ∷ []

-- the line of a failure
abbrev pub line_of : Failure → List ℕ
line_of failure = concat (parts_of failure)

-- ---- the lines of some failures
pub record Examples : Type 0 where
  pub halt : line_of Halt ≡ codes "qbec: halt\n"
  pub limit : line_of Limit ≡ codes "qbec: limit\n"
  pub first_fault : line_of (Fault 1 0x10000) ≡ codes "qbec: fault F1 at 0000000000010000\n"
  pub last_fault : line_of (Fault 5 0xfedcba9876543210)
      ≡ codes "qbec: fault F5 at fedcba9876543210\n"
  pub undefined : line_of Undefined ≡ codes "qbec: undefined\n"
  pub stack : line_of Stack ≡ codes "qbec: stack\n"
  pub memory : line_of Memory ≡ codes "qbec: memory\n"
  pub syntax : line_of (Refused (Syntax 1 4)) ≡ codes "qbec: refused E1 text 1 line 4\n"
  pub rule : line_of (Refused (Rule 8 1 7)) ≡ codes "qbec: refused E2 C8 text 1 line 7\n"
  pub long_numbers : line_of (Refused (Rule 13 256 16777217))
      ≡ codes "qbec: refused E2 C13 text 256 line 16777217\n"
  pub no_main : line_of (Refused NoMain) ≡ codes "qbec: refused E5\n"
  pub too_much : line_of (Refused TooMuch) ≡ codes "qbec: refused E6\n"
  pub not_compiled : line_of (Refused NotCompiled) ≡ codes "qbec: refused E7\n"
  pub words : line_of (Refused Words) ≡ codes "qbec: refused E8\n"
  pub cut_off : line_of (Refused (File CutOff)) ≡ codes "qbec: refused L1\n"
  pub not_loaded : line_of (Refused (File NotLoaded)) ≡ codes "qbec: refused L6\n"
  pub unread : (path : Bor (List ℕ)) → path.now ≡ codes "a.ssa" →
      line_of (Unread path) ≡ codes "qbec: cannot read a.ssa\n"
  pub unwritten : (path : Bor (List ℕ)) → path.now ≡ codes "a" →
      line_of (Unwritten path) ≡ codes "qbec: cannot write a\n"
  pub output : line_of Output ≡ codes "qbec: cannot write standard output\n"
