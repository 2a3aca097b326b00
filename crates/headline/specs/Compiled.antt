-- What the words that are made for a function owe, and what the executable of a program whose
-- functions have such words does.
use Rattle.std.specs.Prelude.{ℕ, ◌≤◌, IsTrue, List, [], ◌∷◌, length}
use Rattle.il_ast.specs.declared.limits.TheConstants.{WORDS, WORD_BYTES}
use Rattle.il_ast.specs.declared.function.Func.{Func}
use Rattle.il_ast.specs.declared.program.InText.{InText}
use Rattle.il_ast.specs.declared.program.Program.{Program}
use Rattle.il_ast.specs.Prelude.{need, IsCodeOf}
use Rattle.vcode.specs.declared.place.Location.{Location}
use Rattle.vcode.specs.declared.code.Code.{Code}
use Rattle.vcode.specs.Prelude.{coded, located}
use Rattle.flat_code.specs.Laws.{FlatKept}
use Rattle.abi_frames.specs.Functions.{IsFrameOf}
use Rattle.abi_frames.specs.Performs.{frame_bound}
use Rattle.rv_isa.specs.declared.labelled.Item.{Item}
use Rattle.rv_isa.specs.Prelude.{LaysOut, Words, State, word_bytes}
use Rattle.obj_link.specs.Prelude.{IsImage, contents_of, calls_reach, FitsBelow, EveryCode}
use Rattle.elf_file.specs.Conditions.{Executable, Stands}
use Rattle.rv_machine.specs.Starts.{Starts}
use Rattle.headline.specs.Executables.{IsCodeIn, NamesAreThere}
use Rattle.headline.specs.Headline.{Executes}

-- Words that stand for a function: they are the layout of labelled code that performs what location
-- code, which is the function's, runs on bytes; and its frame takes at most the stack that a call of
-- the function is counted for.
pub record StandFor (f : Func) (c : Words) : Type 0 where
  pub code : Code Location
  pub slots : ℕ
  pub items : List Item
  pub is : IsCodeOf f (coded located code)
  pub fits : frame_bound code slots ≤ need f
  pub bytes : FlatKept code
  pub machine : IsFrameOf code slots items
  pub laid : LaysOut items c.words c.holes

-- one for each function, in order
abbrev pub EachStands : List Words → List (InText Func) → Type 0
EachStands [] [] = Unit {0}
EachStands [] (f ∷ fs) = ⊥
EachStands (c ∷ codes) [] = ⊥
EachStands (c ∷ codes) (f ∷ fs) = StandFor f.item c × EachStands codes fs

-- Words that stand in for a function of a program: they are the layout of labelled code that
-- performs what location code, which is the function's in this program, runs on bytes; and its frame
-- takes at most the stack that a call of the function is counted for.
pub record StandIn (p : Program) (f : InText Func) (c : Words) : Type 0 where
  pub code : Code Location
  pub slots : ℕ
  pub items : List Item
  pub is : IsCodeIn p f (coded located code)
  pub fits : frame_bound code slots ≤ need f.item
  pub bytes : FlatKept code
  pub machine : IsFrameOf code slots items
  pub laid : LaysOut items c.words c.holes

-- one for each function, in order
abbrev pub EachStandsIn : Program → List Words → List (InText Func) → Type 0
EachStandsIn p [] [] = Unit {0}
EachStandsIn p [] (f ∷ fs) = ⊥
EachStandsIn p (c ∷ codes) [] = ⊥
EachStandsIn p (c ∷ codes) (f ∷ fs) = StandIn p f c × EachStandsIn p codes fs

-- words that stand for a function stand in for it in every program
abbrev pub StandsIn : Type 0
StandsIn = (p : Program) (f : InText Func) (c : Words) → StandFor f.item c → StandIn p f c

-- From every start of the program's executable, with words within their limits, the machine
-- executes the program, where words stand in for each of its functions and their calls reach. It needn't be a program of
-- texts: its functions may be any that the words stand in for.
abbrev pub ReplacedRuns : Type 0
ReplacedRuns =
    (p : Program) (codes : List Words) (x : Executable) (words : List (List ℕ)) (s : State)
    → NamesAreThere p
    → EachStandsIn p codes p.functions
    → EveryCode codes
    → FitsBelow p codes
    → IsTrue (calls_reach p codes)
    → IsImage (contents_of p codes)
    → Stands (contents_of p codes) x
    → Starts x words s
    → length words ≤ WORDS
    → length (word_bytes words) ≤ WORD_BYTES
    → Executes p words s

-- so too where words stand for each function
abbrev pub CompiledRuns : Type 0
CompiledRuns =
    (p : Program) (codes : List Words) (x : Executable) (words : List (List ℕ)) (s : State)
    → NamesAreThere p
    → EachStands codes p.functions
    → EveryCode codes
    → FitsBelow p codes
    → IsTrue (calls_reach p codes)
    → IsImage (contents_of p codes)
    → Stands (contents_of p codes) x
    → Starts x words s
    → length words ≤ WORDS
    → length (word_bytes words) ≤ WORD_BYTES
    → Executes p words s
