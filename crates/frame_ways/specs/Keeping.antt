-- What it means that code on bytes keeps other code on bytes, and what code with marks is to the code
-- that it was made from.
use Rattle.std.specs.Prelude.{◌≡◌, ℕ, List}
use Rattle.il_ast.specs.declared.value.End.TheVariants.{Exit, Halt, Undefined, Stack, Turns}
use Rattle.il_ast.specs.Prelude.{Entry, Logged}
use Rattle.vcode.specs.declared.place.Location.{Location}
use Rattle.vcode.specs.declared.code.Code.{Code}
use Rattle.vcode.specs.Prelude.{area}
use Rattle.flat_code.specs.Flat.{FlatGiven, FlatAsked, FlatOutcome, FlatReturned, FlatEnded}
use Rattle.flat_code.specs.Step.{flat_begin, flat_step}
use Rattle.frame_ways.specs.declared.mark.Mark.{Mark}
use Rattle.frame_ways.specs.Plans.{IsMarked}

-- it doesn't become undefined
abbrev pub FlatFine : FlatOutcome → Type 0
FlatFine (FlatReturned t x f) = Unit {0}
FlatFine (FlatEnded t (Exit n)) = Unit {0}
FlatFine (FlatEnded t Halt) = Unit {0}
FlatFine (FlatEnded t Undefined) = ⊥
FlatFine (FlatEnded t Stack) = Unit {0}
FlatFine (FlatEnded t Turns) = Unit {0}

-- whatever calls are made and however they go: where f runs as o, so does g, with the same calls
abbrev pub KeepsBytes : (f g : Code Location) → Type 0
KeepsBytes f g =
    (addresses : List ℕ) (base : ℕ) (j : FlatGiven) (log : List (Entry FlatAsked FlatOutcome))
    (o : FlatOutcome)
    → FlatFine o → (n : ℕ)
    → Logged (flat_step f addresses base j) n (flat_begin f base j) log o
    → (m : ℕ) × Logged (flat_step g addresses base j) m (flat_begin g base j) log o

-- g has marks, and runs as f does
pub record IsMarkedOf (f : Code Location) (slots : ℕ) (g : Code Location) (marks : List Mark) :
    Type 0 where
  pub marked : IsMarked g slots marks
  pub params : g.params ≡ f.params
  pub result : g.result ≡ f.result
  pub area : area g ≡ area f
  pub keeps : KeepsBytes f g
