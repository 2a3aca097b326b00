-- All that is known stays true over a tick.
use Rattle.std.proofs.Common.{◌≡◌, ℕ, Bool, List, [], ◌∷◌, refl, ap, filter}
use Rattle.vcode.specs.declared.line.Line.TheVariants.{Tick}
use Rattle.value_numbering.specs.declared.fact.Fact.{Fact}
use Rattle.value_numbering.specs.Known.{stays}

pub all_stay : (turn : Bool) (weight : ℕ) (facts : List Fact) → facts ≡ filter (stays (Tick turn weight)) facts
all_stay turn weight [] = refl
all_stay turn weight (f ∷ fs) = ap (λ (rest : List Fact). f ∷ rest) (all_stay turn weight fs)
