-- The first place of a list that breaks a rule.
use Rattle.std.specs.Prelude.{ℕ, Bool, if◌then◌else◌, List, [], ◌∷◌, Option, Some, None}

-- the line, where the rule is broken there
abbrev pub when : Bool → ℕ → Option ℕ
when broken line = if broken then Some line else None

abbrev pub or_else : Option ℕ → Option ℕ → Option ℕ
or_else None other = other
or_else (Some line) other = Some line

-- what f gives for the first element that it gives something for
abbrev pub first : {X : Type 0} → (X → Option ℕ) → List X → Option ℕ
first f [] = None
first f (x ∷ xs) = or_else (f x) (first f xs)
