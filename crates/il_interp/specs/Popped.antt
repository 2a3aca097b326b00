-- A pile whose top was taken.
use Rattle.std.specs.Prelude.{◌≡◌, List, [], ◌∷◌, Option, Some, None}
use Rattle.il_interp.specs.declared.state.Frame.{Frame}

-- the top was taken, or nothing from an empty pile
abbrev pub IsPopped : List Frame → Option Frame → List Frame → Type 0
IsPopped old None new = old ≡ []
IsPopped old (Some frame) new = old ≡ frame ∷ new
