-- Where the block of each label stands, in a table.
use Rattle.std.specs.Prelude.{ℕ, List, slice_get, Option}
use Rattle.std.specs.Option.{option_flatten}

-- a table of places, by label
abbrev pub place_in : List (Option ℕ) → ℕ → Option ℕ
place_in table l = option_flatten (slice_get table l)
