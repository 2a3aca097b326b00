-- How far the tokens of a text have been read.
use Rattle.std.specs.Prelude.{ℕ, List, drop}

-- a text, and how many of its bytes have been read
pub record Place : Type 0 where
  pub text : List ℕ
  pub at : ℕ

-- what is still to be read
abbrev pub left : Place → List ℕ
left place = drop place.at place.text
