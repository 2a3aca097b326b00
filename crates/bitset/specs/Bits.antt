-- A set of numbers below a length, as words of 64 bits: the number i is in it where bit i % 64 of
-- word i / 64 is set.
use Rattle.std.specs.Prelude.{◌≡◌, ℕ, ◌+◌, ◌/◌, ◌%◌, ◌<◌, Bool, true, false, ◌==◌, List, length, slice_index}
use Rattle.std.specs.Int.{bit_at}

pub record Bits : Type 0 where
  pub length : ℕ
  pub words : List ℕ

-- whether bit i of the words is set, 64 in each
unfoldable pub is_set : List ℕ → ℕ → Bool
is_set words i = bit_at (slice_index words (i / 64)) (i % 64) == 1

-- whether i is in the set
abbrev pub is_member : Bits → ℕ → Bool
is_member s i = is_set s.words i

-- what every set keeps: a word for each 64 numbers, and none of the length or above in it
pub record IsBits (s : Bits) : Type 0 where
  pub sized : length s.words ≡ (s.length + 63) / 64
  pub below : (i : ℕ) → is_member s i ≡ true → i < s.length

-- a number that is in the new set and was not in the old one
pub record Grew (old new : List ℕ) : Type 0 where
  pub number : ℕ
  pub was_out : is_set old number ≡ false
  pub is_in : is_set new number ≡ true

-- both have the same numbers
abbrev pub SameMembers : (old new : List ℕ) → Type 0
SameMembers old new = (i : ℕ) → is_set new i ≡ is_set old i
