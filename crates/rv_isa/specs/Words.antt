-- The words of a function, and the places in them that wait for addresses.
use Rattle.std.specs.Prelude.{ℕ, ◌+◌, ◌^◌, ◌<◌, Bool, ◌&&◌, nat_le, IsTrue, List, [], ◌∷◌, length, slice_index}
use Rattle.rv_isa.specs.Types.{Hole}

pub record Words : Type 0 where
  pub words : List ℕ
  pub holes : List Hole

-- holes of a word each, in order and apart, between two numbers of words
abbrev pub lie_between : (from end : ℕ) → List Hole → Bool
lie_between from end [] = nat_le from end
lie_between from end (h ∷ holes) = nat_le from h.word && lie_between (h.word + 1) end holes

-- what the words of a function keep
pub record IsCode (c : Words) : Type 0 where
  -- there is one at least, so that no two functions stand at one address
  pub has_words : 0 < length c.words
  pub words : (k : ℕ) → slice_index c.words k < 2 ^ 32
  pub holes : IsTrue (lie_between 0 (length c.words) c.holes)
