-- The union of two lists of words, on a part of them.
use Rattle.std.specs.Prelude.{◌≡◌, ◌≢◌, ℕ, ◌<◌, ◌≤◌, Bool, List, length, slice_index, bit_or, bit_and, MatchBool}
use Rattle.std.specs.Int.{bit_not, w64}

-- the words from `from` up to `to` are joined to those of `other`; the rest stay
pub record UnionIn (from to : ℕ) (other old new : List ℕ) : Type 0 where
  pub same_length : length new ≡ length old
  pub inside : (k : ℕ) → from ≤ k → k < to → slice_index new k
      ≡ bit_or (slice_index old k) (slice_index other k)
  pub below : (k : ℕ) → k < from → slice_index new k ≡ slice_index old k
  pub above : (k : ℕ) → to ≤ k → slice_index new k ≡ slice_index old k

-- whether one of the words from `from` up to `to` changed
abbrev pub ChangedIn : (from to : ℕ) → (old new : List ℕ) → Bool → Type 0
ChangedIn from to old new changed =
    MatchBool changed ((k : ℕ) × (from ≤ k) × (k < to) × (slice_index new k ≢ slice_index old k)) (
    (k : ℕ) → from ≤ k → k < to → slice_index new k ≡ slice_index old k
    )

-- the numbers of `other` are taken out of the first `upto` words; the rest stay
pub record MinusBelow (upto : ℕ) (other old new : List ℕ) : Type 0 where
  pub same_length : length new ≡ length old
  pub inside : (k : ℕ) → k < upto → slice_index new k
      ≡ bit_and (slice_index old k) (bit_not w64 (slice_index other k))
  pub above : (k : ℕ) → upto ≤ k → slice_index new k ≡ slice_index old k
