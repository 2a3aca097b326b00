-- How often numbers are named, as far as it matters.
use Rattle.std.specs.Prelude.{◌≡◌, ℕ, zero, suc, Bool, true, false, nat_eq, List, slice_index_or, count_by}
use Rattle.il_types.specs.declared.tally.Often.{Often}
use Rattle.il_types.specs.declared.tally.Often.TheVariants.{Never, Once, Again}

-- a number past the end is never named
abbrev pub named : List Often → ℕ → Often
named tally n = slice_index_or tally n Never

abbrev pub NothingNamed : List Often → Type 0
NothingNamed tally = (n : ℕ) → named tally n ≡ Never

abbrev pub once_more : Often → Often
once_more Never = Once
once_more Once = Again
once_more Again = Again

abbrev pub often : ℕ → Often
often zero = Never
often (suc n) = once_more (often n)

abbrev pub is_never : Often → Bool
is_never Never = true
is_never Once = false
is_never Again = false

abbrev pub is_once : Often → Bool
is_once Never = false
is_once Once = true
is_once Again = false

abbrev pub is_again : Often → Bool
is_again Never = false
is_again Once = false
is_again Again = true

abbrev pub times_in : ℕ → List ℕ → ℕ
times_in n numbers = count_by (λ m. nat_eq m n) numbers
