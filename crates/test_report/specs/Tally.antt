-- What checks do to the counts of a report. A count stops at the greatest number of its type.
use Rattle.std.specs.Prelude.{ℕ, ◌+◌, ◌-◌, ◌^◌, ◌&&◌, min, Bool, if◌then◌else◌, bytes_eq, string_bytes}
use Rattle.test_report.specs.declared.told.Told.{Told}

abbrev pub capped_sum : ℕ → ℕ → ℕ
capped_sum m n = min (m + n) (2 ^ 64 - 1)

abbrev pub one_more : ℕ → ℕ
one_more n = capped_sum n 1

-- a case that was well until now is one more that failed; another has been counted
abbrev pub with_failure : Bool → ℕ → ℕ
with_failure is_well failures = if is_well then one_more failures else failures

-- after the check of a fact
abbrev pub after_check : Bool → Bool → ℕ → ℕ
after_check fact is_well failures = if fact then failures else with_failure is_well failures

-- two runs that ended alike, with the same output
abbrev pub is_same : Told → Told → Bool
is_same a b =
    bytes_eq (string_bytes a.end) (string_bytes b.end) && bytes_eq a.output.items b.output.items
