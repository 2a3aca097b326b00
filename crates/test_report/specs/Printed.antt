-- The lines of a report, each with its line end.
use Rattle.std.specs.Prelude.{ℕ, Bool, ◌++◌, List, [], codes, nat_lt, if◌then◌else◌, decimal}

-- how many cases there are, and how many of them failed
abbrev pub counts : ℕ → ℕ → List ℕ
counts cases failures = decimal cases ++ codes " cases, " ++ decimal failures ++ codes " failed\n"

-- a group without cases has no line
abbrev pub group_line : List ℕ → ℕ → ℕ → List ℕ
group_line group cases failures =
    if nat_lt 0 cases then group ++ codes ": " ++ counts cases failures else []

-- a check that failed
abbrev pub failure_line : List ℕ → List ℕ → List ℕ → List ℕ → List ℕ
failure_line name what wanted said =
    name ++ (codes ": " ++ (what ++ (codes ": "
    ++ (wanted ++ (codes " is wanted, not " ++ (said ++ codes "\n"))))))

-- no line where all is well
abbrev pub line_unless : Bool → List ℕ → List ℕ
line_unless fact line = if fact then [] else line
