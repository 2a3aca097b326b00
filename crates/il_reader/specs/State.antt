-- How far a text has been read, and which names have appeared.
use Rattle.std.specs.Prelude.{ℕ, suc, List, [], ◌∷◌, if◌then◌else◌, nat_eq}
use Rattle.std.specs.Cmp.Lexicographic.{pointwise}

-- the bytes that are left, the line that they begin on, and the names of the function's temporaries
-- and labels and of the text's globals, each once, in order of first appearance
pub record State : Type 0 where
  pub rest : List ℕ
  pub line : ℕ
  pub temps : List (List ℕ)
  pub labels : List (List ℕ)
  pub symbols : List (List ℕ)

-- at the start of a text
abbrev pub start : List ℕ → State
start bytes = record { rest = bytes; line = 1; temps = []; labels = []; symbols = [] }

-- the place of a name among names, or that behind them where it is new
abbrev pub place : List ℕ → List (List ℕ) → ℕ
place name [] = 0
place name (n ∷ ns) = if pointwise nat_eq n name then 0 else suc (place name ns)

-- the names, and a name that is new behind them
abbrev pub with_name : List ℕ → List (List ℕ) → List (List ℕ)
with_name name [] = name ∷ []
with_name name (n ∷ ns) = if pointwise nat_eq n name then n ∷ ns else n ∷ with_name name ns
