-- Rules of a grammar: what is read from one state on, and the state afterwards.
use Rattle.std.specs.Prelude.{◌≡◌, ◌⊎◌, ℕ, ◌+◌, List, [], ◌∷◌, Option, Some, None}
use Rattle.il_lex.specs.declared.kind.Symbol.{Symbol as Mark}
use Rattle.il_lex.specs.declared.kind.Kind.{Kind}
use Rattle.il_lex.specs.declared.kind.Kind.TheVariants.{Symbol, Newline, Word, Global, Temp, Label, Natural, Negative, Quoted}
use Rattle.il_lex.specs.Next.{IsNext, line_ends}
use Rattle.il_lex.specs.Quoted.{IsString}
use Rattle.il_reader.specs.State.{State, place, with_name}

abbrev pub Rule : Type 0 → Type 1
Rule A = State → A → State → Type 0

infixl 10 ◌>>=◌ ◌>>◌
infixr 20 ◌∥◌
-- one rule, then one that may speak of what the first read
abbrev pub ◌>>=◌ : {A B : Type 0} → Rule A → (A → Rule B) → Rule B
◌>>=◌ {A} p f s y s' = (x : A) × (m : State) × p s x m × f x m y s'

abbrev pub ◌>>◌ : {A B : Type 0} → Rule A → Rule B → Rule B
p >> q = p >>= λ _. q

-- nothing is read
abbrev pub give : {A : Type 0} → A → Rule A
give x s y s' = (y ≡ x) × (s' ≡ s)

-- one of two rules
abbrev pub ◌∥◌ : {A : Type 0} → Rule A → Rule A → Rule A
◌∥◌ p q s x s' = p s x s' ⊎ q s x s'

-- a rule or nothing
abbrev pub maybe : {A : Type 0} → Rule A → Rule (Option A)
maybe p s None s' = s' ≡ s
maybe p s (Some x) s' = p s x s'

-- a rule any number of times
abbrev pub many : {A : Type 0} → Rule A → Rule (List A)
many p s [] s' = s' ≡ s
many p s (x ∷ xs) s' = (m : State) × p s x m × many p m xs s'

-- a rule at least once
abbrev pub some : {A : Type 0} → Rule A → Rule (List A)
some p = do
  x ← p
  xs ← many p
  give (x ∷ xs)

-- a rule, then another that says nothing
abbrev pub ended_by : {A B : Type 0} → Rule B → Rule A → Rule A
ended_by q p = do
  x ← p
  q
  give x

-- a list of at least one, separated by commas; one more comma may stand behind the last
abbrev pub commas : {A : Type 0} → Rule (Unit {0}) → Rule A → Rule (List A)
commas comma p = do
  x ← p
  xs ← many (comma >> p)
  maybe comma
  give (x ∷ xs)

-- such a list, or nothing
abbrev pub listed : {A : Type 0} → Rule (Unit {0}) → Rule A → Rule (List A)
listed comma p = commas comma p ∥ give []

-- the line on which the rest begins
abbrev pub line : Rule ℕ
line s n s' = (n ≡ s.line) × (s' ≡ s)

-- the next token, with its text
abbrev pub token : Kind → Rule (List ℕ)
token kind s text s' =
    (gap rest : List ℕ) × IsNext s.rest kind gap text rest
    × (s' ≡ record s { rest = rest; line = s.line + line_ends kind })

abbrev pub piece : Mark → Rule (Unit {0})
piece mark = do
  token (Symbol mark)
  give tt

abbrev pub newline : Rule (Unit {0})
newline = do
  token Newline
  give tt

abbrev pub newlines : Rule (List (Unit {0}))
newlines = many newline

-- a word with this text
abbrev pub word : List ℕ → Rule (Unit {0})
word text s x s' = token Word s text s'

-- digits
abbrev pub natural : Rule ℕ
natural s n s' = (text : List ℕ) × token (Natural n) s text s'

-- digits, or a minus sign and digits, modulo 2 ^ 64
abbrev pub integer : Rule ℕ
integer s n s' = natural s n s' ⊎ ((text : List ℕ) × token (Negative n) s text s')

-- the bytes of a string
abbrev pub string : Rule (List ℕ)
string s bytes s' = (text : List ℕ) × token Quoted s text s' × IsString text bytes

-- a temporary, by its place among the function's
abbrev pub temp : Rule ℕ
temp s n s' =
    (name : List ℕ) × (m : State) × token Temp s (37 ∷ name) m × (n ≡ place name m.temps)
    × (s' ≡ record m { temps = with_name name m.temps })

-- a label, by its place among the function's
abbrev pub label : Rule ℕ
label s n s' =
    (name : List ℕ) × (m : State) × token Label s (64 ∷ name) m × (n ≡ place name m.labels)
    × (s' ≡ record m { labels = with_name name m.labels })

-- a global name, by its place among the text's
abbrev pub symbol : Rule ℕ
symbol s n s' =
    (name : List ℕ) × (m : State) × token Global s (36 ∷ name) m × (n ≡ place name m.symbols)
    × (s' ≡ record m { symbols = with_name name m.symbols })

-- a new function has no names yet
abbrev pub forget_names : Rule (Unit {0})
forget_names s x s' = s' ≡ record s { temps = []; labels = [] }

-- the names of a function
abbrev pub function_names : Rule (List (List ℕ) × List (List ℕ))
function_names s names s' = (names ≡ (s.temps, s.labels)) × (s' ≡ s)
