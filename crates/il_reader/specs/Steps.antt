-- The rules as functions of the state, which the code computes: what is read, and the state
-- afterwards.
use Rattle.std.specs.Prelude.{ℕ, zero, suc, length, ◌+◌, Bool, false, if◌then◌else◌, nat_eq, List, [], ◌∷◌, take, drop, Option, Some, None, option_and_then, option_map}
use Rattle.std.specs.Cmp.Lexicographic.{pointwise}
use Rattle.il_lex.specs.declared.kind.Symbol.{Symbol as Mark}
use Rattle.il_lex.specs.declared.kind.Kind.{Kind}
use Rattle.il_lex.specs.declared.kind.Kind.TheVariants.{Symbol, Newline, Word, Global, Temp, Label, Natural, Negative, Quoted}
use Rattle.il_lex.specs.declared.scan.Ahead.{Ahead}
use Rattle.il_lex.specs.declared.scan.Ahead.TheVariants.{End, Bad, Found}
use Rattle.il_lex.specs.Scan.{scan, string_bytes}
use Rattle.il_lex.specs.Next.{line_ends, symbol_byte}
use Rattle.il_reader.specs.State.{State, place, with_name}

abbrev pub Step : Type 0 → Type 0
Step A = State → Option (A × State)

infixl 10 ◌>>=◌ ◌>>◌
abbrev pub ◌>>=◌ : {A B : Type 0} → Step A → (A → Step B) → Step B
◌>>=◌ p f s = option_and_then (λ x. f x.0 x.1) (p s)

abbrev pub ◌>>◌ : {A B : Type 0} → Step A → Step B → Step B
p >> q = p >>= λ _. q

abbrev pub give : {A : Type 0} → A → Step A
give x s = Some (x, s)

-- the state behind a token
abbrev pub behind : State → Kind → ℕ → ℕ → State
behind s kind gap len =
    record s { rest = drop len (drop gap s.rest); line = s.line + line_ends kind }

abbrev pub found : State → Ahead → Option ((Kind × List ℕ) × State)
found s End = None
found s Bad = None
found s (Found kind gap len) = Some ((kind, take len (drop gap s.rest)), behind s kind gap len)

-- the next token, with its kind and text
abbrev pub next : Step (Kind × List ℕ)
next s = found s (scan s.rest)

-- what a test makes of the next token
abbrev pub choose : {A : Type 0} → (Kind → List ℕ → Option A) → Step A
choose test s = option_and_then (λ t. option_map (λ x. (x, t.1)) (test t.0.0 t.0.1)) (next s)

-- ---- single tokens

abbrev pub newline_test : Kind → List ℕ → Option (Unit {0})
newline_test Newline text = Some tt
newline_test _ text = None

abbrev pub piece_test : Mark → Kind → List ℕ → Option (Unit {0})
piece_test mark (Symbol m) text =
    if nat_eq (symbol_byte m) (symbol_byte mark) then Some tt else None
piece_test mark _ text = None

abbrev pub word_test : {A : Type 0} → (List ℕ → Option A) → Kind → List ℕ → Option A
word_test meaning Word text = meaning text
word_test meaning _ text = None

abbrev pub natural_test : Kind → List ℕ → Option ℕ
natural_test (Natural n) text = Some n
natural_test _ text = None

abbrev pub integer_test : Kind → List ℕ → Option ℕ
integer_test (Natural n) text = Some n
integer_test (Negative n) text = Some n
integer_test _ text = None

abbrev pub string_test : Kind → List ℕ → Option (List ℕ)
string_test Quoted text = Some (string_bytes text)
string_test _ text = None

-- names come without their sigil
abbrev pub temp_test : Kind → List ℕ → Option (List ℕ)
temp_test Temp text = Some (drop 1 text)
temp_test _ text = None

abbrev pub label_test : Kind → List ℕ → Option (List ℕ)
label_test Label text = Some (drop 1 text)
label_test _ text = None

abbrev pub symbol_test : Kind → List ℕ → Option (List ℕ)
symbol_test Global text = Some (drop 1 text)
symbol_test _ text = None

abbrev pub newline : Step (Unit {0})
newline = choose newline_test

abbrev pub piece : Mark → Step (Unit {0})
piece mark = choose (piece_test mark)

-- a word, by what it means
abbrev pub keyword : {A : Type 0} → (List ℕ → Option A) → Step A
keyword meaning = choose (word_test meaning)

abbrev pub is_word : List ℕ → List ℕ → Option (Unit {0})
is_word word text = if pointwise nat_eq text word then Some tt else None

abbrev pub word : List ℕ → Step (Unit {0})
word text = keyword (is_word text)

abbrev pub natural : Step ℕ
natural = choose natural_test

abbrev pub integer : Step ℕ
integer = choose integer_test

abbrev pub string : Step (List ℕ)
string = choose string_test

abbrev pub temp : Step ℕ
temp = choose temp_test >>= λ name s. Some (
  place name s.temps,
  record s { temps = with_name name s.temps },
)

abbrev pub label : Step ℕ
label = choose label_test >>= λ name s. Some (
  place name s.labels,
  record s { labels = with_name name s.labels },
)

abbrev pub symbol : Step ℕ
symbol = choose symbol_test >>= λ name s. Some (
  place name s.symbols,
  record s { symbols = with_name name s.symbols },
)

-- ---- choices by the next token

abbrev pub kind_is : (Kind → Bool) → Ahead → Bool
kind_is test End = false
kind_is test Bad = false
kind_is test (Found kind gap len) = test kind

-- whether the next token is of such a kind
abbrev pub sees : (Kind → Bool) → State → Bool
sees test s = kind_is test (scan s.rest)

abbrev pub either : {A : Type 0} → (State → Bool) → Step A → Step A → Step A
either look p q s = if look s then p s else q s

-- a step as often as the next token tells, at most n times
abbrev pub repeated : {A : Type 0} → ℕ → (State → Bool) → Step A → Step (List A)
repeated zero look p s = None
repeated (suc n) look p s =
    if look s then option_and_then (λ x. option_and_then (λ xs. Some (x.0 ∷ xs.0, xs.1))
    (repeated n look p x.1)) (p s) else Some ([], s)

-- each round reads at least a byte
abbrev pub many : {A : Type 0} → (State → Bool) → Step A → Step (List A)
many look p s = repeated (suc (length s.rest)) look p s

-- a step where the next token tells so
abbrev pub maybe : {A : Type 0} → (State → Bool) → Step A → Step (Option A)
maybe look p s =
    if look s then option_and_then (λ x. Some (Some x.0, x.1)) (p s) else Some (None, s)

-- what follows the first of a list: as long as a comma comes, it and what it separates, unless that
-- isn't there
abbrev pub separated : {A : Type 0} → ℕ → (State → Bool) → Step (Unit {0}) → (State → Bool) →
    Step A → Step (List A)
separated zero is_comma comma begins p s = None
separated (suc n) is_comma comma begins p s =
    if is_comma s then option_and_then (λ c.
    if begins c.1 then option_and_then (λ x. option_and_then (λ xs. Some (x.0 ∷ xs.0, xs.1))
    (separated n is_comma comma begins p x.1)) (p c.1)
    else Some ([], c.1)) (comma s)
    else Some ([], s)

abbrev pub commas : {A : Type 0} → (State → Bool) → Step (Unit {0}) → (State → Bool) → Step A →
    Step (List A)
commas is_comma comma begins p =
    p >>= λ x. (λ s. separated (suc (length s.rest)) is_comma comma begins p s) >>= λ xs. give
    (x ∷ xs)
