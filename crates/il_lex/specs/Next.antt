-- What the next token of a text is.
use Rattle.std.specs.Prelude.{◌≡◌, ◌≢◌, ℕ, ◌+◌, ◌-◌, ◌*◌, ◌%◌, ◌^◌, ◌<◌, ◌≤◌, List, [], ◌∷◌, IsTrue, take, drop, ◌++◌, length, ◌⊎◌, ◌==◌, count_by}
use Rattle.std.specs.List.{fold, list_all}
use Rattle.il_lex.specs.Quoted.{is_digit, is_spacing, is_word_start, is_word_part, is_in_comment, ends_token, IsString}
use Rattle.il_lex.specs.declared.kind.Symbol.{Symbol as TheSymbol}
use Rattle.il_lex.specs.declared.kind.Symbol.TheVariants.{Comma, Equals, LeftBrace, RightBrace, LeftParen, RightParen, Plus}
use Rattle.il_lex.specs.declared.kind.Kind.{Kind}
use Rattle.il_lex.specs.declared.kind.Kind.TheVariants.{Symbol, Newline, Word, Global, Temp, Label, Natural, Negative, Quoted}
use Rattle.il_lex.specs.declared.scan.Ahead.{Ahead}
use Rattle.il_lex.specs.declared.scan.Ahead.TheVariants.{End, Bad, Found}

-- ---- numbers in a text: decimal digits, with or without a minus sign (QBE IL reference, "Constants")

-- the value of decimal digits, the highest first
abbrev pub decimal : List ℕ → ℕ
decimal digits = fold (λ n d. 10 * n + (d - 48)) 0 digits

-- at least one decimal digit, and the value of them all; leading zeros are allowed
pub record IsDigits (text : List ℕ) (value : ℕ) : Type 0 where
  pub some : text ≢ []
  pub digits : IsTrue (list_all is_digit text)
  pub value_is : value ≡ decimal text

-- digits whose value fits 64 bits
pub record IsNatural (text : List ℕ) (value : ℕ) : Type 0 where
  pub digits : IsDigits text value
  pub fits : value < 2 ^ 64

-- a minus sign and digits, a number of at least -(2 ^ 63); its value counts modulo 2 ^ 64
pub record IsNegative (text : List ℕ) (value : ℕ) : Type 0 where
  pub digits : List ℕ
  pub amount : ℕ
  pub text_is : text ≡ 45 ∷ digits
  pub digits_are : IsDigits digits amount
  pub fits : amount ≤ 2 ^ 63
  pub value_is : value ≡ (2 ^ 64 - amount) % 2 ^ 64

abbrev pub symbol_byte : TheSymbol → ℕ
symbol_byte Comma = 44
symbol_byte Equals = 61
symbol_byte LeftBrace = 123
symbol_byte RightBrace = 125
symbol_byte LeftParen = 40
symbol_byte RightParen = 41
symbol_byte Plus = 43

-- a letter, `_` or `.`, and then letters, `_`, `.`, digits and `$`
abbrev pub IsWord : List ℕ → Type 0
IsWord [] = ⊥
IsWord (b ∷ bs) = IsTrue (is_word_start b) × IsTrue (list_all is_word_part bs)

-- `sigil`, directly followed by a word of at most 255 bytes
abbrev pub IsName : ℕ → List ℕ → Type 0
IsName sigil text = (word : List ℕ) × (text ≡ sigil ∷ word) × IsWord word × (length word ≤ 255)

-- the text of a token of each kind; names begin with `$`, `%` and `@`
abbrev pub IsText : Kind → List ℕ → Type 0
IsText (Symbol s) text = text ≡ symbol_byte s ∷ []
IsText Newline text = text ≡ 10 ∷ []
IsText Word text = IsWord text
IsText Global text = IsName 36 text
IsText Temp text = IsName 37 text
IsText Label text = IsName 64 text
IsText (Natural value) text = IsNatural text value
IsText (Negative value) text = IsNegative text value
IsText Quoted text = (bytes : List ℕ) × IsString text bytes

abbrev pub IsSpacing : List ℕ → Type 0
IsSpacing bytes = IsTrue (list_all is_spacing bytes)

-- spacing, and perhaps a comment: `#` and what stands behind it on its line
abbrev pub IsBlank : List ℕ → Type 0
IsBlank bytes =
    IsSpacing bytes
    ⊎ ((spacing comment : List ℕ) × (bytes ≡ spacing ++ (35 ∷ comment)) × IsSpacing spacing
    × IsTrue (list_all is_in_comment comment))

-- what may stand before a token: spacing, and before the end of a line perhaps a comment
abbrev pub IsGap : Kind → List ℕ → Type 0
IsGap Newline gap = IsBlank gap
IsGap _ gap = IsSpacing gap

-- nothing follows, or what ends the token before it
abbrev pub IsEnded : List ℕ → Type 0
IsEnded [] = Unit {0}
IsEnded (b ∷ bs) = IsTrue (ends_token b)

-- Neighbours are separated by spacing, but a symbol and the end of a line need none: what follows
-- directly on a token of another kind ends it.
abbrev pub IsApart : Kind → List ℕ → Type 0
IsApart (Symbol s) rest = Unit {0}
IsApart Newline rest = Unit {0}
IsApart _ rest = IsEnded rest

-- the bytes are a gap, then the text of a token of this kind, then the rest
pub record IsNext (bytes : List ℕ) (kind : Kind) (gap text rest : List ℕ) : Type 0 where
  pub split : bytes ≡ gap ++ (text ++ rest)
  pub gap_is : IsGap kind gap
  pub text_is : IsText kind text
  pub apart : IsApart kind rest

-- no token is left: spacing at most, and perhaps a comment without the end of its line
abbrev pub IsEnd : List ℕ → Type 0
IsEnd bytes = IsBlank bytes

-- the bytes go on, but not with a token
pub record IsBad (bytes : List ℕ) : Type 0 where
  pub end : ¬ IsEnd bytes
  pub next : (kind : Kind) (gap text rest : List ℕ) → ¬ IsNext bytes kind gap text rest

-- what `scan` answers: the end, or the kind and the lengths of the gap and the text of the next
-- token, or that neither is there
abbrev pub IsAhead : List ℕ → Ahead → Type 0
IsAhead bytes End = IsEnd bytes
IsAhead bytes Bad = IsBad bytes
IsAhead bytes (Found kind gap len) =
    IsNext bytes kind (take gap bytes) (take len (drop gap bytes)) (drop len (drop gap bytes))
    × (0 < len) × (gap + len ≤ length bytes)

-- ---- lines of a text

-- how many lines end in the bytes
abbrev pub lines_in : List ℕ → ℕ
lines_in bytes = count_by (λ b. b == 10) bytes

-- the line of the place behind the first n bytes of a text, from 1
abbrev pub line_at : List ℕ → ℕ → ℕ
line_at text n = lines_in (take n text) + 1

-- how many lines a token of this kind ends
abbrev pub line_ends : Kind → ℕ
line_ends Newline = 1
line_ends _ = 0

-- ---- laws of tokens

-- at most one token stands next
abbrev pub OneNext : Type 0
OneNext =
    (bytes : List ℕ) (kind other_kind : Kind)
    (gap text rest other_gap other_text other_rest : List ℕ)
    → IsNext bytes kind gap text rest → IsNext bytes other_kind other_gap other_text other_rest
    → (kind ≡ other_kind) × (gap ≡ other_gap) × (text ≡ other_text) × (rest ≡ other_rest)

-- where no token is left none stands next
abbrev pub EndIsEnd : Type 0
EndIsEnd = (bytes : List ℕ) (kind : Kind) (gap text rest : List ℕ) → IsEnd bytes →
    ¬ IsNext bytes kind gap text rest

-- a string stands for one list of bytes
abbrev pub OneReading : Type 0
OneReading =
    (text bytes others : List ℕ) → IsString text bytes → IsString text others → bytes ≡ others
