-- Strings in a text: items between quotes, each of which stands for one byte.
use Rattle.std.specs.Prelude.{ℕ, Bool, ◌||◌, ◌&&◌, not, ◌==◌, nat_le, ◌≡◌, ◌⊎◌, ◌+◌, ◌-◌, ◌*◌, ◌<◌, ◌≤◌, false, List, [], ◌∷◌, ◌++◌, length, IsTrue, Option, Some, None, if◌then◌else◌}
use Rattle.std.specs.Char.{is_ascii_digit, is_ascii_alphabetic}
use Rattle.std.specs.List.{fold, list_all}

-- ---- the classes of bytes in a text of the QBE intermediate language (QBE IL reference, "Basic
-- concepts"; the bytes are ASCII).

-- a space or a tab
abbrev pub is_spacing : ℕ → Bool
is_spacing b = b == 32 || b == 9

abbrev pub is_digit : ℕ → Bool
is_digit b = is_ascii_digit b

-- 0 to 7
abbrev pub is_octal : ℕ → Bool
is_octal b = nat_le 48 b && nat_le b 55

-- a letter, `_` or `.`
abbrev pub is_word_start : ℕ → Bool
is_word_start b = is_ascii_alphabetic b || (b == 95 || b == 46)

-- what may stand in a word behind its first byte: also a digit or `$`
abbrev pub is_word_part : ℕ → Bool
is_word_part b = is_word_start b || (is_digit b || b == 36)

-- one of `,` `=` `{` `}` `(` `)` `+`
abbrev pub is_symbol : ℕ → Bool
is_symbol b = b == 44 || (b == 61 || (b == 123 || (b == 125 || (b == 40 || (b == 41 || b == 43)))))

-- any byte but a line feed and a carriage return
abbrev pub is_in_comment : ℕ → Bool
is_in_comment b = not (b == 10 || b == 13)

-- what may follow a token that is no symbol with nothing between: spacing, a line feed, the `#` of
-- a comment, a symbol
abbrev pub ends_token : ℕ → Bool
ends_token b = is_spacing b || (b == 10 || (b == 35 || is_symbol b))

-- a byte that stands for itself: printable ASCII or above 127, but neither `"` nor a backslash
abbrev pub is_plain : ℕ → Bool
is_plain b =
    ((nat_le 32 b && nat_le b 126) || (nat_le 128 b && nat_le b 255)) && not (b == 34 || b == 92)

-- what a character behind a backslash stands for: `\` `"` `n` `t` `r` `b` `f`
abbrev pub escaped : ℕ → Option ℕ
escaped c =
    if c == 92 then Some 92
    else (if c == 34 then Some 34
    else (if c == 110 then Some 10
    else (if c == 116 then Some 9
    else (if c == 114 then Some 13
    else (if c == 98 then Some 8
    else (if c == 102 then Some 12
    else None))))))

-- the value of octal digits, the highest first
abbrev pub octal : List ℕ → ℕ
octal digits = fold (λ n d. 8 * n + (d - 48)) 0 digits

abbrev pub begins_octal : List ℕ → Bool
begins_octal [] = false
begins_octal (b ∷ bs) = is_octal b

-- one to three octal digits, as many of the next three bytes as are such digits, of a value that
-- fits a byte; `after` is what follows them
pub record IsOctal (digits : List ℕ) (byte : ℕ) (after : List ℕ) : Type 0 where
  pub some : 0 < length digits
  pub most : length digits ≤ 3
  pub octal_digits : IsTrue (list_all is_octal digits)
  pub no_more : length digits < 3 → begins_octal after ≡ false
  pub value : byte ≡ octal digits
  pub fits : byte ≤ 0xff

-- `item` stands for `byte`, where `after` follows it
abbrev pub IsItem : List ℕ → ℕ → List ℕ → Type 0
IsItem item byte after =
    ((item ≡ byte ∷ []) × IsTrue (is_plain byte))
    ⊎ (((c : ℕ) × (item ≡ 92 ∷ c ∷ []) × (escaped c ≡ Some byte))
    ⊎ ((digits : List ℕ) × (item ≡ 92 ∷ digits) × IsOctal digits byte after))

-- `text` is items and the closing quote, and the items stand for the bytes
abbrev pub Spells : List ℕ → List ℕ → Type 0
Spells text [] = text ≡ 34 ∷ []
Spells text (byte ∷ bytes) =
    (item : List ℕ) × (after : List ℕ) × (text ≡ item ++ after) × IsItem item byte after
    × Spells after bytes

-- `text` is a string with its quotes, and stands for the bytes
abbrev pub IsString : List ℕ → List ℕ → Type 0
IsString text bytes = (body : List ℕ) × (text ≡ 34 ∷ body) × Spells body bytes
