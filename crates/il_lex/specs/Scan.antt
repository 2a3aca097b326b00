-- The next token as a function of the bytes, which `scan` computes. `Next` says what it means.
use Rattle.std.specs.Prelude.{ℕ, zero, suc, ◌+◌, ◌-◌, ◌*◌, ◌%◌, ◌^◌, Bool, true, false, ◌&&◌, ◌==◌, nat_le, nat_lt, List, [], ◌∷◌, length, take, drop, Option, Some, None, if◌then◌else◌, option_and_then}
use Rattle.std.specs.List.{prefix_len}
use Rattle.std.specs.Option.{option_map, option_map_or}
use Rattle.il_lex.specs.Quoted.{is_spacing, is_digit, is_octal, is_word_start, is_word_part, is_in_comment, ends_token, is_plain, escaped}
use Rattle.il_lex.specs.declared.kind.Symbol.{Symbol as TheSymbol}
use Rattle.il_lex.specs.declared.kind.Symbol.TheVariants.{Comma, Equals, LeftBrace, RightBrace, LeftParen, RightParen, Plus}
use Rattle.il_lex.specs.declared.kind.Kind.{Kind}
use Rattle.il_lex.specs.declared.kind.Kind.TheVariants.{Symbol, Newline, Word, Global, Temp, Label, Natural, Negative, Quoted}
use Rattle.il_lex.specs.declared.scan.Ahead.{Ahead}
use Rattle.il_lex.specs.declared.scan.Ahead.TheVariants.{End, Bad, Found}

-- the value of the digits behind digits of value n, unless it passes 64 bits
abbrev pub number_from : ℕ → List ℕ → Option ℕ
number_from n [] = Some n
number_from n (d ∷ ds) =
    if nat_lt (10 * n + (d - 48)) (2 ^ 64) then number_from (10 * n + (d - 48)) ds else None

-- an octal item, from its third digit, its second, its first: its byte and its length
abbrev pub octal_third : ℕ → List ℕ → Option (ℕ × ℕ)
octal_third n [] = Some (n, 3)
octal_third n (d ∷ ds) =
    if is_octal d then (if nat_le (8 * n + (d - 48)) 0xff then Some (8 * n + (d - 48), 4) else None)
    else Some (n, 3)

abbrev pub octal_second : ℕ → List ℕ → Option (ℕ × ℕ)
octal_second n [] = Some (n, 2)
octal_second n (d ∷ ds) = if is_octal d then octal_third (8 * n + (d - 48)) ds else Some (n, 2)

-- what stands behind a backslash
abbrev pub escape : List ℕ → Option (ℕ × ℕ)
escape [] = None
escape (c ∷ cs) =
    if is_octal c then octal_second (c - 48) cs else option_map (λ byte. (byte, 2)) (escaped c)

-- the item of a string at the front: its byte and its length
unfoldable pub item : List ℕ → Option (ℕ × ℕ)
item [] = None
item (b ∷ bs) = if b == 92 then escape bs else (if is_plain b then Some (b, 1) else None)

-- how many bytes the items at the front have, n of them at most
abbrev pub items_len : ℕ → List ℕ → ℕ
items_len zero bytes = 0
items_len (suc n) bytes = option_map_or (λ i. i.1 + items_len n (drop i.1 bytes)) (item bytes) 0

-- what the items at the front stand for, n of them at most
abbrev pub items : ℕ → List ℕ → List ℕ
items zero bytes = []
items (suc n) bytes = option_map_or (λ i. i.0 ∷ items n (drop i.1 bytes)) (item bytes) []

-- what a string with its quotes stands for
unfoldable pub string_bytes : List ℕ → List ℕ
string_bytes text = let body = drop 1 text in items (length body) body

abbrev pub begins_word : List ℕ → Bool
begins_word [] = false
begins_word (b ∷ bs) = is_word_start b

abbrev pub begins_quote : List ℕ → Bool
begins_quote [] = false
begins_quote (b ∷ bs) = b == 34

abbrev pub is_ended : List ℕ → Bool
is_ended [] = true
is_ended (b ∷ bs) = ends_token b

-- a token's kind and length, of what stands behind its first byte: digits, a name, a minus sign, a
-- quote
unfoldable pub natural : List ℕ → Option (Kind × ℕ)
natural bytes =
    let len = prefix_len is_digit bytes in
    option_map (λ value. (Natural value, len)) (number_from 0 (take len bytes))

unfoldable pub name : Kind → List ℕ → Option (Kind × ℕ)
name kind bytes =
    let len = prefix_len is_word_part bytes in
    if begins_word bytes && nat_le len 255 then Some (kind, 1 + len) else None

unfoldable pub negative : List ℕ → Option (Kind × ℕ)
negative bytes =
    let len = prefix_len is_digit bytes in
    if len == 0 then None else
    option_and_then (λ amount. if nat_le amount (2 ^ 63)
    then Some (Negative ((2 ^ 64 - amount) % 2 ^ 64), 1 + len) else None)
    (number_from 0 (take len bytes))

unfoldable pub quoted : List ℕ → Option (Kind × ℕ)
quoted bytes =
    let len = items_len (length bytes) bytes in
    if begins_quote (drop len bytes) then Some (Quoted, 2 + len) else None

-- the kind and length of the token at the front that is no symbol and no end of a line
unfoldable pub lexeme : List ℕ → Option (Kind × ℕ)
lexeme [] = None
lexeme (b ∷ bs) =
    if is_word_start b then Some (Word, 1 + prefix_len is_word_part bs)
    else (if is_digit b then natural (b ∷ bs)
    else (if b == 36 then name Global bs
    else (if b == 37 then name Temp bs
    else (if b == 64 then name Label bs
    else (if b == 45 then negative bs
    else (if b == 34 then quoted bs
    else None))))))

unfoldable pub symbol_of : ℕ → Option TheSymbol
symbol_of b =
    if b == 44 then Some Comma
    else (if b == 61 then Some Equals
    else (if b == 123 then Some LeftBrace
    else (if b == 125 then Some RightBrace
    else (if b == 40 then Some LeftParen
    else (if b == 41 then Some RightParen
    else (if b == 43 then Some Plus
    else None))))))

-- what follows a comment
abbrev pub line_end : ℕ → List ℕ → Ahead
line_end gap [] = End
line_end gap (b ∷ bs) = if b == 10 then Found Newline gap 1 else Bad

-- what follows `#`
unfoldable pub comment : ℕ → List ℕ → Ahead
comment gap bytes = let len =
    prefix_len is_in_comment bytes in line_end (gap + 1 + len) (drop len bytes)

-- a token that is no symbol has to be ended by what follows
abbrev pub ended : ℕ → List ℕ → Option (Kind × ℕ) → Ahead
ended gap bytes None = Bad
ended gap bytes (Some token) =
    if is_ended (drop token.1 bytes) then Found token.0 gap token.1 else Bad

abbrev pub symbol_or : ℕ → List ℕ → Option TheSymbol → Ahead
symbol_or gap bytes (Some s) = Found (Symbol s) gap 1
symbol_or gap bytes None = ended gap bytes (lexeme bytes)

-- what stands behind a gap
unfoldable pub scan_from : ℕ → List ℕ → Ahead
scan_from gap [] = End
scan_from gap (b ∷ bs) =
    if b == 10 then Found Newline gap 1
    else (if b == 35 then comment gap bs
    else symbol_or gap (b ∷ bs) (symbol_of b))

unfoldable pub scan : List ℕ → Ahead
scan bytes = let gap = prefix_len is_spacing bytes in scan_from gap (drop gap bytes)
