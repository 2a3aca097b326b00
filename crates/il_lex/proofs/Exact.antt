-- What `scan` answers is the next token, and it answers each.
use Rattle.std.proofs.Common.{◌≡◌, ◌≢◌, inl, inr, ℕ, zero, suc, ◌+◌, ◌-◌, ◌<◌, ◌≤◌, true, false, cond, eqb, List, [], ◌∷◌, ◌++◌, length, take, drop, Option, Some, None, IsTrue, refl, sym, ap, ◌∙◌, arith, append_assoc, length-append, length-drop, take-append-drop}
use Rattle.std.specs.List.{prefix_len, list_all}
use Rattle.std.proofs.lemmas.List.{take_at, drop_at, drop-drop, append-nil, append_cancel_right}
use Rattle.std.proofs.lemmas.List.Sums.{prefix_len-le-length}
use Rattle.std.proofs.lemmas.Bool.{and_parts}
use Rattle.std.proofs.lemmas.Bool.Decides.{nat_tests, Decides-eqb}
use Rattle.il_lex.specs.Quoted.{is_spacing, is_digit, is_word_start, is_in_comment, is_symbol, ends_token, IsString}
use Rattle.il_lex.specs.Next.{IsDigits, symbol_byte, IsText, IsWord, IsSpacing, IsBlank, IsGap, IsEnded, IsApart, IsNext, IsEnd, IsBad, IsAhead, OneNext, EndIsEnd, OneReading}
use Rattle.il_lex.specs.Scan.{lexeme, symbol_of, line_end, comment, is_ended, ended, symbol_or, scan_from, scan, items, string_bytes}
use Rattle.il_lex.specs.declared.kind.Symbol.{Symbol as TheSymbol}
use Rattle.il_lex.specs.declared.kind.Symbol.TheVariants.{Comma, Equals, LeftBrace, RightBrace, LeftParen, RightParen, Plus}
use Rattle.il_lex.specs.declared.kind.Kind.{Kind}
use Rattle.il_lex.specs.declared.kind.Kind.TheVariants.{Symbol, Newline, Word, Global, Temp, Label, Natural, Negative, Quoted}
use Rattle.il_lex.specs.declared.scan.Ahead.{Ahead}
use Rattle.il_lex.specs.declared.scan.Ahead.TheVariants.{End, Bad, Found}
use Rattle.il_lex.proofs.Runs.{cond_cases, Stops, run_passes, run_len}
use Rattle.il_lex.proofs.Items.{closes, Spells-length}
use Rattle.il_lex.proofs.Lexemes.{IsLoose, LexemeIs, lexeme_sound, lexeme_complete}

-- soundness

abbrev pub AheadIs : List ℕ → Ahead → Type 0
AheadIs bytes End = IsEnd bytes
AheadIs bytes Bad = Unit {0}
AheadIs bytes (Found kind gap len) =
    IsNext bytes kind (take gap bytes) (take len (drop gap bytes)) (drop len (drop gap bytes)) × (gap + len ≤ length bytes)

found_is : (bytes : List ℕ) (kind : Kind) (gap len : ℕ) (rest : List ℕ) → drop gap bytes ≡ rest → gap ≤ length bytes
    → IsGap kind (take gap bytes) → IsText kind (take len rest) → IsApart kind (drop len rest) → len ≤ length rest
    → AheadIs bytes (Found kind gap len)
found_is bytes kind gap len rest e g gap_is text_is apart l =
    let size : length bytes - gap ≡ length rest = sym (length-drop gap bytes) ∙ ap length e in (
      record {
        split = sym (ap (λ xs. take gap bytes ++ xs) (take-append-drop len (drop gap bytes)) ∙ take-append-drop gap bytes);
        gap_is = gap_is;
        text_is = rw e text_is;
        apart = rw e apart;
      },
      omega arith,
    )

loose_gap : (kind : Kind) (gap : List ℕ) → IsLoose kind → IsSpacing gap → IsGap kind gap
loose_gap (Symbol s) gap l g = absurd l
loose_gap Newline gap l g = absurd l
loose_gap Word gap l g = g
loose_gap Global gap l g = g
loose_gap Temp gap l g = g
loose_gap Label gap l g = g
loose_gap (Natural v) gap l g = g
loose_gap (Negative v) gap l g = g
loose_gap Quoted gap l g = g

loose_apart : (kind : Kind) (rest : List ℕ) → IsLoose kind → IsEnded rest → IsApart kind rest
loose_apart (Symbol s) rest l e = absurd l
loose_apart Newline rest l e = absurd l
loose_apart Word rest l e = e
loose_apart Global rest l e = e
loose_apart Temp rest l e = e
loose_apart Label rest l e = e
loose_apart (Natural v) rest l e = e
loose_apart (Negative v) rest l e = e
loose_apart Quoted rest l e = e

ended_is : (rest : List ℕ) → is_ended rest ≡ true → IsEnded rest
ended_is [] h = tt
ended_is (b ∷ bs) h = h

ended_test : (rest : List ℕ) → IsEnded rest → is_ended rest ≡ true
ended_test [] h = refl
ended_test (b ∷ bs) h = h

-- what an answer of symbol_of says
abbrev SymbolIs : ℕ → Option TheSymbol → Type 0
SymbolIs b None = Unit {0}
SymbolIs b (Some s) = b ≡ symbol_byte s

symbol_is : (b : ℕ) → SymbolIs b (symbol_of b)
unfolding symbol_of
symbol_is b =
    cond_cases (SymbolIs b) (eqb b 44) _ _ (λ t. (Decides-eqb b 44).0 t) (λ _.
    cond_cases (SymbolIs b) (eqb b 61) _ _ (λ t. (Decides-eqb b 61).0 t) (λ _.
    cond_cases (SymbolIs b) (eqb b 123) _ _ (λ t. (Decides-eqb b 123).0 t) (λ _.
    cond_cases (SymbolIs b) (eqb b 125) _ _ (λ t. (Decides-eqb b 125).0 t) (λ _.
    cond_cases (SymbolIs b) (eqb b 40) _ _ (λ t. (Decides-eqb b 40).0 t) (λ _.
    cond_cases (SymbolIs b) (eqb b 41) _ _ (λ t. (Decides-eqb b 41).0 t) (λ _.
    cond_cases (SymbolIs b) (eqb b 43) _ None (λ t. (Decides-eqb b 43).0 t) (λ _. tt)))))))

lexeme_found : (bytes : List ℕ) (gap : ℕ) (rest : List ℕ) → drop gap bytes ≡ rest → gap ≤ length bytes → IsSpacing (take gap bytes)
    → (o : Option (Kind × ℕ)) → LexemeIs rest o → AheadIs bytes (ended gap rest o)
lexeme_found bytes gap rest e g s None h = tt
lexeme_found bytes gap rest e g s (Some t) h =
    cond_cases (AheadIs bytes) (is_ended (drop t.1 rest)) (Found t.0 gap t.1) Bad
    (λ y. found_is bytes t.0 gap t.1 rest e g (loose_gap t.0 _ h.1 s) h.0 (loose_apart t.0 _ h.1 (ended_is _ y)) h.2)
    (λ _. tt)

token_found : (bytes : List ℕ) (gap b : ℕ) (bs : List ℕ) → drop gap bytes ≡ b ∷ bs → gap ≤ length bytes → IsSpacing (take gap bytes)
    → (o : Option TheSymbol) → SymbolIs b o → AheadIs bytes (symbol_or gap (b ∷ bs) o)
token_found bytes gap b bs e g s None h = lexeme_found bytes gap (b ∷ bs) e g s (lexeme (b ∷ bs)) (lexeme_sound (b ∷ bs))
token_found bytes gap b bs e g s (Some c) h = found_is bytes (Symbol c) gap 1 (b ∷ bs) e g s (ap (λ x. x ∷ []) h) tt (omega arith)

drop_two : (m n : ℕ) (xs : List ℕ) (b : ℕ) (bs : List ℕ) → drop m xs ≡ b ∷ bs → drop (m + 1 + n) xs ≡ drop n bs
drop_two m n xs b bs e =
    ap (λ k. drop k xs) (regroup m n) ∙ sym (drop-drop (suc n) m xs) ∙ ap (drop (suc n)) e
  where
    regroup : (m n : ℕ) → m + 1 + n ≡ m + suc n
    regroup m n = omega arith

take_two : (m n : ℕ) (xs : List ℕ) (b : ℕ) (bs : List ℕ) → drop m xs ≡ b ∷ bs → take (m + 1 + n) xs ≡ take m xs ++ (b ∷ take n bs)
take_two m n xs b bs e = append_cancel_right _ _ (drop (m + 1 + n) xs) (
    take-append-drop (m + 1 + n) xs
    ∙ sym (take-append-drop m xs)
    ∙ ap (λ ys. take m xs ++ ys) (e ∙ ap (λ ys. b ∷ ys) (sym (take-append-drop n bs)) ∙ ap (λ ys. b ∷ (take n bs ++ ys)) (sym (drop_two m n xs b bs e)))
    ∙ sym (append_assoc (take m xs) (b ∷ take n bs) (drop (m + 1 + n) xs)))

comment_found : (bytes : List ℕ) (gap b : ℕ) (bs : List ℕ) → drop gap bytes ≡ b ∷ bs → gap ≤ length bytes → IsSpacing (take gap bytes) → b ≡ 35
    → AheadIs bytes (comment gap bs)
unfolding comment
comment_found bytes gap b bs e g s h = at (drop (prefix_len is_in_comment bs) bs) refl
  where
    blank : IsBlank (take gap bytes ++ (35 ∷ take (prefix_len is_in_comment bs) bs))
    blank = inr (take gap bytes, take (prefix_len is_in_comment bs) bs, refl, s, run_passes is_in_comment bs)

    at : (rest : List ℕ) → drop (prefix_len is_in_comment bs) bs ≡ rest → AheadIs bytes (line_end (gap + 1 + prefix_len is_in_comment bs) rest)
    at [] d =
        let all : take (prefix_len is_in_comment bs) bs ≡ bs = sym (append-nil _) ∙ ap (λ ys. take (prefix_len is_in_comment bs) bs ++ ys) (sym d) ∙ take-append-drop (prefix_len is_in_comment bs) bs in
        let whole : bytes ≡ take gap bytes ++ (35 ∷ take (prefix_len is_in_comment bs) bs) =
        sym (take-append-drop gap bytes) ∙ ap (λ ys. take gap bytes ++ ys) (e ∙ ap (λ x. x ∷ bs) h ∙ ap (λ ys. 35 ∷ ys) (sym all)) in
        inr (take gap bytes, take (prefix_len is_in_comment bs) bs, whole, s, run_passes is_in_comment bs)
    at (c ∷ cs) d =
        cond_cases (AheadIs bytes) (eqb c 10) _ Bad
        (λ t. let n : ℕ = prefix_len is_in_comment bs in
        let front : take (gap + 1 + n) bytes ≡ take gap bytes ++ (35 ∷ take n bs) = take_two gap n bytes b bs e ∙ ap (λ x. take gap bytes ++ (x ∷ take n bs)) h in
        let size : length bytes - gap ≡ suc (length bs) = sym (length-drop gap bytes) ∙ ap length e in
        let bound = prefix_len-le-length is_in_comment bs in
        found_is bytes Newline (gap + 1 + n) 1 (c ∷ cs) (drop_two gap n bytes b bs e ∙ d) (omega (arith, size, bound))
        (rw front blank) (ap (λ x. x ∷ []) ((Decides-eqb c 10).0 t)) tt (omega arith))
        (λ _. tt)

from_found : (bytes : List ℕ) (gap : ℕ) (rest : List ℕ) → drop gap bytes ≡ rest → gap ≤ length bytes → IsSpacing (take gap bytes) → AheadIs bytes (scan_from gap rest)
unfolding scan_from
from_found bytes gap [] e g s =
    let all : take gap bytes ≡ bytes = sym (append-nil _) ∙ ap (λ ys. take gap bytes ++ ys) (sym e) ∙ take-append-drop gap bytes in
    inl (rw (← all) s)
from_found bytes gap (b ∷ bs) e g s =
    cond_cases (AheadIs bytes) (eqb b 10) _ _
    (λ t. found_is bytes Newline gap 1 (b ∷ bs) e g (inl s) (ap (λ x. x ∷ []) ((Decides-eqb b 10).0 t)) tt (omega arith))
    (λ _. cond_cases (AheadIs bytes) (eqb b 35) _ _
    (λ t. comment_found bytes gap b bs e g s ((Decides-eqb b 35).0 t))
    (λ _. token_found bytes gap b bs e g s (symbol_of b) (symbol_is b)))

pub scan_sound : (bytes : List ℕ) → AheadIs bytes (scan bytes)
unfolding scan
scan_sound bytes = from_found bytes (prefix_len is_spacing bytes) _ refl (prefix_len-le-length is_spacing bytes) (run_passes is_spacing bytes)

-- completeness

at_gap : (gap rest : List ℕ) → IsSpacing gap → Stops is_spacing rest → scan (gap ++ rest) ≡ scan_from (length gap) rest
unfolding scan
at_gap gap rest s stops =
    let len = run_len is_spacing gap rest s stops in
    ap (λ n. scan_from n (drop n (gap ++ rest))) len ∙ ap (scan_from (length gap)) (drop_at gap rest (length gap) refl)

at_comment : (spacing remark rest : List ℕ) → IsSpacing spacing → IsTrue (list_all is_in_comment remark) → Stops is_in_comment rest
    → scan (spacing ++ (35 ∷ (remark ++ rest))) ≡ line_end (length spacing + 1 + length remark) rest
unfolding scan_from comment
at_comment spacing remark rest s r stops =
    let len = run_len is_in_comment remark rest r stops in
    at_gap spacing (35 ∷ (remark ++ rest)) s refl
    ∙ ap (λ n. line_end (length spacing + 1 + n) (drop n (remark ++ rest))) len
    ∙ ap (line_end (length spacing + 1 + length remark)) (drop_at remark rest (length remark) refl)

pub end_complete : (bytes : List ℕ) → IsEnd bytes → scan bytes ≡ End
unfolding scan_from
end_complete bytes (inl s) = ap scan (sym (append-nil bytes)) ∙ at_gap bytes [] s tt
end_complete bytes (inr w) =
    ap scan (w.2 ∙ ap (λ ys. w.0 ++ (35 ∷ ys)) (sym (append-nil w.1))) ∙ at_comment w.0 w.1 [] w.3 w.4 tt

newline_complete : (gap rest : List ℕ) → IsBlank gap → scan (gap ++ (10 ∷ rest)) ≡ Found Newline (length gap) 1
unfolding scan_from
newline_complete gap rest (inl s) = at_gap gap (10 ∷ rest) s refl
newline_complete gap rest (inr w) =
    let len : length w.0 + 1 + length w.1 ≡ length gap = omega (arith, length-append w.0 (35 ∷ w.1), ap length w.2) in
    ap (λ g. scan (g ++ (10 ∷ rest))) w.2
    ∙ ap scan (append_assoc w.0 (35 ∷ w.1) (10 ∷ rest))
    ∙ at_comment w.0 w.1 (10 ∷ rest) w.3 w.4 refl
    ∙ ap (λ n. Found Newline n 1) len

symbol_scan : (s : TheSymbol) (gap : ℕ) (rest : List ℕ) → scan_from gap (symbol_byte s ∷ rest) ≡ Found (Symbol s) gap 1
unfolding scan_from symbol_of
symbol_scan Comma gap rest = refl
symbol_scan Equals gap rest = refl
symbol_scan LeftBrace gap rest = refl
symbol_scan RightBrace gap rest = refl
symbol_scan LeftParen gap rest = refl
symbol_scan RightParen gap rest = refl
symbol_scan Plus gap rest = refl

symbol_stops : (s : TheSymbol) → is_spacing (symbol_byte s) ≡ false
symbol_stops Comma = refl
symbol_stops Equals = refl
symbol_stops LeftBrace = refl
symbol_stops RightBrace = refl
symbol_stops LeftParen = refl
symbol_stops RightParen = refl
symbol_stops Plus = refl

symbol_complete : (s : TheSymbol) (gap rest : List ℕ) → IsSpacing gap → scan (gap ++ (symbol_byte s ∷ rest)) ≡ Found (Symbol s) (length gap) 1
symbol_complete s gap rest g = at_gap gap (symbol_byte s ∷ rest) g (symbol_stops s) ∙ symbol_scan s (length gap) rest

-- the first byte of a token that is no symbol
abbrev Opens : List ℕ → Type 0
Opens [] = ⊥
Opens (b ∷ bs) = ends_token b ≡ false

word_opens : (text : List ℕ) → IsWord text → Opens text
word_opens [] w = absurd w
word_opens (b ∷ bs) w = at b w.0
  where
    at : (b : ℕ) → is_word_start b ≡ true → ends_token b ≡ false
    at b h = grind (arith, nat_tests)

digits_open : (text : List ℕ) (v : ℕ) → IsDigits text v → Opens text
digits_open [] v d = absurd (d.some refl)
digits_open (b ∷ bs) v d = at b (and_parts (is_digit b) (list_all is_digit bs) d.digits).0
  where
    at : (b : ℕ) → is_digit b ≡ true → ends_token b ≡ false
    at b h = grind (arith, nat_tests)

text_opens : (kind : Kind) (text : List ℕ) → IsLoose kind → IsText kind text → Opens text
text_opens (Symbol s) text l t = absurd l
text_opens Newline text l t = absurd l
text_opens Word text l t = word_opens text t
text_opens Global text l t = rw t.1 refl
text_opens Temp text l t = rw t.1 refl
text_opens Label text l t = rw t.1 refl
text_opens (Natural v) text l t = digits_open text v t.digits
text_opens (Negative v) text l t = rw t.text_is refl
text_opens Quoted text l t = rw t.1.1 refl

no_symbol : (b : ℕ) → is_symbol b ≡ false → symbol_of b ≡ None
no_symbol b h = at (symbol_of b) (symbol_is b)
  where
    not_symbol : (s : TheSymbol) → is_symbol (symbol_byte s) ≡ true
    not_symbol Comma = refl
    not_symbol Equals = refl
    not_symbol LeftBrace = refl
    not_symbol RightBrace = refl
    not_symbol LeftParen = refl
    not_symbol RightParen = refl
    not_symbol Plus = refl

    at : (o : Option TheSymbol) → SymbolIs b o → o ≡ None
    at None e = refl
    at (Some s) e = let yes' : is_symbol b ≡ true = ap is_symbol e ∙ not_symbol s in absurd (cc)

opens_parts : (b : ℕ) → ends_token b ≡ false → (is_spacing b ≡ false) × (eqb b 10 ≡ false) × (eqb b 35 ≡ false) × (is_symbol b ≡ false)
opens_parts b h = (grind (arith, nat_tests), grind (arith, nat_tests), grind (arith, nat_tests), grind (arith, nat_tests))

loose_stops : (text rest : List ℕ) → Opens text → Stops is_spacing (text ++ rest)
loose_stops [] rest o = absurd o
loose_stops (b ∷ bs) rest o = (opens_parts b o).0

loose_scan : (text rest : List ℕ) (gap : ℕ) → Opens text → scan_from gap (text ++ rest) ≡ ended gap (text ++ rest) (lexeme (text ++ rest))
unfolding scan_from
loose_scan [] rest gap o = absurd o
loose_scan (b ∷ bs) rest gap o =
    let parts = opens_parts b o in
    ap (λ t. cond t (Found Newline gap 1) (cond (eqb b 35) (comment gap (bs ++ rest)) (symbol_or gap (b ∷ (bs ++ rest)) (symbol_of b)))) parts.1
    ∙ ap (λ t. cond t (comment gap (bs ++ rest)) (symbol_or gap (b ∷ (bs ++ rest)) (symbol_of b))) parts.2
    ∙ ap (symbol_or gap (b ∷ (bs ++ rest))) (no_symbol b parts.3)

loose_complete : (kind : Kind) (gap text rest : List ℕ) → IsLoose kind → IsSpacing gap → IsText kind text → IsEnded rest → scan (gap ++ (text ++ rest)) ≡ Found kind (length gap) (length text)
loose_complete kind gap text rest l g t e =
    let opens = text_opens kind text l t in
    let last : is_ended (drop (length text) (text ++ rest)) ≡ true = ap is_ended (drop_at text rest (length text) refl) ∙ ended_test rest e in
    at_gap gap (text ++ rest) g (loose_stops text rest opens)
    ∙ loose_scan text rest (length gap) opens
    ∙ ap (ended (length gap) (text ++ rest)) (lexeme_complete kind text rest l t e)
    ∙ ap (λ b. cond b (Found kind (length gap) (length text)) Bad) last

text_complete : (kind : Kind) (gap text rest : List ℕ) → IsGap kind gap → IsText kind text → IsApart kind rest → scan (gap ++ (text ++ rest)) ≡ Found kind (length gap) (length text)
text_complete (Symbol s) gap text rest g t a = rw t (symbol_complete s gap rest g)
text_complete Newline gap text rest g t a = rw t (newline_complete gap rest g)
text_complete Word gap text rest g t a = loose_complete Word gap text rest tt g t a
text_complete Global gap text rest g t a = loose_complete Global gap text rest tt g t a
text_complete Temp gap text rest g t a = loose_complete Temp gap text rest tt g t a
text_complete Label gap text rest g t a = loose_complete Label gap text rest tt g t a
text_complete (Natural v) gap text rest g t a = loose_complete (Natural v) gap text rest tt g t a
text_complete (Negative v) gap text rest g t a = loose_complete (Negative v) gap text rest tt g t a
text_complete Quoted gap text rest g t a = loose_complete Quoted gap text rest tt g t a

pub next_complete : (bytes : List ℕ) (kind : Kind) (gap text rest : List ℕ) → IsNext bytes kind gap text rest → scan bytes ≡ Found kind (length gap) (length text)
next_complete bytes kind gap text rest n = ap scan n.split ∙ text_complete kind gap text rest n.gap_is n.text_is n.apart

pub bad_is : (bytes : List ℕ) → scan bytes ≡ Bad → IsBad bytes
bad_is bytes e = record {
  end = λ h. let other : scan bytes ≡ End = end_complete bytes h in cc;
  next = λ kind gap text rest n. let other : scan bytes ≡ Found kind (length gap) (length text) = next_complete bytes kind gap text rest n in cc;
}

word_some : (text : List ℕ) → IsWord text → 0 < length text
word_some [] w = absurd w
word_some (b ∷ bs) w = omega arith

text_some : (kind : Kind) (text : List ℕ) → IsText kind text → 0 < length text
text_some (Symbol s) text t = rw t (omega arith)
text_some Newline text t = rw t (omega arith)
text_some Word text t = word_some text t
text_some Global text t = rw t.1 (omega arith)
text_some Temp text t = rw t.1 (omega arith)
text_some Label text t = rw t.1 (omega arith)
text_some (Natural v) text t = digits_some text t.digits.some
  where
    digits_some : (text : List ℕ) → text ≢ [] → 0 < length text
    digits_some [] h = absurd (h refl)
    digits_some (b ∷ bs) h = omega arith
text_some (Negative v) text t = rw t.text_is (omega arith)
text_some Quoted text t = rw t.1.1 (omega arith)

take_some : (n : ℕ) (xs : List ℕ) → 0 < length (take n xs) → 0 < n
take_some zero xs h = h
take_some (suc n) xs h = omega arith

meaning_of : (bytes : List ℕ) (ahead : Ahead) → scan bytes ≡ ahead → AheadIs bytes ahead → IsAhead bytes ahead
meaning_of bytes End e h = h
meaning_of bytes Bad e h = bad_is bytes e
meaning_of bytes (Found kind gap len) e h = (h.0, take_some len _ (text_some kind _ h.0.text_is), h.1)

pub scan_meaning : (bytes : List ℕ) → IsAhead bytes (scan bytes)
scan_meaning bytes = meaning_of bytes (scan bytes) refl (scan_sound bytes)

found_parts : (kind other : Kind) (gap len g l : ℕ) → Found kind gap len ≡ Found other g l → (kind ≡ other) × (gap ≡ g) × (len ≡ l)
found_parts kind other gap len g l e = (cc, cc, cc)

pub one_next : OneNext
one_next bytes k k' g t r g' t' r' n n' =
    let same = found_parts k k' (length g) (length t) (length g') (length t') (sym (next_complete bytes k g t r n) ∙ next_complete bytes k' g' t' r' n') in
    let whole : g ++ (t ++ r) ≡ g' ++ (t' ++ r') = sym n.split ∙ n'.split in
    let gaps : g ≡ g' = sym (take_at g (t ++ r) (length g) refl) ∙ ap (take (length g)) whole ∙ take_at g' (t' ++ r') (length g) (sym same.1) in
    let later : t ++ r ≡ t' ++ r' = sym (drop_at g (t ++ r) (length g) refl) ∙ ap (drop (length g)) whole ∙ drop_at g' (t' ++ r') (length g) (sym same.1) in
    let texts : t ≡ t' = sym (take_at t r (length t) refl) ∙ ap (take (length t)) later ∙ take_at t' r' (length t) (sym same.2) in
    let rests : r ≡ r' = sym (drop_at t r (length t) refl) ∙ ap (drop (length t)) later ∙ drop_at t' r' (length t) (sym same.2) in
    (same.0, gaps, texts, rests)

pub end_is_end : EndIsEnd
end_is_end bytes kind gap text rest e n =
    let there : scan bytes ≡ Found kind (length gap) (length text) = next_complete bytes kind gap text rest n in
    let here : scan bytes ≡ End = end_complete bytes e in
    cc

-- what a string stands for is what string_bytes gives
pub string_complete : (text bytes : List ℕ) → IsString text bytes → string_bytes text ≡ bytes
unfolding string_bytes
string_complete text bytes s =
    let less = Spells-length s.0 bytes s.2 in
    let c = closes s.0 bytes [] (length s.0) s.2 (omega arith) in
    ap (λ xs. items (length (drop 1 xs)) (drop 1 xs)) s.1
    ∙ ap (items (length s.0)) (sym (append-nil s.0))
    ∙ c.bytes_are

pub one_reading : OneReading
one_reading text bytes others s t = sym (string_complete text bytes s) ∙ string_complete text others t
