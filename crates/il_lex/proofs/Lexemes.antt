-- Tokens that are no symbol and no end of a line: what `lexeme` answers is one, and it answers each.
use Rattle.std.proofs.Common.{◌≡◌, ◌≢◌, ℕ, suc, ◌+◌, ◌-◌, ◌%◌, ◌^◌, ◌<◌, ◌≤◌, true, false, cond, eqb, leb, ◌&&◌, List, [], ◌∷◌, ◌++◌, length, take, drop, Option, Some, None, refl, sym, ap, ◌∙◌, arith, length-append, length-drop, length-take, IsTrue, option_and_then, option_map, take_at}
use Rattle.std.specs.List.{prefix_len, list_all}
use Rattle.std.proofs.Math.Numerals.{one-add}
use Rattle.std.proofs.lemmas.List.Sums.{prefix_len-le-length}
use Rattle.std.proofs.lemmas.Bool.{and_parts, and_from}
use Rattle.std.proofs.lemmas.Bool.Decides.{nat_tests, Decides-eqb}
use Rattle.il_lex.specs.Quoted.{is_digit, is_word_start, is_word_part, ends_token, Spells}
use Rattle.il_lex.specs.Next.{decimal, IsDigits, IsNatural, IsWord, IsText, IsEnded}
use Rattle.il_lex.specs.Scan.{number_from, items_len, items, begins_word, begins_quote, natural, name, negative, quoted, lexeme}
use Rattle.il_lex.specs.declared.kind.Kind.{Kind}
use Rattle.il_lex.specs.declared.kind.Kind.TheVariants.{Symbol, Newline, Word, Global, Temp, Label, Natural, Negative, Quoted}
use Rattle.il_lex.proofs.Runs.{cond_cases, Stops, prefix_yes, run_passes, run_len}
use Rattle.il_lex.proofs.Values.{number_sound, number_complete}
use Rattle.il_lex.proofs.Items.{closes, spells, Spells-length}

-- a kind whose tokens have to be ended by what follows
abbrev pub IsLoose : Kind → Type 0
IsLoose (Symbol s) = ⊥
IsLoose Newline = ⊥
IsLoose _ = Unit {0}

-- what an answer of lexeme says
abbrev pub LexemeIs : List ℕ → Option (Kind × ℕ) → Type 0
LexemeIs bytes None = Unit {0}
LexemeIs bytes (Some t) = IsText t.0 (take t.1 bytes) × IsLoose t.0 × (t.1 ≤ length bytes)

ended_digit : (rest : List ℕ) → IsEnded rest → Stops is_digit rest
ended_digit [] h = tt
ended_digit (y ∷ ys) h = digit_at y h
  where
    digit_at : (y : ℕ) → ends_token y ≡ true → is_digit y ≡ false
    digit_at y h = grind (arith, nat_tests)

ended_word : (rest : List ℕ) → IsEnded rest → Stops is_word_part rest
ended_word [] h = tt
ended_word (y ∷ ys) h = word_at y h
  where
    word_at : (y : ℕ) → ends_token y ≡ true → is_word_part y ≡ false
    word_at y h = grind (arith, nat_tests)

-- digits

digits_of : (b : ℕ) (bs : List ℕ) (v : ℕ) → is_digit b ≡ true → number_from 0 (take (prefix_len is_digit (b ∷ bs)) (b ∷ bs)) ≡ Some v → IsNatural (take (prefix_len is_digit (b ∷ bs)) (b ∷ bs)) v
digits_of b bs v h e =
    let value = number_sound (take (prefix_len is_digit (b ∷ bs)) (b ∷ bs)) v e in
    record {
      digits = record {
        some = λ none. nonempty none;
        digits = run_passes is_digit (b ∷ bs);
        value_is = value.0;
      };
      fits = value.1;
    }
  where
    nonempty : take (prefix_len is_digit (b ∷ bs)) (b ∷ bs) ≡ [] → ⊥
    nonempty e =
        let more : b ∷ take (prefix_len is_digit bs) bs ≡ [] = ap (λ n. take n (b ∷ bs)) (sym (prefix_yes is_digit b bs h)) ∙ e in
        cc

natural_is : (b : ℕ) (bs : List ℕ) → is_digit b ≡ true → LexemeIs (b ∷ bs) (natural (b ∷ bs))
unfolding natural
natural_is b bs h = at (number_from 0 (take (prefix_len is_digit (b ∷ bs)) (b ∷ bs))) refl
  where
    at : (o : Option ℕ) → number_from 0 (take (prefix_len is_digit (b ∷ bs)) (b ∷ bs)) ≡ o → LexemeIs (b ∷ bs) (option_map (λ value. (Natural value, prefix_len is_digit (b ∷ bs))) o)
    at None e = tt
    at (Some v) e = (digits_of b bs v h e, tt, prefix_len-le-length is_digit (b ∷ bs))

digits_len : (text rest : List ℕ) → IsTrue (list_all is_digit text) → IsEnded rest → prefix_len is_digit (text ++ rest) ≡ length text
digits_len text rest d e = run_len is_digit text rest d (ended_digit rest e)

digits_value : (text rest : List ℕ) (v : ℕ) → IsDigits text v → v < 2 ^ 64 → IsEnded rest → number_from 0 (take (prefix_len is_digit (text ++ rest)) (text ++ rest)) ≡ Some v
digits_value text rest v d f e =
    let small : decimal text < 2 ^ 64 = omega (arith, d.value_is) in
    ap (λ n. number_from 0 (take n (text ++ rest))) (digits_len text rest d.digits e)
    ∙ ap (number_from 0) (take_at text rest (length text) refl)
    ∙ number_complete text small
    ∙ ap Some (sym d.value_is)

natural_complete : (text rest : List ℕ) (v : ℕ) → IsNatural text v → IsEnded rest → natural (text ++ rest) ≡ Some (Natural v, length text)
unfolding natural
natural_complete text rest v d e =
    ap (λ o. option_map (λ value. (Natural value, prefix_len is_digit (text ++ rest))) o) (digits_value text rest v d.digits d.fits e)
    ∙ ap (λ n. Some (Natural v, n)) (digits_len text rest d.digits.digits e)

-- a minus sign and digits

negative_is : (b : ℕ) (bs : List ℕ) → b ≡ 45 → LexemeIs (b ∷ bs) (negative bs)
unfolding negative
negative_is b [] h = tt
negative_is b (c ∷ cs) h =
    cond_cases (LexemeIs (b ∷ c ∷ cs)) (eqb (prefix_len is_digit (c ∷ cs)) 0) None _
    (λ _. tt)
    (λ some. at (number_from 0 (take (prefix_len is_digit (c ∷ cs)) (c ∷ cs))) refl (first some))
  where
    first : eqb (prefix_len is_digit (c ∷ cs)) 0 ≡ false → is_digit c ≡ true
    first =
        cond_cases (λ n. eqb n 0 ≡ false → is_digit c ≡ true) (is_digit c) (1 + prefix_len is_digit cs) 0
        (λ t. λ _. t)
        (λ f. λ e. absurd (cc))

    at : (o : Option ℕ) → number_from 0 (take (prefix_len is_digit (c ∷ cs)) (c ∷ cs)) ≡ o → is_digit c ≡ true
        → LexemeIs (b ∷ c ∷ cs) (option_and_then (λ amount. cond (leb amount (2 ^ 63)) (Some (Negative ((2 ^ 64 - amount) % 2 ^ 64), 1 + prefix_len is_digit (c ∷ cs))) None) o)
    at None e d = tt
    at (Some v) e d =
        cond_cases (LexemeIs (b ∷ c ∷ cs)) (leb v (2 ^ 63)) _ None
        (λ l. let n : ℕ = prefix_len is_digit (c ∷ cs) in
        let bound = prefix_len-le-length is_digit (c ∷ cs) in (
          record {
            digits = take n (c ∷ cs);
            amount = v;
            text_is = ap (λ k. take k (b ∷ c ∷ cs)) (one-add n) ∙ ap (λ x. x ∷ take n (c ∷ cs)) h;
            digits_are = (digits_of c cs v d e).digits;
            fits = grind (arith, nat_tests);
            value_is = refl;
          },
          tt,
          omega (arith, bound),
        ))
        (λ _. tt)

suc_no_zero : (n : ℕ) → eqb (suc n) 0 ≡ false
suc_no_zero n = grind (arith, nat_tests)

negative_complete : (digits rest : List ℕ) (amount : ℕ) → IsDigits digits amount → amount ≤ 2 ^ 63 → IsEnded rest → negative (digits ++ rest) ≡ Some (Negative ((2 ^ 64 - amount) % 2 ^ 64), suc (length digits))
unfolding negative
negative_complete [] rest amount d f e = absurd (d.some refl)
negative_complete (x ∷ xs) rest amount d f e =
    let digits : List ℕ = x ∷ xs in
    let len : prefix_len is_digit (digits ++ rest) ≡ suc (length xs) = digits_len digits rest d.digits e in
    let some : eqb (prefix_len is_digit (digits ++ rest)) 0 ≡ false = ap (λ n. eqb n 0) len ∙ suc_no_zero (length xs) in
    let small : amount < 2 ^ 64 = omega arith in
    let fits : leb amount (2 ^ 63) ≡ true = grind (arith, nat_tests) in
    ap (λ t. cond t None (option_and_then (λ amount. cond (leb amount (2 ^ 63)) (Some (Negative ((2 ^ 64 - amount) % 2 ^ 64), 1 + prefix_len is_digit (digits ++ rest))) None) (number_from 0 (take (prefix_len is_digit (digits ++ rest)) (digits ++ rest))))) some
    ∙ ap (λ o. option_and_then (λ amount. cond (leb amount (2 ^ 63)) (Some (Negative ((2 ^ 64 - amount) % 2 ^ 64), 1 + prefix_len is_digit (digits ++ rest))) None) o) (digits_value digits rest amount d small e)
    ∙ ap (λ t. cond t (Some (Negative ((2 ^ 64 - amount) % 2 ^ 64), 1 + prefix_len is_digit (digits ++ rest))) None) fits
    ∙ ap (λ n. Some (Negative ((2 ^ 64 - amount) % 2 ^ 64), n)) (one-add (prefix_len is_digit (digits ++ rest)) ∙ ap suc len)

-- names

start_part : (b : ℕ) → is_word_start b ≡ true → is_word_part b ≡ true
start_part b h = rw h refl

word_of : (bytes : List ℕ) → begins_word bytes ≡ true → IsWord (take (prefix_len is_word_part bytes) bytes)
word_of [] h = absurd (cc)
word_of (c ∷ cs) h = rw (prefix_yes is_word_part c cs (start_part c h)) (h, run_passes is_word_part cs)

word_len : (word rest : List ℕ) → IsWord word → IsEnded rest → prefix_len is_word_part (word ++ rest) ≡ length word
word_len [] rest w e = absurd w
word_len (c ∷ cs) rest w e = run_len is_word_part (c ∷ cs) rest (and_from _ _ (start_part c w.0) w.1) (ended_word rest e)

word_begins : (word rest : List ℕ) → IsWord word → begins_word (word ++ rest) ≡ true
word_begins [] rest w = absurd w
word_begins (c ∷ cs) rest w = w.0

name_is : (kind : Kind) (b : ℕ) (bs : List ℕ) → IsLoose kind → ((word : List ℕ) → IsWord word → length word ≤ 255 → IsText kind (b ∷ word)) → LexemeIs (b ∷ bs) (name kind bs)
unfolding name
name_is kind b bs loose is =
    cond_cases (LexemeIs (b ∷ bs)) (begins_word bs && leb (prefix_len is_word_part bs) 255) _ None
    (λ t. let parts = and_parts (begins_word bs) (leb (prefix_len is_word_part bs) 255) t in
    let n : ℕ = prefix_len is_word_part bs in
    let bound = prefix_len-le-length is_word_part bs in
    let same : take (1 + n) (b ∷ bs) ≡ b ∷ take n bs = ap (λ k. take k (b ∷ bs)) (one-add n) in
    let few : length (take n bs) ≤ 255 = few_of n bs parts.1 in
    (rw same (is (take n bs) (word_of bs parts.0) few), loose, omega (arith, bound)))
    (λ _. tt)
  where
    few_of : (n : ℕ) (bs : List ℕ) → leb n 255 ≡ true → length (take n bs) ≤ 255
    few_of n bs h =
        let l : n ≤ 255 = grind (arith, nat_tests) in
        rw length-take (omega arith)

name_complete : (kind : Kind) (word rest : List ℕ) → IsWord word → length word ≤ 255 → IsEnded rest → name kind (word ++ rest) ≡ Some (kind, suc (length word))
unfolding name
name_complete kind word rest w l e =
    let len = word_len word rest w e in
    let fits : leb (length word) 255 ≡ true = grind (arith, nat_tests) in
    ap (λ n. cond (begins_word (word ++ rest) && leb n 255) (Some (kind, 1 + n)) None) len
    ∙ ap (λ t. cond t (Some (kind, 1 + length word)) None) (and_from _ _ (word_begins word rest w) fits)
    ∙ ap (λ n. Some (kind, n)) (one-add (length word))

-- strings

quote_at : (bytes : List ℕ) → begins_quote bytes ≡ true → (rest : List ℕ) × (bytes ≡ 34 ∷ rest)
quote_at [] h = absurd (cc)
quote_at (b ∷ bs) h = (bs, ap (λ x. x ∷ bs) ((Decides-eqb b 34).0 h))

quoted_is : (b : ℕ) (bs : List ℕ) → b ≡ 34 → LexemeIs (b ∷ bs) (quoted bs)
unfolding quoted
quoted_is b bs h =
    cond_cases (LexemeIs (b ∷ bs)) (begins_quote (drop (items_len (length bs) bs) bs)) _ None
    (λ t. let n : ℕ = items_len (length bs) bs in
    let at = quote_at (drop n bs) t in
    let same : take (2 + n) (b ∷ bs) ≡ b ∷ take (suc n) bs = ap (λ k. take k (b ∷ bs)) (two-add n) in
    let left : length bs - n ≡ suc (length at.0) = sym (length-drop n bs) ∙ ap length at.1 in
    (rw same (items (length bs) bs, (take (suc n) bs, ap (λ x. x ∷ take (suc n) bs) h, spells (length bs) bs at.0 at.1)), tt, omega (arith, left)))
    (λ _. tt)
  where
    two-add : (n : ℕ) → 2 + n ≡ suc (suc n)
    two-add n = omega arith

quoted_complete : (body rest bytes : List ℕ) → Spells body bytes → quoted (body ++ rest) ≡ Some (Quoted, suc (length body))
unfolding quoted
quoted_complete body rest bytes s =
    let less = Spells-length body bytes s in
    let enough : length bytes ≤ length (body ++ rest) = omega (arith, less, length-append body rest) in
    let c = closes body bytes rest (length (body ++ rest)) s enough in
    let n : ℕ = items_len (length (body ++ rest)) (body ++ rest) in
    let len : 2 + n ≡ suc (length body) = omega (arith, c.len) in
    ap (λ xs. cond (begins_quote xs) (Some (Quoted, 2 + n)) None) c.quote ∙ ap (λ k. Some (Quoted, k)) len

-- the whole

pub lexeme_sound : (bytes : List ℕ) → LexemeIs bytes (lexeme bytes)
unfolding lexeme
lexeme_sound [] = tt
lexeme_sound (b ∷ bs) =
    cond_cases (LexemeIs (b ∷ bs)) (is_word_start b) _ _ (λ t. word t) (λ _.
    cond_cases (LexemeIs (b ∷ bs)) (is_digit b) _ _ (λ t. natural_is b bs t) (λ _.
    cond_cases (LexemeIs (b ∷ bs)) (eqb b 36) _ _ (λ t. name_is Global b bs tt (λ w i l. (w, ap (λ x. x ∷ w) ((Decides-eqb b 36).0 t), i, l))) (λ _.
    cond_cases (LexemeIs (b ∷ bs)) (eqb b 37) _ _ (λ t. name_is Temp b bs tt (λ w i l. (w, ap (λ x. x ∷ w) ((Decides-eqb b 37).0 t), i, l))) (λ _.
    cond_cases (LexemeIs (b ∷ bs)) (eqb b 64) _ _ (λ t. name_is Label b bs tt (λ w i l. (w, ap (λ x. x ∷ w) ((Decides-eqb b 64).0 t), i, l))) (λ _.
    cond_cases (LexemeIs (b ∷ bs)) (eqb b 45) _ _ (λ t. negative_is b bs ((Decides-eqb b 45).0 t)) (λ _.
    cond_cases (LexemeIs (b ∷ bs)) (eqb b 34) _ None (λ t. quoted_is b bs ((Decides-eqb b 34).0 t)) (λ _. tt)))))))
  where
    word : is_word_start b ≡ true → LexemeIs (b ∷ bs) (Some (Word, 1 + prefix_len is_word_part bs))
    word t =
        let n : ℕ = prefix_len is_word_part bs in
        let bound = prefix_len-le-length is_word_part bs in
        let same : take (1 + n) (b ∷ bs) ≡ b ∷ take n bs = ap (λ k. take k (b ∷ bs)) (one-add n) in
        (rw same (t, run_passes is_word_part bs), tt, omega (arith, bound))

digit_start : (b : ℕ) → is_digit b ≡ true → is_word_start b ≡ false
digit_start b h = grind (arith, nat_tests)

natural_first : (text rest : List ℕ) → IsTrue (list_all is_digit text) → text ≢ [] → lexeme (text ++ rest) ≡ natural (text ++ rest)
unfolding lexeme
natural_first [] rest d some = absurd (some refl)
natural_first (b ∷ bs) rest d some =
    let digit : is_digit b ≡ true = (and_parts (is_digit b) (list_all is_digit bs) d).0 in
    rw (digit_start b digit, digit) refl

word_first : (text rest : List ℕ) → IsWord text → IsEnded rest → lexeme (text ++ rest) ≡ Some (Word, length text)
unfolding lexeme
word_first [] rest w e = absurd w
word_first (b ∷ bs) rest w e =
    let len : prefix_len is_word_part (bs ++ rest) ≡ length bs = run_len is_word_part bs rest w.1 (ended_word rest e) in
    rw w.0 (ap (λ n. Some (Word, n)) (one-add (prefix_len is_word_part (bs ++ rest)) ∙ ap suc len))

global_first : (bs : List ℕ) → lexeme (36 ∷ bs) ≡ name Global bs
unfolding lexeme
global_first bs = refl

temp_first : (bs : List ℕ) → lexeme (37 ∷ bs) ≡ name Temp bs
unfolding lexeme
temp_first bs = refl

label_first : (bs : List ℕ) → lexeme (64 ∷ bs) ≡ name Label bs
unfolding lexeme
label_first bs = refl

negative_first : (bs : List ℕ) → lexeme (45 ∷ bs) ≡ negative bs
unfolding lexeme
negative_first bs = refl

quoted_first : (bs : List ℕ) → lexeme (34 ∷ bs) ≡ quoted bs
unfolding lexeme
quoted_first bs = refl

pub lexeme_complete : (kind : Kind) (text rest : List ℕ) → IsLoose kind → IsText kind text → IsEnded rest → lexeme (text ++ rest) ≡ Some (kind, length text)
lexeme_complete (Symbol s) text rest loose t e = absurd loose
lexeme_complete Newline text rest loose t e = absurd loose
lexeme_complete Word text rest loose t e = word_first text rest t e
lexeme_complete Global text rest loose t e = rw t.1 (global_first (t.0 ++ rest) ∙ name_complete Global t.0 rest t.2 t.3 e)
lexeme_complete Temp text rest loose t e = rw t.1 (temp_first (t.0 ++ rest) ∙ name_complete Temp t.0 rest t.2 t.3 e)
lexeme_complete Label text rest loose t e = rw t.1 (label_first (t.0 ++ rest) ∙ name_complete Label t.0 rest t.2 t.3 e)
lexeme_complete (Natural v) text rest loose t e = natural_first text rest t.digits.digits t.digits.some ∙ natural_complete text rest v t e
lexeme_complete (Negative v) text rest loose t e =
    rw t.text_is (rw t.value_is (negative_first (t.digits ++ rest) ∙ negative_complete t.digits rest t.amount t.digits_are t.fits e))
lexeme_complete Quoted text rest loose t e =
    rw t.1.1 (quoted_first (t.1.0 ++ rest) ∙ quoted_complete t.1.0 rest t.0 t.1.2)
