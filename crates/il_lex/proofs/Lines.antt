-- Only the end of a line counts as one: no gap and no other token holds byte 10.
use Rattle.std.proofs.Common.{◌≡◌, inl, inr, ℕ, ◌+◌, Bool, true, false, cond, eqb, List, [], ◌∷◌, ◌++◌, Some, None, refl, ap, ◌∙◌, arith}
use Rattle.std.specs.List.{list_all}
use Rattle.std.proofs.lemmas.List.Sums.{sum_by-append, sum_by-cons}
use Rattle.std.proofs.lemmas.Bool.{and_parts}
use Rattle.std.proofs.lemmas.Bool.Decides.{nat_tests, Decides-eqb}
use Rattle.il_lex.specs.Quoted.{is_spacing, is_digit, is_octal, is_word_start, is_word_part, is_in_comment, is_plain, escaped, IsItem, Spells}
use Rattle.il_lex.specs.Next.{symbol_byte, IsText, IsWord, IsBlank, IsGap, lines_in, line_ends}
use Rattle.il_lex.specs.declared.kind.Symbol.{Symbol as TheSymbol}
use Rattle.il_lex.specs.declared.kind.Symbol.TheVariants.{Comma, Equals, LeftBrace, RightBrace, LeftParen, RightParen, Plus}
use Rattle.il_lex.specs.declared.kind.Kind.{Kind}
use Rattle.il_lex.specs.declared.kind.Kind.TheVariants.{Symbol, Newline, Word, Global, Temp, Label, Natural, Negative, Quoted}

pub lines-append : (xs ys : List ℕ) → lines_in (xs ++ ys) ≡ lines_in xs + lines_in ys
lines-append xs ys = sum_by-append (λ b. cond (eqb b 10) 1 0) xs ys

lines-cons : (x : ℕ) (xs : List ℕ) → eqb x 10 ≡ false → lines_in xs ≡ 0 → lines_in (x ∷ xs) ≡ 0
lines-cons x xs h e =
    sum_by-cons (λ b. cond (eqb b 10) 1 0) x xs
    ∙ ap (λ b. cond b 1 0 + lines_in xs) h
    ∙ omega arith

-- bytes that pass a test which byte 10 fails
none_in : (p : ℕ → Bool) → ((b : ℕ) → p b ≡ true → eqb b 10 ≡ false) → (xs : List ℕ) → list_all p xs ≡ true → lines_in xs ≡ 0
none_in p h [] a = refl
none_in p h (x ∷ xs) a =
    let parts = and_parts (p x) (list_all p xs) a in
    lines-cons x xs (h x parts.0) (none_in p h xs parts.1)

no_spacing : (b : ℕ) → is_spacing b ≡ true → eqb b 10 ≡ false
no_spacing b h = grind (arith, nat_tests)

no_comment : (b : ℕ) → is_in_comment b ≡ true → eqb b 10 ≡ false
no_comment b h = grind (arith, nat_tests)

no_digit : (b : ℕ) → is_digit b ≡ true → eqb b 10 ≡ false
no_digit b h = grind (arith, nat_tests)

no_octal : (b : ℕ) → is_octal b ≡ true → eqb b 10 ≡ false
no_octal b h = grind (arith, nat_tests)

no_start : (b : ℕ) → is_word_start b ≡ true → eqb b 10 ≡ false
no_start b h = grind (arith, nat_tests)

no_part : (b : ℕ) → is_word_part b ≡ true → eqb b 10 ≡ false
no_part b h = grind (arith, nat_tests)

no_plain : (b : ℕ) → is_plain b ≡ true → eqb b 10 ≡ false
no_plain b h = grind (arith, nat_tests)

no_escaped : (c byte : ℕ) → escaped c ≡ Some byte → eqb c 10 ≡ false
no_escaped c byte e = not_so (eqb c 10) never
  where
    not_so : (b : Bool) → (b ≡ true → ⊥) → b ≡ false
    not_so true h = absurd (h refl)
    not_so false h = refl

    never : eqb c 10 ≡ true → ⊥
    never t =
        let none : escaped c ≡ None = ap escaped ((Decides-eqb c 10).0 t) in
        cc

lines_blank : (gap : List ℕ) → IsBlank gap → lines_in gap ≡ 0
lines_blank gap (inl s) = none_in is_spacing no_spacing gap s
lines_blank gap (inr w) =
    ap lines_in w.2 ∙ lines-append w.0 (35 ∷ w.1)
    ∙ omega (arith, none_in is_spacing no_spacing w.0 w.3, lines-cons 35 w.1 refl (none_in is_in_comment no_comment w.1 w.4))

pub lines_gap : (kind : Kind) (gap : List ℕ) → IsGap kind gap → lines_in gap ≡ 0
lines_gap (Symbol s) gap g = none_in is_spacing no_spacing gap g
lines_gap Newline gap g = lines_blank gap g
lines_gap Word gap g = none_in is_spacing no_spacing gap g
lines_gap Global gap g = none_in is_spacing no_spacing gap g
lines_gap Temp gap g = none_in is_spacing no_spacing gap g
lines_gap Label gap g = none_in is_spacing no_spacing gap g
lines_gap (Natural v) gap g = none_in is_spacing no_spacing gap g
lines_gap (Negative v) gap g = none_in is_spacing no_spacing gap g
lines_gap Quoted gap g = none_in is_spacing no_spacing gap g

lines_item : (text : List ℕ) (byte : ℕ) (after : List ℕ) → IsItem text byte after → lines_in text ≡ 0
lines_item text byte after (inl w) = ap lines_in w.0 ∙ lines-cons byte [] (no_plain byte w.1) refl
lines_item text byte after (inr (inl w)) = ap lines_in w.1 ∙ lines-cons 92 (w.0 ∷ []) refl (lines-cons w.0 [] (no_escaped w.0 byte w.2) refl)
lines_item text byte after (inr (inr w)) = ap lines_in w.1 ∙ lines-cons 92 w.0 refl (none_in is_octal no_octal w.0 w.2.octal_digits)

lines_spelled : (text bytes : List ℕ) → Spells text bytes → lines_in text ≡ 0
lines_spelled text [] s = ap lines_in s
lines_spelled text (b ∷ bs) s =
    ap lines_in s.2 ∙ lines-append s.0 s.1 ∙ omega (arith, lines_item s.0 b s.1 s.3, lines_spelled s.1 bs s.4)

lines_word : (text : List ℕ) → IsWord text → lines_in text ≡ 0
lines_word [] w = refl
lines_word (b ∷ bs) w = lines-cons b bs (no_start b w.0) (none_in is_word_part no_part bs w.1)

lines_symbol : (s : TheSymbol) → lines_in (symbol_byte s ∷ []) ≡ 0
lines_symbol Comma = refl
lines_symbol Equals = refl
lines_symbol LeftBrace = refl
lines_symbol RightBrace = refl
lines_symbol LeftParen = refl
lines_symbol RightParen = refl
lines_symbol Plus = refl

pub lines_text : (kind : Kind) (text : List ℕ) → IsText kind text → lines_in text ≡ line_ends kind
lines_text (Symbol s) text t = ap lines_in t ∙ lines_symbol s
lines_text Newline text t = ap lines_in t
lines_text Word text t = lines_word text t
lines_text Global text t = ap lines_in t.1 ∙ lines-cons 36 t.0 refl (lines_word t.0 t.2)
lines_text Temp text t = ap lines_in t.1 ∙ lines-cons 37 t.0 refl (lines_word t.0 t.2)
lines_text Label text t = ap lines_in t.1 ∙ lines-cons 64 t.0 refl (lines_word t.0 t.2)
lines_text (Natural v) text t = none_in is_digit no_digit text t.digits.digits
lines_text (Negative v) text t = ap lines_in t.text_is ∙ lines-cons 45 t.digits refl (none_in is_digit no_digit t.digits t.digits_are.digits)
lines_text Quoted text t = ap lines_in t.1.1 ∙ lines-cons 34 t.1.0 refl (lines_spelled t.1.0 t.0 t.1.2)
