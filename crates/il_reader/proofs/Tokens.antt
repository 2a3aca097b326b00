-- Rules of one token.
use Rattle.std.proofs.Common.{◌≡◌, inl, inr, ℕ, true, cond, eqb, List, ◌∷◌, drop, Option, Some, None, refl, sym, ap, ◌∙◌, ⊎_elim, subst, nat_eq}
use Rattle.std.specs.Cmp.Lexicographic.{pointwise}
use Rattle.std.proofs.lemmas.Option.{same_Some, none-some, some_pair_parts}
use Rattle.std.specs.Cmp.Lexicographic.{bytes_decides}
use Rattle.il_lex.proofs.Runs.{cond_cases}
use Rattle.std.proofs.lemmas.Bool.Decides.{Decides-eqb}
use Rattle.il_lex.specs.declared.kind.Symbol.{Symbol as Mark}
use Rattle.il_lex.specs.declared.kind.Symbol.TheVariants.{Comma, Equals, LeftBrace, RightBrace, LeftParen, RightParen, Plus}
use Rattle.il_lex.specs.declared.kind.Kind.{Kind}
use Rattle.il_lex.specs.declared.kind.Kind.TheVariants.{Symbol, Newline, Word, Global, Temp, Label, Natural, Negative, Quoted}
use Rattle.il_lex.specs.Next.{symbol_byte, IsName}
use Rattle.il_lex.specs.Scan.{symbol_of, string_bytes}
use Rattle.il_lex.specs.Quoted.{IsString}
use Rattle.il_lex.proofs.Exact.{string_complete}
use Rattle.il_reader.specs.Prelude.{State, place, with_name}
use Rattle.il_reader.specs.Rules as rule
use Rattle.il_reader.specs.Steps as step
use Rattle.il_reader.proofs.Exact.{Exact, Anything, chosen, choose_exact, said, bind}

-- the end of a line

newline_from : (kind : Kind) (text : List ℕ) (s : State) (x : Unit {0}) (s' : State) → rule.token kind s text s' → step.newline_test kind text ≡ Some x → rule.newline s x s'
newline_from (Symbol m) text s x s' t e = absurd (cc)
newline_from Newline text s x s' t e = (text, s', t, (refl, refl))
newline_from Word text s x s' t e = absurd (cc)
newline_from Global text s x s' t e = absurd (cc)
newline_from Temp text s x s' t e = absurd (cc)
newline_from Label text s x s' t e = absurd (cc)
newline_from (Natural n) text s x s' t e = absurd (cc)
newline_from (Negative n) text s x s' t e = absurd (cc)
newline_from Quoted text s x s' t e = absurd (cc)

pub newline_exact : Exact step.newline rule.newline Anything
newline_exact = said step.newline (chosen step.newline_test) rule.newline Anything
    (λ s x s' h. newline_from h.0 h.1 s x s' h.2 h.3)
    (λ s x s' h. (Newline, h.0, subst (rule.token Newline s h.0) (sym h.3.1) h.2, refl))
    (choose_exact step.newline_test)

-- numbers

natural_from : (kind : Kind) (text : List ℕ) (s : State) (x : ℕ) (s' : State) → rule.token kind s text s' → step.natural_test kind text ≡ Some x → rule.natural s x s'
natural_from (Symbol m) text s x s' t e = absurd (cc)
natural_from Newline text s x s' t e = absurd (cc)
natural_from Word text s x s' t e = absurd (cc)
natural_from Global text s x s' t e = absurd (cc)
natural_from Temp text s x s' t e = absurd (cc)
natural_from Label text s x s' t e = absurd (cc)
natural_from (Natural n) text s x s' t e = (text, subst (λ n. rule.token (Natural n) s text s') (same_Some n x e) t)
natural_from (Negative n) text s x s' t e = absurd (cc)
natural_from Quoted text s x s' t e = absurd (cc)

pub natural_exact : Exact step.natural rule.natural Anything
natural_exact = said step.natural (chosen step.natural_test) rule.natural Anything
    (λ s x s' h. natural_from h.0 h.1 s x s' h.2 h.3)
    (λ s x s' h. (Natural x, h.0, h.1, refl))
    (choose_exact step.natural_test)

integer_from : (kind : Kind) (text : List ℕ) (s : State) (x : ℕ) (s' : State) → rule.token kind s text s' → step.integer_test kind text ≡ Some x → rule.integer s x s'
integer_from (Symbol m) text s x s' t e = absurd (cc)
integer_from Newline text s x s' t e = absurd (cc)
integer_from Word text s x s' t e = absurd (cc)
integer_from Global text s x s' t e = absurd (cc)
integer_from Temp text s x s' t e = absurd (cc)
integer_from Label text s x s' t e = absurd (cc)
integer_from (Natural n) text s x s' t e = inl (text, subst (λ n. rule.token (Natural n) s text s') (same_Some n x e) t)
integer_from (Negative n) text s x s' t e = inr (text, subst (λ n. rule.token (Negative n) s text s') (same_Some n x e) t)
integer_from Quoted text s x s' t e = absurd (cc)

pub integer_exact : Exact step.integer rule.integer Anything
integer_exact = said step.integer (chosen step.integer_test) rule.integer Anything
    (λ s x s' h. integer_from h.0 h.1 s x s' h.2 h.3)
    (λ s x s' h. ⊎_elim (λ w. (Natural x, w.0, w.1, refl)) (λ w. (Negative x, w.0, w.1, refl)) h)
    (choose_exact step.integer_test)

-- strings

quoted_text : (s : State) (text : List ℕ) (s' : State) → rule.token Quoted s text s' → (bytes : List ℕ) × IsString text bytes
quoted_text s text s' t = t.2.text_is

string_from : (kind : Kind) (text : List ℕ) (s : State) (x : List ℕ) (s' : State) → rule.token kind s text s' → step.string_test kind text ≡ Some x → rule.string s x s'
string_from (Symbol m) text s x s' t e = absurd (cc)
string_from Newline text s x s' t e = absurd (cc)
string_from Word text s x s' t e = absurd (cc)
string_from Global text s x s' t e = absurd (cc)
string_from Temp text s x s' t e = absurd (cc)
string_from Label text s x s' t e = absurd (cc)
string_from (Natural n) text s x s' t e = absurd (cc)
string_from (Negative n) text s x s' t e = absurd (cc)
string_from Quoted text s x s' t e =
    let w = quoted_text s text s' t in
    (text, t, subst (IsString text) (sym (string_complete text w.0 w.1) ∙ same_Some (string_bytes text) x e) w.1)

pub string_exact : Exact step.string rule.string Anything
string_exact = said step.string (chosen step.string_test) rule.string Anything
    (λ s x s' h. string_from h.0 h.1 s x s' h.2 h.3)
    (λ s x s' h. (Quoted, h.0, h.1, ap Some (string_complete h.0 x h.2)))
    (choose_exact step.string_test)

-- symbols

back : (m : Mark) → symbol_of (symbol_byte m) ≡ Some m
unfolding symbol_of
back Comma = refl
back Equals = refl
back LeftBrace = refl
back RightBrace = refl
back LeftParen = refl
back RightParen = refl
back Plus = refl

same_mark : (m w : Mark) → symbol_byte m ≡ symbol_byte w → m ≡ w
same_mark m w e = same_Some m w (sym (back m) ∙ ap symbol_of e ∙ back w)

piece_from : (mark : Mark) (kind : Kind) (text : List ℕ) (s : State) (x : Unit {0}) (s' : State) → rule.token kind s text s' → step.piece_test mark kind text ≡ Some x → rule.piece mark s x s'
piece_from mark (Symbol m) text s x s' t e =
    cond_cases (λ o. o ≡ Some x → rule.piece mark s x s') (eqb (symbol_byte m) (symbol_byte mark)) (Some tt) None
    (λ y _. let same : m ≡ mark = same_mark m mark ((Decides-eqb (symbol_byte m) (symbol_byte mark)).0 y) in
    (text, s', subst (λ m. rule.token (Symbol m) s text s') same t, (refl, refl)))
    (λ n h. absurd (none-some x h)) e
piece_from mark Newline text s x s' t e = absurd (cc)
piece_from mark Word text s x s' t e = absurd (cc)
piece_from mark Global text s x s' t e = absurd (cc)
piece_from mark Temp text s x s' t e = absurd (cc)
piece_from mark Label text s x s' t e = absurd (cc)
piece_from mark (Natural n) text s x s' t e = absurd (cc)
piece_from mark (Negative n) text s x s' t e = absurd (cc)
piece_from mark Quoted text s x s' t e = absurd (cc)

pub piece_exact : (mark : Mark) → Exact (step.piece mark) (rule.piece mark) Anything
piece_exact mark = said (step.piece mark) (chosen (step.piece_test mark)) (rule.piece mark) Anything
    (λ s x s' h. piece_from mark h.0 h.1 s x s' h.2 h.3)
    (λ s x s' h. (
      Symbol mark,
      h.0,
      subst (rule.token (Symbol mark) s h.0) (sym h.3.1) h.2,
      ap (λ b. cond b (Some tt) None) ((Decides-eqb (symbol_byte mark) (symbol_byte mark)).1 refl),
    ))
    (choose_exact (step.piece_test mark))

-- words that stand for something, each for what it spells

abbrev pub spelled : {A : Type 0} → (A → List ℕ) → rule.Rule A
spelled spelling s x s' = rule.token Word s (spelling x) s'

pub keyword_from : {A : Type 0} (meaning : List ℕ → Option A) (kind : Kind) (text : List ℕ) (x : A) → step.word_test meaning kind text ≡ Some x → (kind ≡ Word) × (meaning text ≡ Some x)
keyword_from meaning (Symbol m) text x e = absurd (none-some x e)
keyword_from meaning Newline text x e = absurd (none-some x e)
keyword_from meaning Word text x e = (refl, e)
keyword_from meaning Global text x e = absurd (none-some x e)
keyword_from meaning Temp text x e = absurd (none-some x e)
keyword_from meaning Label text x e = absurd (none-some x e)
keyword_from meaning (Natural n) text x e = absurd (none-some x e)
keyword_from meaning (Negative n) text x e = absurd (none-some x e)
keyword_from meaning Quoted text x e = absurd (none-some x e)

pub spelled_exact : {A : Type 0} (spelling : A → List ℕ) (meaning : List ℕ → Option A)
    → ((text : List ℕ) (x : A) → meaning text ≡ Some x → text ≡ spelling x) → ((x : A) → meaning (spelling x) ≡ Some x)
    → Exact (step.keyword meaning) (spelled spelling) Anything
spelled_exact spelling meaning only each = said (step.keyword meaning) (chosen (step.word_test meaning)) (spelled spelling) Anything
    (λ s x s' h.
    let parts = keyword_from meaning h.0 h.1 x h.3 in
    subst (λ text. rule.token Word s text s') (only h.1 x parts.1) (subst (λ kind. rule.token kind s h.1 s') parts.0 h.2))
    (λ s x s' h. (Word, spelling x, h, each x))
    (choose_exact (step.word_test meaning))

same_bytes : (xs ys : List ℕ) → pointwise nat_eq xs ys ≡ true → xs ≡ ys
same_bytes xs ys h = (bytes_decides xs ys).0 h

bytes_same : (xs : List ℕ) → pointwise nat_eq xs xs ≡ true
bytes_same xs = (bytes_decides xs xs).1 refl

-- one word
pub word_exact : (text : List ℕ) → Exact (step.word text) (rule.word text) Anything
word_exact text = spelled_exact (λ _. text) (step.is_word text)
    (λ found x e. cond_cases (λ o. o ≡ Some x → found ≡ text) (pointwise nat_eq found text) (Some tt) None
    (λ y _. same_bytes found text y) (λ n h. absurd (none-some x h)) e)
    (λ x. ap (λ b. cond b (Some tt) None) (bytes_same text))

-- names

temp_text : (s : State) (text : List ℕ) (s' : State) → rule.token Temp s text s' → IsName 37 text
temp_text s text s' t = t.2.text_is

label_text : (s : State) (text : List ℕ) (s' : State) → rule.token Label s text s' → IsName 64 text
label_text s text s' t = t.2.text_is

symbol_text : (s : State) (text : List ℕ) (s' : State) → rule.token Global s text s' → IsName 36 text
symbol_text s text s' t = t.2.text_is

-- a token of the kind, by what stands behind its sigil
abbrev pub named : Kind → ℕ → rule.Rule (List ℕ)
named kind sigil s name s' = rule.token kind s (sigil ∷ name) s'

temp_from : (kind : Kind) (text : List ℕ) (s : State) (x : List ℕ) (s' : State) → rule.token kind s text s' → step.temp_test kind text ≡ Some x → named Temp 37 s x s'
temp_from (Symbol m) text s x s' t e = absurd (none-some x e)
temp_from Newline text s x s' t e = absurd (none-some x e)
temp_from Word text s x s' t e = absurd (none-some x e)
temp_from Global text s x s' t e = absurd (none-some x e)
temp_from Temp text s x s' t e =
    let n = temp_text s text s' t in
    let name : n.0 ≡ x = sym (ap (drop 1) n.1) ∙ same_Some (drop 1 text) x e in
    subst (λ text. rule.token Temp s text s') (n.1 ∙ ap (λ name. 37 ∷ name) name) t
temp_from Label text s x s' t e = absurd (none-some x e)
temp_from (Natural n) text s x s' t e = absurd (none-some x e)
temp_from (Negative n) text s x s' t e = absurd (none-some x e)
temp_from Quoted text s x s' t e = absurd (none-some x e)

label_from : (kind : Kind) (text : List ℕ) (s : State) (x : List ℕ) (s' : State) → rule.token kind s text s' → step.label_test kind text ≡ Some x → named Label 64 s x s'
label_from (Symbol m) text s x s' t e = absurd (none-some x e)
label_from Newline text s x s' t e = absurd (none-some x e)
label_from Word text s x s' t e = absurd (none-some x e)
label_from Global text s x s' t e = absurd (none-some x e)
label_from Temp text s x s' t e = absurd (none-some x e)
label_from Label text s x s' t e =
    let n = label_text s text s' t in
    let name : n.0 ≡ x = sym (ap (drop 1) n.1) ∙ same_Some (drop 1 text) x e in
    subst (λ text. rule.token Label s text s') (n.1 ∙ ap (λ name. 64 ∷ name) name) t
label_from (Natural n) text s x s' t e = absurd (none-some x e)
label_from (Negative n) text s x s' t e = absurd (none-some x e)
label_from Quoted text s x s' t e = absurd (none-some x e)

symbol_from : (kind : Kind) (text : List ℕ) (s : State) (x : List ℕ) (s' : State) → rule.token kind s text s' → step.symbol_test kind text ≡ Some x → named Global 36 s x s'
symbol_from (Symbol m) text s x s' t e = absurd (none-some x e)
symbol_from Newline text s x s' t e = absurd (none-some x e)
symbol_from Word text s x s' t e = absurd (none-some x e)
symbol_from Global text s x s' t e =
    let n = symbol_text s text s' t in
    let name : n.0 ≡ x = sym (ap (drop 1) n.1) ∙ same_Some (drop 1 text) x e in
    subst (λ text. rule.token Global s text s') (n.1 ∙ ap (λ name. 36 ∷ name) name) t
symbol_from Temp text s x s' t e = absurd (none-some x e)
symbol_from Label text s x s' t e = absurd (none-some x e)
symbol_from (Natural n) text s x s' t e = absurd (none-some x e)
symbol_from (Negative n) text s x s' t e = absurd (none-some x e)
symbol_from Quoted text s x s' t e = absurd (none-some x e)

temp_name_exact : Exact (step.choose step.temp_test) (named Temp 37) Anything
temp_name_exact = said (step.choose step.temp_test) (chosen step.temp_test) (named Temp 37) Anything
    (λ s x s' h. temp_from h.0 h.1 s x s' h.2 h.3) (λ s x s' h. (Temp, 37 ∷ x, h, refl)) (choose_exact step.temp_test)

label_name_exact : Exact (step.choose step.label_test) (named Label 64) Anything
label_name_exact = said (step.choose step.label_test) (chosen step.label_test) (named Label 64) Anything
    (λ s x s' h. label_from h.0 h.1 s x s' h.2 h.3) (λ s x s' h. (Label, 64 ∷ x, h, refl)) (choose_exact step.label_test)

symbol_name_exact : Exact (step.choose step.symbol_test) (named Global 36) Anything
symbol_name_exact = said (step.choose step.symbol_test) (chosen step.symbol_test) (named Global 36) Anything
    (λ s x s' h. symbol_from h.0 h.1 s x s' h.2 h.3) (λ s x s' h. (Global, 36 ∷ x, h, refl)) (choose_exact step.symbol_test)

-- what a state gives, and the state that it becomes
abbrev pub turned : (State → ℕ) → (State → State) → rule.Rule ℕ
turned number after s n s' = (n ≡ number s) × (s' ≡ after s)

turned_exact : (number : State → ℕ) (after : State → State) → Exact (λ s. Some (number s, after s)) (turned number after) Anything
turned_exact number after = record {
  sound = λ s n s' e. let parts = some_pair_parts (number s) n (after s) s' e in (sym parts.0, sym parts.1);
  complete = λ s n s' h f. ap (λ x. Some (x, after s)) (sym h.0) ∙ ap (λ x. Some (n, x)) (sym h.1);
}

pub temp_exact : Exact step.temp rule.temp Anything
temp_exact = said step.temp _ rule.temp Anything
    (λ s x s' h. (h.0, h.1, h.2, h.3.0, h.3.1)) (λ s x s' h. (h.0, h.1, h.2, (h.3, h.4)))
    (bind (step.choose step.temp_test) (named Temp 37) (λ name s. Some (place name s.temps, record s { temps = with_name name s.temps }))
    (λ name. turned (λ s. place name s.temps) (λ s. record s { temps = with_name name s.temps })) Anything
    temp_name_exact (λ name. turned_exact (λ s. place name s.temps) (λ s. record s { temps = with_name name s.temps })))

pub label_exact : Exact step.label rule.label Anything
label_exact = said step.label _ rule.label Anything
    (λ s x s' h. (h.0, h.1, h.2, h.3.0, h.3.1)) (λ s x s' h. (h.0, h.1, h.2, (h.3, h.4)))
    (bind (step.choose step.label_test) (named Label 64) (λ name s. Some (place name s.labels, record s { labels = with_name name s.labels }))
    (λ name. turned (λ s. place name s.labels) (λ s. record s { labels = with_name name s.labels })) Anything
    label_name_exact (λ name. turned_exact (λ s. place name s.labels) (λ s. record s { labels = with_name name s.labels })))

pub symbol_exact : Exact step.symbol rule.symbol Anything
symbol_exact = said step.symbol _ rule.symbol Anything
    (λ s x s' h. (h.0, h.1, h.2, h.3.0, h.3.1)) (λ s x s' h. (h.0, h.1, h.2, (h.3, h.4)))
    (bind (step.choose step.symbol_test) (named Global 36) (λ name s. Some (place name s.symbols, record s { symbols = with_name name s.symbols }))
    (λ name. turned (λ s. place name s.symbols) (λ s. record s { symbols = with_name name s.symbols })) Anything
    symbol_name_exact (λ name. turned_exact (λ s. place name s.symbols) (λ s. record s { symbols = with_name name s.symbols })))
