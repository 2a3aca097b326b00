-- Data definitions.
use Rattle.std.proofs.Common.{◌≡◌, inl, inr, ℕ, Bool, true, false, List, [], ◌∷◌, Option, None, Some, refl, ap, ◌∙◌, ⊎_elim, subst, codes, unwrap_or}
use Rattle.il_lex.specs.declared.kind.Symbol.TheVariants.{Comma, Equals, LeftBrace, RightBrace, Plus}
use Rattle.il_lex.specs.declared.kind.Kind.{Kind}
use Rattle.il_lex.specs.declared.kind.Kind.TheVariants.{Symbol, Natural, Negative, Global as GlobalKind, Word as WordKind, Quoted}
use Rattle.il_ast.specs.declared.operation.Size.{Size}
use Rattle.il_ast.specs.declared.operation.Size.TheVariants.{Byte, Half, Word, Long}
use Rattle.il_ast.specs.declared.datum.Item.{Item}
use Rattle.il_ast.specs.declared.datum.Item.TheVariants.{Int, Bytes, Address}
use Rattle.il_ast.specs.declared.datum.Field.{Field}
use Rattle.il_ast.specs.declared.datum.Field.TheVariants.{Items, Zeros}
use Rattle.il_ast.specs.declared.datum.DataDef.{DataDef}
use Rattle.il_ast.specs.declared.text.Definition.{Definition}
use Rattle.il_ast.specs.declared.text.Definition.TheVariants.{Object}
use Rattle.il_reader.specs.Prelude.{State, size_word}
use Rattle.il_reader.specs.Rules as rule
use Rattle.il_reader.specs.Grammar as grammar
use Rattle.il_reader.specs.Reads as reads
use Rattle.il_reader.specs.Steps as step
use Rattle.il_reader.specs.Reading as reading
use Rattle.il_reader.specs.Definitions as definitions
use Rattle.il_reader.proofs.Exact.{Exact, Anything, give_exact, weaker, bind, bind_before, either_exact, sees_token, many_exact}
use Rattle.il_reader.proofs.Tokens.{word_exact, piece_exact, natural_exact, integer_exact, string_exact, symbol_exact}
use Rattle.il_reader.proofs.Lists.{maybe_exact, commas_exact}
use Rattle.il_reader.proofs.Operands.{size_exact, integer_sees}
use Rattle.il_reader.proofs.Jumps.{sees_word_of}
use Rattle.il_reader.proofs.Statements.{line_exact, LineGoesOn, newlines_exact}
use Rattle.il_reader.proofs.ExactStatements.{made_exact}
use Rattle.il_reader.proofs.ExactFunctions.{is_brace, BraceNext}
use Rattle.il_reader.proofs.KindTests.{apart, within}
use Rattle.il_reader.proofs.Shorter.{Shortens, keeps, give_keeps, line_keeps, then_keeps, first_shortens, either_shortens, maybe_keeps, some_shortens, commas_shortens, newlines_keep, word_shortens, piece_shortens, natural_shortens, integer_shortens, string_shortens, symbol_shortens}

pub spaced_exact : {A : Type 0} (p : step.Step A) (r : rule.Rule A) → Exact p r Anything → Exact (definitions.spaced p) (reads.spaced r) LineGoesOn
spaced_exact p r e =
    bind p r _ _ LineGoesOn e λ x.
    made_exact definitions.newlines rule.newlines (λ _. x) LineGoesOn newlines_exact

pub spaced_shortens : {A : Type 0} (r : rule.Rule A) → Shortens r → Shortens (reads.spaced r)
spaced_shortens r h = first_shortens r _ h λ x. then_keeps rule.newlines _ newlines_keep λ _. give_keeps x

-- ---- items

-- what comes behind an item
abbrev ends_item : Kind → Bool
ends_item (Natural n) = true
ends_item (Negative n) = true
ends_item GlobalKind = true
ends_item Quoted = true
ends_item (Symbol Comma) = true
ends_item (Symbol RightBrace) = true
ends_item _ = false

abbrev ItemEnds : State → Type 0
ItemEnds s = step.sees ends_item s ≡ true

-- what comes behind a field
abbrev ends_field : Kind → Bool
ends_field (Symbol Comma) = true
ends_field (Symbol RightBrace) = true
ends_field _ = false

abbrev FieldEnds : State → Type 0
FieldEnds s = step.sees ends_field s ≡ true

item_end_goes_on : (s : State) → ItemEnds s → LineGoesOn s
item_end_goes_on s h = apart ends_item reading.is_newline (refl, refl, refl, refl, refl, refl, refl, refl, refl, refl, refl, refl, λ n. refl, λ n. refl, refl) s h

item_end_no_plus : (s : State) → ItemEnds s → step.sees definitions.is_plus s ≡ false
item_end_no_plus s h = apart ends_item definitions.is_plus (refl, refl, refl, refl, refl, refl, refl, refl, refl, refl, refl, refl, λ n. refl, λ n. refl, refl) s h

item_ends : (s : State) → step.sees definitions.is_item s ≡ true → ItemEnds s
item_ends s h = within definitions.is_item ends_item (refl, refl, refl, refl, refl, refl, refl, refl, refl, refl, refl, refl, λ n. refl, λ n. refl, refl) s h

field_end_item : (s : State) → FieldEnds s → ItemEnds s
field_end_item s h = within ends_field ends_item (refl, refl, refl, refl, refl, refl, refl, refl, refl, refl, refl, refl, λ n. refl, λ n. refl, refl) s h

field_end_no_item : (s : State) → FieldEnds s → step.sees definitions.is_item s ≡ false
field_end_no_item s h = apart ends_field definitions.is_item (refl, refl, refl, refl, refl, refl, refl, refl, refl, refl, refl, refl, λ n. refl, λ n. refl, refl) s h

field_end_goes_on : (s : State) → FieldEnds s → LineGoesOn s
field_end_goes_on s h = item_end_goes_on s (field_end_item s h)

offset_exact : Exact definitions.offset (rule.◌>>◌ (reads.spaced (rule.piece Plus)) (reads.spaced rule.natural)) LineGoesOn
offset_exact =
    bind_before _ _ _ _ LineGoesOn LineGoesOn
    (λ _ s n s' h f. sees_token reading.is_newline (Natural h.0) s h.2.0 h.1 h.2.1)
    (spaced_exact (step.piece Plus) (rule.piece Plus) (piece_exact Plus)) λ _.
    spaced_exact step.natural rule.natural natural_exact

offset_begins : (s : State) (n : ℕ) (s' : State) → rule.◌>>◌ (reads.spaced (rule.piece Plus)) (reads.spaced rule.natural) s n s' → step.sees definitions.is_plus s ≡ true
offset_begins s n s' h = sees_token definitions.is_plus (Symbol Plus) s h.2.2.0 h.2.2.1 h.2.2.2

address_exact : Exact definitions.address reads.address ItemEnds
address_exact =
    bind_before _ _ _ _ LineGoesOn ItemEnds (λ g s a s' h f. before s h.0 h.1 h.2 (subst ItemEnds h.3.1 f))
    (spaced_exact step.symbol rule.symbol symbol_exact) λ g.
    made_exact _ _ (λ moved. Address g (unwrap_or moved 0)) ItemEnds
    (maybe_exact (step.sees definitions.is_plus) definitions.offset _ ItemEnds offset_begins item_end_no_plus
    (weaker definitions.offset _ LineGoesOn ItemEnds item_end_goes_on offset_exact))
  where
    before : (s : State) (o : Option ℕ) (s' : State) → rule.maybe (rule.◌>>◌ (reads.spaced (rule.piece Plus)) (reads.spaced rule.natural)) s o s' → ItemEnds s' → LineGoesOn s
    before s None s' h f = item_end_goes_on s (subst ItemEnds h f)
    before s (Some n) s' h f = sees_token reading.is_newline (Symbol Plus) s h.2.2.0 h.2.2.1 h.2.2.2

made_spaced : {A B : Type 0} (p : step.Step A) (r : rule.Rule A) (f : A → B) → Exact p r Anything
    → Exact (step.◌>>=◌ (definitions.spaced p) (λ x. step.give (f x))) (rule.◌>>=◌ (reads.spaced r) (λ x. rule.give (f x))) ItemEnds
made_spaced p r f e = made_exact (definitions.spaced p) (reads.spaced r) f ItemEnds (weaker (definitions.spaced p) (reads.spaced r) LineGoesOn ItemEnds item_end_goes_on (spaced_exact p r e))

item_exact : Exact definitions.item reads.item ItemEnds
item_exact =
    either_exact (step.sees reading.is_number) _ _ _ _ ItemEnds
    (λ s x s' h. integer_sees reading.is_number true (λ n. refl) (λ n. refl) s h.2.0 h.2.1 h.2.2)
    (λ s x s' h. ⊎_elim
    (λ w. sees_token reading.is_number Quoted s w.2.2.0 w.2.1 w.2.2.1)
    (λ w. sees_token reading.is_number GlobalKind s (36 ∷ w.2.2.0) w.2.2.1 w.2.2.2) h)
    (made_spaced step.integer rule.integer Int integer_exact)
    (either_exact (step.sees definitions.is_quoted) _ _ _ _ ItemEnds
    (λ s x s' w. sees_token definitions.is_quoted Quoted s w.2.2.0 w.2.1 w.2.2.1)
    (λ s x s' w. sees_token definitions.is_quoted GlobalKind s (36 ∷ w.2.2.0) w.2.2.1 w.2.2.2)
    (made_spaced step.string rule.string Bytes string_exact)
    address_exact)

item_begins : (s : State) (x : Item) (s' : State) → reads.item s x s' → step.sees definitions.is_item s ≡ true
item_begins s x s' h = ⊎_elim
    (λ w. integer_sees definitions.is_item true (λ n. refl) (λ n. refl) s w.2.0 w.2.1 w.2.2)
    (λ k. ⊎_elim
    (λ w. sees_token definitions.is_item Quoted s w.2.2.0 w.2.1 w.2.2.1)
    (λ w. sees_token definitions.is_item GlobalKind s (36 ∷ w.2.2.0) w.2.2.1 w.2.2.2) k) h

item_shortens : Shortens reads.item
item_shortens =
    either_shortens _ _ (first_shortens (reads.spaced rule.integer) _ (spaced_shortens rule.integer integer_shortens) λ n. give_keeps _)
    (either_shortens _ _ (first_shortens (reads.spaced rule.string) _ (spaced_shortens rule.string string_shortens) λ n. give_keeps _)
    (first_shortens (reads.spaced rule.symbol) _ (spaced_shortens rule.symbol symbol_shortens) λ g.
    then_keeps (rule.maybe _) _ (maybe_keeps _ (keeps _ (first_shortens (reads.spaced (rule.piece Plus)) _ (spaced_shortens (rule.piece Plus) (piece_shortens Plus)) λ _.
    keeps _ (spaced_shortens rule.natural natural_shortens)))) λ o. give_keeps _))

-- ---- fields

more_items : Exact (step.many (step.sees definitions.is_item) definitions.item) (rule.many reads.item) FieldEnds
more_items = many_exact (step.sees definitions.is_item) definitions.item reads.item ItemEnds FieldEnds
    item_begins field_end_no_item item_shortens.less item_ends field_end_item item_exact

abbrev AllItems : rule.Rule Field
AllItems = rule.◌>>=◌ (reads.spaced reads.size) λ c. rule.◌>>=◌ reads.item λ x. rule.◌>>=◌ (rule.many reads.item) λ xs. rule.give (Items c (x ∷ xs))

all_items_exact : Exact definitions.items AllItems FieldEnds
all_items_exact =
    bind_before _ _ _ _ LineGoesOn FieldEnds
    (λ c s y s' h f. item_end_goes_on s (item_ends s (item_begins s h.0 h.1 h.2)))
    (spaced_exact (step.keyword reading.size_of) reads.size size_exact) λ c.
    bind_before definitions.item reads.item _ _ ItemEnds FieldEnds
    (λ x s y s' h f. before s h.0 h.1 h.2 (subst FieldEnds h.3.1 f)) item_exact λ x.
    made_exact _ _ (λ xs. Items c (x ∷ xs)) FieldEnds more_items
  where
    before : (s : State) (xs : List Item) (s' : State) → rule.many reads.item s xs s' → FieldEnds s' → ItemEnds s
    before s [] s' h f = field_end_item s (subst FieldEnds h f)
    before s (x ∷ xs) s' h f = item_ends s (item_begins s x h.0 h.1)

items_exact : Exact definitions.items reads.items FieldEnds
items_exact = record {
  sound = λ s x s' e.
      let h = all_items_exact.sound s x s' e in
      let k = h.3 in
      let m = k.3 in
      (h.0, h.1, h.2, (k.0 ∷ m.0, m.1, (k.0, k.1, k.2, (m.0, m.1, m.2, (refl, refl))), m.3));
  complete = λ s x s' h f.
      let some' = h.3.2 in
      let m = some'.3 in
      let last = h.3.3 in
      all_items_exact.complete s x s' (h.0, h.1, h.2, (some'.0, some'.1, some'.2, (m.0, m.1, m.2, (last.0 ∙ ap (Items h.0) m.3.0, last.1 ∙ m.3.1)))) f;
}

zeros_exact : Exact definitions.zeros reads.zeros FieldEnds
zeros_exact =
    bind_before _ _ _ _ LineGoesOn FieldEnds
    (λ _ s y s' h f. sees_token reading.is_newline (Natural h.2.0) s h.2.2.0 h.2.1 h.2.2.1)
    (spaced_exact (step.word (codes "z")) (rule.word (codes "z")) (word_exact (codes "z"))) λ _.
    made_exact _ _ Zeros FieldEnds (weaker (definitions.spaced step.natural) (reads.spaced rule.natural) LineGoesOn FieldEnds field_end_goes_on (spaced_exact step.natural rule.natural natural_exact))

size_no_z : (c : Size) → reading.is_text (codes "z") (size_word c) ≡ false
size_no_z Byte = refl
size_no_z Half = refl
size_no_z Word = refl
size_no_z Long = refl

abbrev pub Fields : rule.Rule Field
Fields = rule.◌∥◌ reads.zeros reads.items

field_exact : Exact definitions.field Fields FieldEnds
field_exact = either_exact (reading.sees_word (reading.is_text (codes "z"))) _ _ _ _ FieldEnds
    (λ s x s' h. sees_word_of (reading.is_text (codes "z")) s (codes "z") h.2.1 h.2.2)
    (λ s x s' h. sees_word_of (reading.is_text (codes "z")) s (size_word h.2.0) h.2.1 h.2.2 ∙ size_no_z h.2.0)
    zeros_exact items_exact

-- the grammar has them the other way round
turned : (s : State) (x : Field) (s' : State) → Fields s x s' → rule.◌∥◌ reads.items reads.zeros s x s'
turned s x s' h = ⊎_elim (λ w. inr w) (λ w. inl w) h

turned_back : (s : State) (x : Field) (s' : State) → rule.◌∥◌ reads.items reads.zeros s x s' → Fields s x s'
turned_back s x s' h = ⊎_elim (λ w. inr w) (λ w. inl w) h

any_field_exact : Exact definitions.field (rule.◌∥◌ reads.items reads.zeros) FieldEnds
any_field_exact = record {
  sound = λ s x s' e. turned s x s' (field_exact.sound s x s' e);
  complete = λ s x s' h f. field_exact.complete s x s' (turned_back s x s' h) f;
}

field_begins : (s : State) (x : Field) (s' : State) → rule.◌∥◌ reads.items reads.zeros s x s' → step.sees reading.is_word s ≡ true
field_begins s x s' h = ⊎_elim
    (λ w. sees_token reading.is_word WordKind s (size_word w.2.0) w.2.1 w.2.2)
    (λ w. sees_token reading.is_word WordKind s (codes "z") w.2.1 w.2.2) h

field_shortens : Shortens (rule.◌∥◌ reads.items reads.zeros)
field_shortens = either_shortens _ _
    (first_shortens (reads.spaced reads.size) _ (spaced_shortens reads.size (record { less = λ s c s' h. (word_shortens (size_word c)).less s tt s' h })) λ c.
    then_keeps (rule.some reads.item) _ (keeps _ (some_shortens reads.item item_shortens)) λ xs. give_keeps _)
    (first_shortens (reads.spaced (rule.word (codes "z"))) _ (spaced_shortens (rule.word (codes "z")) (word_shortens (codes "z"))) λ _.
    then_keeps (reads.spaced rule.natural) _ (keeps _ (spaced_shortens rule.natural natural_shortens)) λ n. give_keeps _)

abbrev pub SpacedComma : rule.Rule (Unit {0})
SpacedComma = reads.spaced grammar.comma

spaced_comma_begins : (s : State) (x : Unit {0}) (s' : State) → SpacedComma s x s' → step.sees reading.is_comma s ≡ true
spaced_comma_begins s x s' h = sees_token reading.is_comma (Symbol Comma) s h.2.0 h.2.1 h.2.2

pub word_line_goes_on : (s : State) → step.sees reading.is_word s ≡ true → LineGoesOn s
word_line_goes_on s h = apart reading.is_word reading.is_newline (refl, refl, refl, refl, refl, refl, refl, refl, refl, refl, refl, refl, λ n. refl, λ n. refl, refl) s h

field_list_exact : Exact (step.commas (step.sees reading.is_comma) (definitions.spaced reading.comma) (step.sees reading.is_word) definitions.field)
    (rule.commas SpacedComma (rule.◌∥◌ reads.items reads.zeros)) BraceNext
field_list_exact = commas_exact (step.sees reading.is_comma) (step.sees reading.is_word) (definitions.spaced reading.comma) SpacedComma definitions.field (rule.◌∥◌ reads.items reads.zeros)
    LineGoesOn FieldEnds BraceNext
    spaced_comma_begins field_begins
    (λ s h. apart is_brace reading.is_comma (refl, refl, refl, refl, refl, refl, refl, refl, refl, refl, refl, refl, λ n. refl, λ n. refl, refl) s h)
    (λ s h. apart is_brace reading.is_word (refl, refl, refl, refl, refl, refl, refl, refl, refl, refl, refl, refl, λ n. refl, λ n. refl, refl) s h)
    (spaced_shortens grammar.comma (piece_shortens Comma)).less field_shortens.less
    word_line_goes_on
    (λ s h. apart is_brace reading.is_newline (refl, refl, refl, refl, refl, refl, refl, refl, refl, refl, refl, refl, λ n. refl, λ n. refl, refl) s h)
    (λ s h. within reading.is_comma ends_field (refl, refl, refl, refl, refl, refl, refl, refl, refl, refl, refl, refl, λ n. refl, λ n. refl, refl) s h)
    (λ s h. within is_brace ends_field (refl, refl, refl, refl, refl, refl, refl, refl, refl, refl, refl, refl, λ n. refl, λ n. refl, refl) s h)
    (spaced_exact (step.piece Comma) (rule.piece Comma) (piece_exact Comma)) any_field_exact

-- ---- data definitions

abbrev pub Head : rule.Rule (ℕ × ℕ)
Head = rule.◌>>◌ (reads.spaced (rule.word (codes "data"))) (rule.◌>>=◌ rule.line λ n. rule.◌>>=◌ (reads.spaced rule.symbol) λ name.
    rule.◌>>◌ (reads.spaced (rule.piece Equals)) (rule.give (n, name)))

head_exact : Exact definitions.object_head Head LineGoesOn
head_exact =
    bind_before _ _ _ _ LineGoesOn LineGoesOn
    (λ _ s y s' h f. subst LineGoesOn h.2.1 (sees_token reading.is_newline GlobalKind h.1 (36 ∷ h.3.2.2.0) h.3.2.2.1 h.3.2.2.2))
    (spaced_exact (step.word (codes "data")) (rule.word (codes "data")) (word_exact (codes "data"))) λ _.
    bind reading.line rule.line _ _ LineGoesOn line_exact λ n.
    bind_before _ _ _ _ LineGoesOn LineGoesOn
    (λ name s y s' h f. sees_token reading.is_newline (Symbol Equals) s h.2.2.0 h.2.2.1 h.2.2.2)
    (spaced_exact step.symbol rule.symbol symbol_exact) λ name.
    made_exact _ _ (λ _. (n, name)) LineGoesOn (spaced_exact (step.piece Equals) (rule.piece Equals) (piece_exact Equals))

abbrev pub Braced : rule.Rule (List Field)
Braced = rule.◌>>◌ (reads.spaced (rule.piece LeftBrace)) (rule.◌>>=◌ (rule.commas SpacedComma (rule.◌∥◌ reads.items reads.zeros)) λ xs.
    rule.◌>>◌ (rule.piece RightBrace) (rule.give xs))

fields_exact : Exact definitions.fields Braced Anything
fields_exact =
    bind_before _ _ _ _ LineGoesOn Anything
    (λ _ s y s' h f. word_line_goes_on s (field_begins s h.2.0 h.2.1 h.2.2))
    (spaced_exact (step.piece LeftBrace) (rule.piece LeftBrace) (piece_exact LeftBrace)) λ _.
    bind_before _ _ _ _ BraceNext Anything
    (λ xs s y s' h f. sees_token is_brace (Symbol RightBrace) s h.2.0 h.2.1 h.2.2)
    field_list_exact λ xs.
    bind (step.piece RightBrace) (rule.piece RightBrace) _ _ Anything (piece_exact RightBrace) λ _.
    give_exact xs

abbrev OpenNext : Kind → Bool
OpenNext (Symbol LeftBrace) = true
OpenNext _ = false

-- an opening brace comes next
abbrev Opens : State → Type 0
Opens s = step.sees OpenNext s ≡ true

opens_goes_on : (s : State) → Opens s → LineGoesOn s
opens_goes_on s h = apart OpenNext reading.is_newline (refl, refl, refl, refl, refl, refl, refl, refl, refl, refl, refl, refl, λ n. refl, λ n. refl, refl) s h

abbrev pub Aligned : rule.Rule ℕ
Aligned = rule.◌>>◌ (reads.spaced (rule.word (codes "align"))) (reads.spaced rule.natural)

alignment_exact : Exact definitions.alignment reads.alignment Opens
alignment_exact = maybe_exact (step.sees reading.is_word) definitions.aligned Aligned Opens
    (λ s n s' h. sees_token reading.is_word WordKind s (codes "align") h.2.1 h.2.2)
    (λ s h. apart OpenNext reading.is_word (refl, refl, refl, refl, refl, refl, refl, refl, refl, refl, refl, refl, λ n. refl, λ n. refl, refl) s h)
    (weaker definitions.aligned Aligned LineGoesOn Opens opens_goes_on
    (bind_before _ _ _ _ LineGoesOn LineGoesOn
    (λ _ s n s' h f. sees_token reading.is_newline (Natural h.0) s h.2.0 h.1 h.2.1)
    (spaced_exact (step.word (codes "align")) (rule.word (codes "align")) (word_exact (codes "align"))) λ _.
    spaced_exact step.natural rule.natural natural_exact))

abbrev pub Objects : Bool → rule.Rule DataDef
Objects exported = rule.◌>>=◌ Head λ head. rule.◌>>=◌ reads.alignment λ a. rule.◌>>=◌ Braced λ xs.
    rule.give (record { line = head.0; exported = exported; name = head.1; alignment = unwrap_or a 8; fields = xs })

pub objects_shorten : (exported : Bool) → Shortens (Objects exported)
objects_shorten exported =
    first_shortens Head _ (first_shortens (reads.spaced (rule.word (codes "data"))) _ (spaced_shortens (rule.word (codes "data")) (word_shortens (codes "data"))) λ _.
    then_keeps rule.line _ line_keeps λ n.
    then_keeps (reads.spaced rule.symbol) _ (keeps _ (spaced_shortens rule.symbol symbol_shortens)) λ name.
    then_keeps (reads.spaced (rule.piece Equals)) _ (keeps _ (spaced_shortens (rule.piece Equals) (piece_shortens Equals))) λ _. give_keeps _) λ head.
    then_keeps reads.alignment _ (maybe_keeps Aligned (keeps Aligned (first_shortens (reads.spaced (rule.word (codes "align"))) _ (spaced_shortens (rule.word (codes "align")) (word_shortens (codes "align"))) λ _.
    keeps _ (spaced_shortens rule.natural natural_shortens)))) λ a.
    then_keeps Braced _ (then_keeps (reads.spaced (rule.piece LeftBrace)) _ (keeps _ (spaced_shortens (rule.piece LeftBrace) (piece_shortens LeftBrace))) λ _.
    then_keeps (rule.commas SpacedComma (rule.◌∥◌ reads.items reads.zeros)) _
    (keeps _ (commas_shortens SpacedComma (rule.◌∥◌ reads.items reads.zeros) (keeps SpacedComma (spaced_shortens grammar.comma (piece_shortens Comma))) field_shortens)) λ xs.
    then_keeps (rule.piece RightBrace) _ (keeps _ (piece_shortens RightBrace)) λ _. give_keeps xs) λ xs. give_keeps _

opened : (s : State) (xs : List Field) (s' : State) → Braced s xs s' → Opens s
opened s xs s' h = sees_token OpenNext (Symbol LeftBrace) s h.2.2.0 h.2.2.1 h.2.2.2

pub objects_exact : (exported : Bool) → Exact (definitions.object exported) (Objects exported) Anything
objects_exact exported =
    bind_before definitions.object_head Head _ _ LineGoesOn Anything
    (λ head s y s' h f. before s h.0 h.1 h.2 (opened h.1 h.3.0 h.3.1 h.3.2)) head_exact λ head.
    bind_before definitions.alignment reads.alignment _ _ Opens Anything
    (λ a s y s' h f. opened s h.0 h.1 h.2) alignment_exact λ a.
    bind definitions.fields Braced _ _ Anything fields_exact λ xs.
    give_exact (record { line = head.0; exported = exported; name = head.1; alignment = unwrap_or a 8; fields = xs })
  where
    before : (s : State) (a : Option ℕ) (m : State) → reads.alignment s a m → Opens m → LineGoesOn s
    before s None m h f = opens_goes_on s (subst Opens h f)
    before s (Some n) m h f = sees_token reading.is_newline WordKind s (codes "align") h.2.1 h.2.2

-- what has the parts is read
pub object_there : (exported : Bool) (s : State) (d : DataDef) (s' : State) → Objects exported s d s' → reads.object exported s (Object d) s'
object_there exported s d s' h =
    let a = h.2 in
    let n = a.3 in
    let g = n.3 in
    let q = g.3 in
    let v = h.3 in
    let b = v.3.2 in
    let c = b.3 in
    let r = c.3 in
    let aligned : reads.alignment q.1 v.0 v.1 = subst (λ m. reads.alignment m v.0 v.1) q.3.1 v.2 in
    let last = v.3.3 in
    let same : d ≡ record { line = n.0; exported = exported; name = g.0; alignment = unwrap_or v.0 8; fields = c.0 } =
    last.0
    ∙ ap (λ (x : ℕ × ℕ). record { line = x.0; exported = exported; name = x.1; alignment = unwrap_or v.0 8; fields = v.3.0 }) q.3.0
    ∙ ap (λ xs. record { line = n.0; exported = exported; name = g.0; alignment = unwrap_or v.0 8; fields = xs }) r.3.0 in
    (a.0, a.1, a.2, (n.0, n.1, n.2, (g.0, g.1, g.2, (q.0, q.1, q.2, (v.0, v.1, aligned, (b.0, b.1, b.2, (c.0, c.1, c.2, (r.0, r.1, r.2, (ap Object same, last.1 ∙ r.3.1)))))))))

-- what is read has the parts
pub object_back : (exported : Bool) (s : State) (o : Definition) (s' : State) → reads.object exported s o s' → (d : DataDef) × (o ≡ Object d) × Objects exported s d s'
object_back exported s o s' h =
    let a = h in
    let n = a.3 in
    let g = n.3 in
    let q = g.3 in
    let v = q.3 in
    let b = v.3 in
    let c = b.3 in
    let r = c.3 in
    let d : DataDef = record { line = n.0; exported = exported; name = g.0; alignment = unwrap_or v.0 8; fields = c.0 } in (
      d,
      r.3.0,
      (
        (n.0, g.0),
        q.1,
        (a.0, a.1, a.2, (n.0, n.1, n.2, (g.0, g.1, g.2, (q.0, q.1, q.2, (refl, refl))))),
        (v.0, v.1, v.2, (c.0, r.1, (b.0, b.1, b.2, (c.0, c.1, c.2, (r.0, r.1, r.2, (refl, refl)))), (refl, r.3.1))),
      ),
    )
