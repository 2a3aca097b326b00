-- Rules of operands and of the words of operations.
use Rattle.std.proofs.Common.{◌≡◌, ℕ, Bool, true, List, [], ◌∷◌, Some, refl, ap, ◌∙◌, ⊎_elim, nat_eq}
use Rattle.std.specs.Cmp.Lexicographic.{pointwise, bytes_decides}
use Rattle.std.proofs.lemmas.Option.{same_Some, none-some}
use Rattle.il_lex.proofs.Runs.{cond_cases}
use Rattle.il_lex.specs.declared.kind.Symbol.TheVariants.{Equals}
use Rattle.il_lex.specs.declared.kind.Kind.{Kind}
use Rattle.il_lex.specs.declared.kind.Kind.TheVariants.{Natural, Negative, Temp as TempKind, Global as GlobalKind}
use Rattle.il_ast.specs.declared.operation.Class.{Class}
use Rattle.il_ast.specs.declared.operation.Class.TheVariants.{W, L}
use Rattle.il_ast.specs.declared.operation.Size.{Size}
use Rattle.il_ast.specs.declared.operation.Size.TheVariants.{Byte, Half, Word, Long}
use Rattle.il_ast.specs.declared.operand.Val.TheVariants.{Int, Temp, Global}
use Rattle.il_reader.specs.Prelude.{State, class_word, size_word, store_word}
use Rattle.il_reader.specs.Rules as rule
use Rattle.il_reader.specs.Grammar as grammar
use Rattle.il_reader.specs.Steps as step
use Rattle.il_reader.specs.Reading as reading
use Rattle.il_reader.proofs.Exact.{Exact, Anything, give_exact, bind, either_exact, sees_token}
use Rattle.il_reader.proofs.Tokens.{spelled, spelled_exact, piece_exact, integer_exact, temp_exact, label_exact, symbol_exact}

-- what a table gives is spelled so
pub table_sound : {A : Type 0} (spelling : A → List ℕ) (xs : List A) (text : List ℕ) (x : A) → reading.word_in (reading.table spelling xs) text ≡ Some x → text ≡ spelling x
table_sound spelling [] text x e = absurd (none-some x e)
table_sound spelling (y ∷ ys) text x e = cond_cases (λ o. o ≡ Some x → text ≡ spelling x) (pointwise nat_eq text (spelling y)) (Some y) (reading.word_in (reading.table spelling ys) text)
    (λ t h. (bytes_decides text (spelling y)).0 t ∙ ap spelling (same_Some y x h))
    (λ n h. table_sound spelling ys text x h) e

class_found : (c : Class) → reading.class_of (class_word c) ≡ Some c
class_found W = refl
class_found L = refl

size_found : (c : Size) → reading.size_of (size_word c) ≡ Some c
size_found Byte = refl
size_found Half = refl
size_found Word = refl
size_found Long = refl

store_found : (c : Size) → reading.store_of (store_word c) ≡ Some c
store_found Byte = refl
store_found Half = refl
store_found Word = refl
store_found Long = refl

pub class_exact : Exact reading.class grammar.class Anything
class_exact = spelled_exact class_word reading.class_of (table_sound class_word (W ∷ L ∷ [])) class_found

pub size_exact : Exact (step.keyword reading.size_of) (spelled size_word) Anything
size_exact = spelled_exact size_word reading.size_of (table_sound size_word (Byte ∷ Half ∷ Word ∷ Long ∷ [])) size_found

pub store_exact : Exact (step.keyword reading.store_of) grammar.store Anything
store_exact = spelled_exact store_word reading.store_of (table_sound store_word (Byte ∷ Half ∷ Word ∷ Long ∷ [])) store_found

-- values

pub integer_sees : (test : Kind → Bool) (b : Bool) → ((n : ℕ) → test (Natural n) ≡ b) → ((n : ℕ) → test (Negative n) ≡ b) → (s : State) (n : ℕ) (s' : State) → rule.integer s n s' → step.sees test s ≡ b
integer_sees test b plain minus s n s' h = ⊎_elim (λ w. sees_token test (Natural n) s w.0 s' w.1 ∙ plain n) (λ w. sees_token test (Negative n) s w.0 s' w.1 ∙ minus n) h

pub value_exact : Exact reading.value grammar.value Anything
value_exact = either_exact (step.sees reading.is_number) _ _ _ _ Anything
    (λ s v s' h. integer_sees reading.is_number true (λ n. refl) (λ n. refl) s h.0 h.1 h.2)
    (λ s v s' h. ⊎_elim
    (λ w. sees_token reading.is_number TempKind s (37 ∷ w.2.0) w.2.1 w.2.2)
    (λ w. sees_token reading.is_number GlobalKind s (36 ∷ w.2.0) w.2.1 w.2.2) h)
    (bind step.integer rule.integer (λ n. step.give (Int n)) (λ n. rule.give (Int n)) Anything integer_exact (λ n. give_exact (Int n)))
    (either_exact (step.sees reading.is_temp) _ _ _ _ Anything
    (λ s v s' w. sees_token reading.is_temp TempKind s (37 ∷ w.2.0) w.2.1 w.2.2)
    (λ s v s' w. sees_token reading.is_temp GlobalKind s (36 ∷ w.2.0) w.2.1 w.2.2)
    (bind step.temp rule.temp (λ t. step.give (Temp t)) (λ t. rule.give (Temp t)) Anything temp_exact (λ t. give_exact (Temp t)))
    (bind step.symbol rule.symbol (λ g. step.give (Global g)) (λ g. rule.give (Global g)) Anything symbol_exact (λ g. give_exact (Global g))))

-- sequences

pub destination_exact : Exact reading.destination grammar.destination Anything
destination_exact =
    bind step.temp rule.temp _ _ Anything temp_exact λ t.
    bind (step.piece Equals) (rule.piece Equals) _ _ Anything (piece_exact Equals) λ _.
    bind reading.class grammar.class _ _ Anything class_exact λ c.
    give_exact (record { temp = t; class = c })

pub argument_exact : Exact reading.argument grammar.argument Anything
argument_exact =
    bind reading.class grammar.class _ _ Anything class_exact λ c.
    bind reading.value grammar.value _ _ Anything value_exact λ v.
    give_exact (record { class = c; value = v })

pub phi_argument_exact : Exact reading.phi_argument grammar.phi_argument Anything
phi_argument_exact =
    bind step.label rule.label _ _ Anything label_exact λ l.
    bind reading.value grammar.value _ _ Anything value_exact λ v.
    give_exact (record { from = l; value = v })
