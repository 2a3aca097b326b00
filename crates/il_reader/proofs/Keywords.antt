-- A word that is read as a text and then looked up.
use Rattle.std.proofs.Common.{◌≡◌, ℕ, List, Option, Some, None, refl, ap, ◌∙◌, option_and_then, option_map}
use Rattle.il_lex.specs.declared.kind.Kind.{Kind}
use Rattle.il_lex.specs.declared.kind.Kind.TheVariants.{Symbol, Newline, Word, Global, Temp, Label, Natural, Negative, Quoted}
use Rattle.il_reader.specs.Prelude.{State, keyword, next, word_test}

unfoldable tested : {A : Type 0} → (Kind → List ℕ → Option A) → (Kind × List ℕ) × State → Option (A × State)
tested test t = option_map (λ x. (x, t.1)) (test t.0.0 t.0.1)

unfoldable meant : {A : Type 0} → (List ℕ → Option A) → List ℕ × State → Option (A × State)
meant meaning t = option_map (λ x. (x, t.1)) (meaning t.0)

by_kind : {A : Type 0} (meaning : List ℕ → Option A) (kind : Kind) (text : List ℕ) (s : State)
    → tested (word_test meaning) ((kind, text), s) ≡ option_and_then (meant meaning) (tested (word_test Some) ((kind, text), s))
unfolding tested meant
by_kind meaning (Symbol m) text s = refl
by_kind meaning Newline text s = refl
by_kind meaning Word text s = refl
by_kind meaning Global text s = refl
by_kind meaning Temp text s = refl
by_kind meaning Label text s = refl
by_kind meaning (Natural n) text s = refl
by_kind meaning (Negative n) text s = refl
by_kind meaning Quoted text s = refl

looked_up : {A : Type 0} (meaning : List ℕ → Option A) (o : Option ((Kind × List ℕ) × State))
    → option_and_then (tested (word_test meaning)) o ≡ option_and_then (meant meaning) (option_and_then (tested (word_test Some)) o)
looked_up meaning None = refl
looked_up meaning (Some t) = by_kind meaning t.0.0 t.0.1 t.1

pub keyword_read : {A : Type 0} (meaning : List ℕ → Option A) (s m : State) (text : List ℕ) (x : A)
    → keyword Some s ≡ Some (text, m) → meaning text ≡ Some x → keyword meaning s ≡ Some (x, m)
unfolding tested meant
keyword_read meaning s m text x read means =
    looked_up meaning (next s)
    ∙ ap (option_and_then (meant meaning)) read
    ∙ ap (option_map (λ x. (x, m))) means
