-- Definitions, and whole texts.
use Rattle.std.proofs.Common.{◌≡◌, inl, inr, ℕ, ◌+◌, Bool, true, false, cond, List, [], ◌∷◌, length, Option, None, Some, refl, sym, ap, ◌∙◌, ⊎_elim, subst, codes, map, option_and_then}
use Rattle.std.proofs.lemmas.Bool.{false≢true}
use Rattle.std.proofs.lemmas.Option.{option_and_then_some, same_Some, none-some}
use Rattle.il_lex.proofs.Runs.{cond_cases}
use Rattle.il_lex.proofs.Exact.{end_complete, scan_meaning}
use Rattle.il_lex.specs.declared.scan.Ahead.{Ahead}
use Rattle.il_lex.specs.declared.scan.Ahead.TheVariants.{End, Bad, Found}
use Rattle.il_lex.specs.declared.kind.Kind.TheVariants.{Word as WordKind, Newline}
use Rattle.il_lex.specs.Next.{IsEnd, IsAhead, lines_in}
use Rattle.il_lex.specs.Scan.{scan}
use Rattle.il_ast.specs.declared.datum.DataDef.{DataDef}
use Rattle.il_ast.specs.declared.text.Definition.{Definition}
use Rattle.il_ast.specs.declared.text.Definition.TheVariants.{Function, Object}
use Rattle.il_ast.specs.declared.text.Text.{Text}
use Rattle.il_reader.specs.Prelude.{State, start, Reads, FunctionParts, DefinitionParts, FunctionOf, ObjectOf, definition_parts, function_parts, TextParts, text_parts, text_step}
use Rattle.il_reader.specs.Rules as rule
use Rattle.il_reader.specs.Reads as reads
use Rattle.il_reader.specs.Steps as step
use Rattle.il_reader.specs.Reading as reading
use Rattle.il_reader.specs.Definitions as definitions
use Rattle.il_reader.proofs.Exact.{Exact, Anything, weaker, bind, bind_before, either_exact, sees_token}
use Rattle.il_reader.proofs.Tokens.{word_exact}
use Rattle.il_reader.proofs.Lists.{or_nothing, commas_exact}
use Rattle.il_reader.proofs.Jumps.{sees_word_of}
use Rattle.il_reader.proofs.Statements.{LineGoesOn, newlines_exact, line_ends_exact}
use Rattle.il_reader.proofs.ExactStatements.{made_exact}
use Rattle.il_reader.proofs.ExactFunctions.{Functions, functions_exact, functions_shorten, function_there, function_back}
use Rattle.il_reader.proofs.ExactData.{Objects, objects_exact, objects_shorten, object_there, object_back, word_line_goes_on}
use Rattle.il_reader.proofs.Shorter.{Shortens, keeps, then_keeps, first_shortens, second_shortens, give_keeps, either_keeps, either_shortens, some_shortens, newline_shortens, newlines_keep, word_shortens}

-- ---- a definition

-- what may come behind `export` or its lack
record Begins (s : State) : Type 0 where
  pub no_export : reading.sees_word (reading.is_text (codes "export")) s ≡ false
  pub goes_on : LineGoesOn s

abbrev pub Exported : rule.Rule Bool
Exported = rule.◌>>◌ (rule.word (codes "export")) (rule.◌>>◌ rule.newlines (rule.give true))

exporting_exact : Exact definitions.exporting (rule.◌∥◌ Exported (rule.give false)) Begins
exporting_exact = or_nothing (reading.sees_word (reading.is_text (codes "export"))) _ _ false Begins
    (λ s x s' h. sees_word_of (reading.is_text (codes "export")) s (codes "export") h.1 h.2)
    (λ s h. h.no_export)
    (bind (step.word (codes "export")) (rule.word (codes "export")) _ _ Begins (word_exact (codes "export")) λ _.
    made_exact definitions.newlines rule.newlines (λ _. true) Begins (weaker definitions.newlines rule.newlines LineGoesOn Begins (λ s h. h.goes_on) newlines_exact))

abbrev pub Choice : Bool → rule.Rule DefinitionParts
Choice exported = rule.◌∥◌ (rule.◌>>=◌ (Objects exported) λ d. rule.give (ObjectOf d)) (rule.◌>>=◌ (Functions exported) λ f. rule.give (FunctionOf f))

choice_word : (exported : Bool) (test : List ℕ → Bool) (b : Bool) → test (codes "data") ≡ b → (s : State) (x : DefinitionParts) (s' : State)
    → rule.◌>>=◌ (Objects exported) (λ d. rule.give (ObjectOf d)) s x s' → reading.sees_word test s ≡ b
choice_word exported test b e s x s' h = sees_word_of test s (codes "data") h.2.2.2.1 h.2.2.2.2 ∙ e

choice_word' : (exported : Bool) (test : List ℕ → Bool) (b : Bool) → test (codes "function") ≡ b → (s : State) (x : DefinitionParts) (s' : State)
    → rule.◌>>=◌ (Functions exported) (λ f. rule.give (FunctionOf f)) s x s' → reading.sees_word test s ≡ b
choice_word' exported test b e s x s' h = sees_word_of test s (codes "function") h.2.2.1 h.2.2.2 ∙ e

choice_begins : (exported : Bool) (s : State) (x : DefinitionParts) (s' : State) → Choice exported s x s' → (step.sees reading.is_word s ≡ true) × Begins s
choice_begins exported s x s' h = ⊎_elim
    (λ w. (
      sees_token reading.is_word WordKind s (codes "data") w.2.2.2.1 w.2.2.2.2,
      record { no_export = choice_word exported (reading.is_text (codes "export")) false refl s x s' w; goes_on = sees_token reading.is_newline WordKind s (codes "data") w.2.2.2.1 w.2.2.2.2 },
    ))
    (λ w. (
      sees_token reading.is_word WordKind s (codes "function") w.2.2.1 w.2.2.2,
      record { no_export = choice_word' exported (reading.is_text (codes "export")) false refl s x s' w; goes_on = sees_token reading.is_newline WordKind s (codes "function") w.2.2.1 w.2.2.2 },
    )) h

choice_exact : (exported : Bool) → Exact (step.either (reading.sees_word (reading.is_text (codes "data")))
    (step.◌>>=◌ (definitions.object exported) (λ d. step.give (ObjectOf d))) (step.◌>>=◌ (definitions.function exported) (λ f. step.give (FunctionOf f))))
    (Choice exported) Anything
choice_exact exported = either_exact (reading.sees_word (reading.is_text (codes "data"))) _ _ _ _ Anything
    (choice_word exported (reading.is_text (codes "data")) true refl)
    (choice_word' exported (reading.is_text (codes "data")) false refl)
    (made_exact (definitions.object exported) (Objects exported) ObjectOf Anything (objects_exact exported))
    (made_exact (definitions.function exported) (Functions exported) FunctionOf Anything (functions_exact exported))

-- the parts of a definition
abbrev pub Parts : rule.Rule DefinitionParts
Parts = rule.◌>>=◌ (rule.◌∥◌ Exported (rule.give false)) Choice

parts_exact : Exact definitions.definition Parts Anything
parts_exact =
    bind_before definitions.exporting (rule.◌∥◌ Exported (rule.give false)) _ _ Begins Anything
    (λ exported s x s' h f. (choice_begins exported s x s' h).1)
    exporting_exact choice_exact

parts_begin : (s : State) (x : DefinitionParts) (s' : State) → Parts s x s' → step.sees reading.is_word s ≡ true
parts_begin s x s' h = ⊎_elim
    (λ w. sees_token reading.is_word WordKind s (codes "export") w.1 w.2)
    (λ w. subst (λ s. step.sees reading.is_word s ≡ true) w.1 (choice_begins h.0 h.1 x s' h.3).0) h.2

exported_there : (s : State) (x : Bool) (s' : State) → rule.◌∥◌ Exported (rule.give false) s x s' → reads.exporting s x s'
exported_there s x s' h = ⊎_elim (λ w. inl (w.3.0, w.3.1, (w.0, w.1, w.2, w.3.2), w.3.3)) (λ w. inr w) h

exported_back : (s : State) (x : Bool) (s' : State) → reads.exporting s x s' → rule.◌∥◌ Exported (rule.give false) s x s'
exported_back s x s' h = ⊎_elim (λ w. inl (w.2.0, w.2.1, w.2.2, (w.0, w.1, w.2.3, w.3))) (λ w. inr w) h

pub no_object : {A : Type 0} (x : FunctionParts) (d : DataDef) → FunctionOf x ≡ ObjectOf d → A
no_object x d e = absurd (cc)

pub no_function : {A : Type 0} (x : FunctionParts) (d : DataDef) → ObjectOf d ≡ FunctionOf x → A
no_function x d e = absurd (cc)

pub same_function : (x y : FunctionParts) → FunctionOf x ≡ FunctionOf y → x ≡ y
same_function x y e = cc

pub same_object : (x y : DataDef) → ObjectOf x ≡ ObjectOf y → x ≡ y
same_object x y e = cc

choice_there : (exported : Bool) (s : State) (d : Definition) (s' : State) → Choice exported s (definition_parts d) s' → rule.◌∥◌ (reads.object exported) (reads.function exported) s d s'
choice_there exported s (Function f) s' h = ⊎_elim
    (λ w. no_object (function_parts f) w.0 w.3.0)
    (λ w. let same = same_function (function_parts f) w.0 w.3.0 in
    inr (function_there exported s f s' (subst (Functions exported s (function_parts f)) (sym w.3.1) (subst (λ x. Functions exported s x w.1) (sym same) w.2)))) h
choice_there exported s (Object d) s' h = ⊎_elim
    (λ w. let same = same_object d w.0 w.3.0 in
    inl (object_there exported s d s' (subst (Objects exported s d) (sym w.3.1) (subst (λ x. Objects exported s x w.1) (sym same) w.2))))
    (λ w. no_function w.0 d w.3.0) h

choice_back : (exported : Bool) (s : State) (d : Definition) (s' : State) → rule.◌∥◌ (reads.object exported) (reads.function exported) s d s' → Choice exported s (definition_parts d) s'
choice_back exported s d s' h = ⊎_elim
    (λ w. let o = object_back exported s d s' w in inl (o.0, s', o.2, (ap definition_parts o.1, refl)))
    (λ w. let f = function_back exported s d s' w in inr (function_parts f.0, s', f.2, (ap definition_parts f.1, refl))) h

definition_there : (s : State) (d : Definition) (s' : State) → Parts s (definition_parts d) s' → reads.definition s d s'
definition_there s d s' h = (h.0, h.1, exported_there s h.0 h.1 h.2, choice_there h.0 h.1 d s' h.3)

definition_back : (s : State) (d : Definition) (s' : State) → reads.definition s d s' → Parts s (definition_parts d) s'
definition_back s d s' h = (h.0, h.1, exported_back s h.0 h.1 h.2, choice_back h.0 h.1 d s' h.3)

parts_shorten : Shortens Parts
parts_shorten = second_shortens (rule.◌∥◌ Exported (rule.give false)) _
    (either_keeps Exported (rule.give false)
    (keeps Exported (first_shortens (rule.word (codes "export")) _ (word_shortens (codes "export")) λ _. then_keeps rule.newlines _ newlines_keep λ _. give_keeps true))
    (give_keeps false)) λ exported.
    either_shortens _ _
    (first_shortens (Objects exported) _ (objects_shorten exported) λ d. give_keeps (ObjectOf d))
    (first_shortens (Functions exported) _ (functions_shorten exported) λ f. give_keeps (FunctionOf f))

-- ---- all definitions

abbrev pub Between : rule.Rule (Unit {0})
Between = rule.◌>>◌ (rule.some rule.newline) (rule.give tt)

between_exact : Exact definitions.between Between LineGoesOn
between_exact = made_exact reading.line_ends (rule.some rule.newline) (λ _. tt) LineGoesOn line_ends_exact

-- nothing is left
abbrev TextEnds : State → Type 0
TextEnds s = scan s.rest ≡ End

abbrev pub Several : rule.Rule (List DefinitionParts)
Several = rule.commas Between Parts

several_exact : Exact (step.commas (step.sees reading.is_newline) definitions.between (step.sees reading.is_word) definitions.definition) Several TextEnds
several_exact = commas_exact (step.sees reading.is_newline) (step.sees reading.is_word) definitions.between Between definitions.definition Parts
    LineGoesOn Anything TextEnds
    (λ s x s' h. sees_token reading.is_newline Newline s h.2.2.0 h.2.2.1 h.2.2.2)
    parts_begin
    (λ s h. ap (step.kind_is reading.is_newline) h) (λ s h. ap (step.kind_is reading.is_word) h)
    (first_shortens (rule.some rule.newline) _ (some_shortens rule.newline newline_shortens) λ _. give_keeps tt).less
    parts_shorten.less
    word_line_goes_on (λ s h. ap (step.kind_is reading.is_newline) h)
    (λ s h. tt) (λ s h. tt)
    between_exact parts_exact

abbrev pub AllParts : rule.Rule (List DefinitionParts)
AllParts = rule.◌>>◌ rule.newlines (rule.◌∥◌ Several (rule.give []))

pub all_parts_exact : Exact definitions.definitions AllParts TextEnds
all_parts_exact =
    bind_before definitions.newlines rule.newlines _ _ LineGoesOn TextEnds
    (λ _ s xs s' h f. ⊎_elim (λ w. word_line_goes_on s (parts_begin s w.0 w.1 w.2)) (λ w. ap (step.kind_is reading.is_newline) (subst TextEnds w.1 f)) h)
    newlines_exact λ _.
    or_nothing (step.sees reading.is_word) _ _ [] TextEnds
    (λ s xs s' h. parts_begin s h.0 h.1 h.2)
    (λ s h. ap (step.kind_is reading.is_word) h) several_exact

-- the ends of lines and then a definition, some times
many_there : (ds : List Definition) (s s' : State) → rule.many (rule.◌>>◌ Between Parts) s (map definition_parts ds) s' → rule.many (rule.◌>>◌ (rule.some rule.newline) reads.definition) s ds s'
many_there [] s s' h = h
many_there (d ∷ ds) s s' h =
    let b = h.1.2 in
    (h.0, (b.0, b.1, b.2, definition_there b.1 d h.0 (subst (λ m. Parts m (definition_parts d) h.0) b.3.1 h.1.3)), many_there ds h.0 s' h.2)

many_back : (ds : List Definition) (s s' : State) → rule.many (rule.◌>>◌ (rule.some rule.newline) reads.definition) s ds s' → rule.many (rule.◌>>◌ Between Parts) s (map definition_parts ds) s'
many_back [] s s' h = h
many_back (d ∷ ds) s s' h =
    (h.0, (tt, h.1.1, (h.1.0, h.1.1, h.1.2, (refl, refl)), definition_back h.1.1 d h.0 h.1.3), many_back ds h.0 s' h.2)

-- the ends of lines behind the last definition
ending_there : (s : State) (o : Option (Unit {0})) (s' : State) → rule.maybe Between s o s' → (xs : List (Unit {0})) × rule.newlines s xs s'
ending_there s None s' h = ([], h)
ending_there s (Some x) s' h =
    let some' = h.2 in
    let later = some'.3 in
    (some'.0 ∷ later.0, (some'.1, some'.2, subst (rule.newlines some'.1 later.0) (sym (h.3.1 ∙ later.3.1)) later.2))

ending_back : (s : State) (xs : List (Unit {0})) (s' : State) → rule.newlines s xs s' → (o : Option (Unit {0})) × rule.maybe Between s o s'
ending_back s [] s' h = (None, h)
ending_back s (x ∷ xs) s' h = (Some tt, (x ∷ xs, s', (x, h.0, h.1, (xs, s', h.2, (refl, refl))), (refl, refl)))

pub no_cons : {A B : Type 0} (x : A) (xs : List A) → [] ≡ x ∷ xs → B
no_cons x xs e = absurd (cc)

pub no_nil : {A B : Type 0} (x : A) (xs : List A) → x ∷ xs ≡ [] → B
no_nil x xs e = absurd (cc)

pub same_list : {A : Type 0} (x y : A) (xs ys : List A) → x ∷ xs ≡ y ∷ ys → (x ≡ y) × (xs ≡ ys)
same_list x y xs ys e = (cc, cc)

all_there : (ds : List Definition) (s s' : State) → AllParts s (map definition_parts ds) s' → reads.definitions s ds s'
all_there [] s s' h = (h.0, h.1, h.2, ⊎_elim (λ w. no_cons w.0 w.3.0 w.3.3.3.0) (λ w. inl (refl, w.1)) h.3)
all_there (d ∷ ds) s s' h = (
  h.0,
  h.1,
  h.2,
  ⊎_elim
      (λ w. let many' = w.3 in
      let o = many'.3 in
      let same = same_list (definition_parts d) w.0 (map definition_parts ds) many'.0 o.3.0 in
      let first = definition_there h.1 d w.1 (subst (λ x. Parts h.1 x w.1) (sym same.0) w.2) in
      let later = many_there ds w.1 many'.1 (subst (λ xs. rule.many (rule.◌>>◌ Between Parts) w.1 xs many'.1) (sym same.1) many'.2) in
      let last = ending_there many'.1 o.0 o.1 o.2 in
      inr (d, w.1, first, (ds, many'.1, later, (last.0, o.1, last.1, (refl, o.3.1)))))
      (λ w. no_nil (definition_parts d) (map definition_parts ds) w.0) h.3,
)

all_back : (ds : List Definition) (s s' : State) → reads.definitions s ds s' → AllParts s (map definition_parts ds) s'
all_back ds s s' h = (
  h.0,
  h.1,
  h.2,
  ⊎_elim
      (λ w. inr (ap (map definition_parts) w.0, w.1))
      (λ w. let many' = w.3 in
      let o = many'.3 in
      let last = ending_back many'.1 o.0 o.1 o.2 in
      inl (
        definition_parts w.0,
        w.1,
        definition_back h.1 w.0 w.1 w.2,
        (
          map definition_parts many'.0,
          many'.1,
          many_back many'.0 w.1 many'.1 many'.2,
          (last.0, o.1, last.1, (ap (map definition_parts) o.3.0, o.3.1)),
        ),
      )) h.3,
)

-- ---- whole texts

at_end : (rest : List ℕ) (a : Ahead) → IsAhead rest a → definitions.is_end a ≡ true → IsEnd rest
at_end rest End h e = h
at_end rest Bad h e = absurd (false≢true e)
at_end rest (Found kind gap len) h e = absurd (false≢true e)

-- what has these parts is read
pub text_sound : (bytes : List ℕ) (t : Text) → text_step bytes ≡ Some (text_parts t) → Reads bytes t
text_sound bytes t e = option_and_then_some (definitions.whole bytes) (definitions.definitions (start bytes)) (text_parts t) e (λ x is whole.
    cond_cases (λ o. o ≡ Some (text_parts t) → Reads bytes t) (definitions.is_end (scan x.1.rest)) _ _
    (λ y h. let same = same_Some _ (text_parts t) h in
    let read : AllParts (start bytes) x.0 x.1 = all_parts_exact.sound (start bytes) x.0 x.1 is in
    let mapped : AllParts (start bytes) (map definition_parts t.definitions) x.1 = subst (λ ds. AllParts (start bytes) ds x.1) (ap (λ (p : TextParts). p.definitions) same) read in
    record {
      last = x.1;
      definitions_are = all_there t.definitions (start bytes) x.1 mapped;
      end = at_end x.1.rest (scan x.1.rest) (scan_meaning x.1.rest) y;
      symbols = sym (ap (λ (p : TextParts). p.symbols) same);
      lines = sym (ap (λ (p : TextParts). p.lines) same);
      length_is = sym (ap (λ (p : TextParts). p.bytes) same);
    })
    (λ n h. absurd (none-some (text_parts t) h)) whole)

-- what is read has these parts
pub text_complete : (bytes : List ℕ) (t : Text) → Reads bytes t → text_step bytes ≡ Some (text_parts t)
text_complete bytes t r =
    let end : scan r.last.rest ≡ End = end_complete r.last.rest r.end in
    let ds = map definition_parts t.definitions in
    let given : definitions.definitions (start bytes) ≡ Some (ds, r.last) =
    all_parts_exact.complete (start bytes) ds r.last (all_back t.definitions (start bytes) r.last r.definitions_are) end in
    let parts : TextParts = record { definitions = ds; symbols = r.last.symbols; lines = lines_in bytes + 1; bytes = length bytes } in
    let same : parts ≡ text_parts t =
    ap (λ x. record { definitions = ds; symbols = x; lines = lines_in bytes + 1; bytes = length bytes }) (sym r.symbols)
    ∙ ap (λ x. record { definitions = ds; symbols = t.symbols; lines = x; bytes = length bytes }) (sym r.lines)
    ∙ ap (λ x. record { definitions = ds; symbols = t.symbols; lines = t.lines; bytes = x }) (sym r.length_is) in
    ap (option_and_then (definitions.whole bytes)) given
    ∙ ap (λ a. cond (definitions.is_end a) (Some parts) None) end
    ∙ ap Some same

-- nothing is read where the step gives nothing
pub none_read : (bytes : List ℕ) → text_step bytes ≡ None → (t : Text) → Reads bytes t → ⊥
none_read bytes e t r = none-some (text_parts t) (sym e ∙ text_complete bytes t r)
