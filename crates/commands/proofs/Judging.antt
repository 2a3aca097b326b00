-- What is found of texts, one after another.
use Rattle.std.proofs.Common.{◌≡◌, ◌≢◌, ◌==◌, ◌⊎◌, true, false, arith, ℕ, zero, suc, ◌+◌, ◌<◌, ◌≤◌, ◌++◌, List, [], ◌∷◌, length, refl, sym, ◌∙◌, ap, subst, inl, inr, Bor, slice_get, slice_index_or, Some, option_map}
use Rattle.std.proofs.lemmas.Bool.Decides.{nat_tests}
use Rattle.std.proofs.lemmas.Option.{slice_get-get_or, slice_get-map}
use Rattle.std.proofs.lemmas.List.{length-map}
use Rattle.il_ast.specs.declared.program.Program.{Program}
use Rattle.il_types.specs.declared.checked.Checked.{Checked}
use Rattle.diagnostics.specs.declared.note.Note.{Note}
use Rattle.qbec.specs.declared.error.CompileError.{CompileError}
use Rattle.qbec.specs.declared.error.CompileError.TheVariants.{Syntax, Rule, UnknownName, ExportedTwice, NoMain, Limit, Memory}
use Rattle.qbec.specs.Refusals.{Refuses, AreProgram, AreTexts, RefusesText}
use Rattle.qbec.proofs.ProgramLemmas.{no_refusal}
use Rattle.qbec.proofs.TextLemmas.{bytes_of, text_refused}
use Rattle.commands.specs.declared.verdict.Finding.{Finding}
use Rattle.commands.specs.declared.verdict.Verdict.{Verdict}
use Rattle.commands.specs.declared.verdict.Verdict.TheVariants.{Sound, Refused}
use Rattle.commands.specs.Verdicts.{AreAllTold, AreTrue, IsFinding, IsText, IsToldOf, IsTrue, IsVerdict, StandsAt, StandsIn, verdict_status}

-- ---- one more reason

pub some_more : (fs : List Finding) (f : Finding) → fs ++ f ∷ [] ≢ []
some_more [] f h = cc
some_more (g ∷ fs) f h = cc

pub true_more : (texts : List (List ℕ)) (fs : List Finding) (f : Finding) → AreTrue texts fs → IsTrue texts f → AreTrue texts (fs ++ f ∷ [])
true_more texts [] f h more = (more, tt)
true_more texts (g ∷ fs) f h more = (h.0, true_more texts fs f h.1 more)

-- the next text is here
text_at : (texts : List (Bor (List ℕ))) (k : ℕ) (o : Bor (List ℕ)) → k < length texts → slice_get (bytes_of texts) k ≡ Some (slice_index_or texts k o).now
text_at texts k o lt = slice_get-map (λ (t : Bor (List ℕ)). t.now) texts k ∙ ap (option_map (λ (t : Bor (List ℕ)). t.now)) (slice_get-get_or texts k o lt)

-- a note of the next text stands in the text that is refused so
stands_in : (texts : List (Bor (List ℕ))) (k : ℕ) (o : Bor (List ℕ)) (e : CompileError) (note : Note) → k < length texts → RefusesText e (k + 1) (slice_index_or texts k o).now → note.text ≡ k
    → StandsIn (bytes_of texts) e note
stands_in texts k o (Syntax text line) note lt h is = h.0 ∙ ap (λ n. n + 1) (sym is)
stands_in texts k o (Rule text fault) note lt h is = h.0 ∙ ap (λ n. n + 1) (sym is)
stands_in texts k o (UnknownName name) note lt h is = tt
stands_in texts k o (ExportedTwice name) note lt h is = tt
stands_in texts k o NoMain note lt h is = tt
stands_in texts k o Limit note lt h is = inl (k, (slice_index_or texts k o).now, ap (λ n. n + 1) is, text_at texts k o lt, h)
stands_in texts k o Memory note lt h is = tt

-- what is found of the next text is true
found_true : (texts : List (Bor (List ℕ))) (k : ℕ) (o : Bor (List ℕ)) (f : Finding) (e : CompileError) → k < length texts → RefusesText e (k + 1) (slice_index_or texts k o).now
    → IsFinding k e f → IsTrue (bytes_of texts) f
found_true texts k o f e lt says found = record {
  says = subst (λ x. Refuses x (bytes_of texts)) (sym found.is) (text_refused texts k o e lt says);
  known = subst (λ x. x ≢ Memory) (sym found.is) found.known;
  text = subst (λ x. StandsIn (bytes_of texts) x f.note) (sym found.is) (stands_in texts k o e f.note lt says found.text);
  line = subst (λ x. StandsAt x f.note) (sym found.is) found.line;
}

-- the next text is refused
pub refused_more : (texts : List (Bor (List ℕ))) (k : ℕ) (o : Bor (List ℕ)) (old new : List Finding) (f : Finding) (e : CompileError) → k < length texts → AreTrue (bytes_of texts) old
    → RefusesText e (k + 1) (slice_index_or texts k o).now → IsFinding k e f → new ≡ old ++ f ∷ [] → AreTrue (bytes_of texts) new
refused_more texts k o old new f e lt are says found pushed =
    subst (AreTrue (bytes_of texts)) (sym pushed) (true_more (bytes_of texts) old f are (found_true texts k o f e lt says found))

pub not_none : (old new : List Finding) (f : Finding) → new ≡ old ++ f ∷ [] → new ≢ []
not_none old new f is = subst (λ xs. xs ≢ []) (sym is) (some_more old f)

-- as many as none, and not as many
pub none_held : (len count : ℕ) → len ≡ count → (len == 0) ≡ true → count ≡ 0
none_held len count is h = grind (arith, nat_tests)

pub some_held : (len : ℕ) (fs : List Finding) → len ≡ length fs → (len == 0) ≡ false → fs ≢ []
some_held len fs is h none = let count : len ≡ 0 = is ∙ ap length none in grind (arith, nat_tests)

-- ---- each text is told of

-- the first texts, so many
abbrev pub FirstTold : (texts : List (List ℕ)) → (k : ℕ) → List Finding → Type 0
FirstTold texts k findings =
    (number : ℕ) (bytes : List ℕ) → number < k → slice_get texts number ≡ Some bytes → IsText bytes ⊎ IsToldOf number findings

pub none_first : (texts : List (List ℕ)) (findings : List Finding) → FirstTold texts 0 findings
none_first texts findings number bytes lt here = absurd (omega (arith, lt))

told_still : (number : ℕ) (fs : List Finding) (f : Finding) → IsToldOf number fs → IsToldOf number (fs ++ f ∷ [])
told_still number [] f h = absurd h
told_still number (g ∷ fs) f (inl h) = inl h
told_still number (g ∷ fs) f (inr h) = inr (told_still number fs f h)

told_now : (fs : List Finding) (f : Finding) (k : ℕ) → f.note.text ≡ k → IsToldOf k (fs ++ f ∷ [])
told_now [] f k is = inl is
told_now (g ∷ fs) f k is = inr (told_now fs f k is)

still : {A : Type 0} (number : ℕ) (fs : List Finding) (f : Finding) → A ⊎ IsToldOf number fs → A ⊎ IsToldOf number (fs ++ f ∷ [])
still number fs f (inl h) = inl h
still number fs f (inr h) = inr (told_still number fs f h)

-- of the first texts or the next one
one_of : (number k : ℕ) → number < k + 1 → (number < k) ⊎ (number ≡ k)
one_of zero zero lt = inr refl
one_of zero (suc k) lt = inl (omega arith)
one_of (suc number) zero lt = absurd (omega (arith, lt))
one_of (suc number) (suc k) lt = grow (one_of number k (omega (arith, lt)))
  where
    grow : (number < k) ⊎ (number ≡ k) → (suc number < suc k) ⊎ (suc number ≡ suc k)
    grow (inl l) = inl (omega (arith, l))
    grow (inr e) = inr (ap suc e)

-- the next text is one
pub text_told : (texts : List (Bor (List ℕ))) (k : ℕ) (o : Bor (List ℕ)) (old new : List Finding) → k < length texts → FirstTold (bytes_of texts) k old → IsText (slice_index_or texts k o).now → new ≡ old
    → FirstTold (bytes_of texts) (k + 1) new
text_told texts k o old new lt first is same number bytes less here =
    subst (λ fs. IsText bytes ⊎ IsToldOf number fs) (sym same) (by (one_of number k less))
  where
    by : (number < k) ⊎ (number ≡ k) → IsText bytes ⊎ IsToldOf number old
    by (inl l) = first number bytes l here
    by (inr e) =
        let bytes_are : bytes ≡ (slice_index_or texts k o).now = (let both : Some bytes ≡ Some (slice_index_or texts k o).now = sym here ∙ (ap (slice_get (bytes_of texts)) e ∙ text_at texts k o lt) in cc) in
        inl (subst IsText (sym bytes_are) is)

-- the next text is refused
pub refused_told : (texts : List (List ℕ)) (k : ℕ) (old new : List Finding) (f : Finding) → FirstTold texts k old → f.note.text ≡ k → new ≡ old ++ f ∷ [] → FirstTold texts (k + 1) new
refused_told texts k old new f first is pushed number bytes less here =
    subst (λ fs. IsText bytes ⊎ IsToldOf number fs) (sym pushed) (by (one_of number k less))
  where
    by : (number < k) ⊎ (number ≡ k) → IsText bytes ⊎ IsToldOf number (old ++ f ∷ [])
    by (inl l) = still number old f (first number bytes l here)
    by (inr e) = inr (told_now old f number (is ∙ sym e))

within : {A : Type 0} (xs : List A) (n : ℕ) (x : A) → slice_get xs n ≡ Some x → n < length xs
within [] n x h = absurd (let no : ⊥ = cc in no)
within (y ∷ xs) zero x h = omega arith
within (y ∷ xs) (suc n) x h = let less = within xs n x h in omega (arith, less)

-- all of them
pub all_told : (texts : List (Bor (List ℕ))) (k : ℕ) (findings : List Finding) → length texts ≤ k → FirstTold (bytes_of texts) k findings → AreAllTold (bytes_of texts) findings
all_told texts k findings end first number bytes here =
    let less : number < length (bytes_of texts) = within (bytes_of texts) number bytes here in
    let many : length (bytes_of texts) ≡ length texts = length-map texts (λ (t : Bor (List ℕ)). t.now) in
    first number bytes (omega (arith, less, many, end)) here

-- where each is one, whatever is found
pub texts_told : (texts : List (List ℕ)) (checked : List Checked) (findings : List Finding) → AreTexts texts checked → AreAllTold texts findings
texts_told texts checked findings are number bytes here = inl (one texts checked are number bytes here)
  where
    one : (ts : List (List ℕ)) (cs : List Checked) → AreTexts ts cs → (n : ℕ) (b : List ℕ) → slice_get ts n ≡ Some b → IsText b
    one [] cs h n b at = absurd (let no : ⊥ = cc in no)
    one (t ∷ ts) [] h n b at = absurd h
    one (t ∷ ts) (c ∷ cs) h zero b at = let same : t ≡ b = cc in (c, subst (λ x. AreTexts (x ∷ []) (c ∷ [])) same (h.0, tt))
    one (t ∷ ts) (c ∷ cs) h (suc n) b at = one ts cs h.1 n b at

-- ---- the law

none_true : (texts : List (List ℕ)) (p : Program) (fs : List Finding) → AreProgram texts p → fs ≢ [] → AreTrue texts fs → ◌≡◌ {A = ℕ} 126 0
none_true texts p [] are some h = absurd (some refl)
none_true texts p (f ∷ fs) are some h = absurd (h.0.known (no_refusal texts p f.refusal are h.0.says))

pub sound : (texts : List (List ℕ)) (p : Program) (v : Verdict) → AreProgram texts p → IsVerdict texts v → verdict_status v ≡ 0
sound texts p (Sound warnings) are is = refl
sound texts p (Refused findings) are is = none_true texts p findings.items are is.0 is.1
