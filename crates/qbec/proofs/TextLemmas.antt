-- Texts that are read and checked one after another.
use Rattle.std.proofs.Common.{◌≡◌, inl, ℕ, zero, suc, ◌+◌, ◌<◌, ◌≤◌, List, [], ◌∷◌, ◌++◌, length, map, drop, refl, sym, ◌∙◌, ap, subst, arith, append_assoc, drop_of_length-le, slice_get, slice_index_or, Some, Bor}
use Rattle.std.proofs.lemmas.Option.{slice_get-get_or}
use Rattle.std.proofs.Props.{props}
use Rattle.il_ast.specs.declared.text.Text.{Text}
use Rattle.il_reader.specs.Prelude.{Reads, NamesLine}
use Rattle.il_reader.specs.declared.error.ReadError.TheVariants.{Syntax as NotRead, Memory as ReadMemory}
use Rattle.il_types.specs.declared.checked.Checked.{Checked}
use Rattle.il_types.specs.declared.error.CheckError.TheVariants.{Rule as Broken, Limit as Passed, Memory as CheckMemory}
use Rattle.il_types.specs.declared.error.CheckError.{CheckError}
use Rattle.il_types.specs.Prelude.{Refuses as RefusesTree, IsGood}
use Rattle.il_reader.specs.declared.error.ReadError.{ReadError}
use Rattle.qbec.specs.declared.error.CompileError.{CompileError}
use Rattle.qbec.specs.declared.error.CompileError.TheVariants.{Syntax, Rule, UnknownName, ExportedTwice, NoMain, Limit, Memory}
use Rattle.qbec.specs.Refusals.{AreTexts, Refuses, RefusesText, read_refusal, check_refusal}

-- ---- refusals

pub read_says : (number : ℕ) (bytes : List ℕ) (e : ReadError) → NamesLine bytes e → ((t : Text) → Reads bytes t → e ≡ ReadMemory) → RefusesText (read_refusal number e) number bytes
read_says number bytes (NotRead line) names only = (refl, (names.0, names.1, λ t reads. apart (only t reads)))
  where
    apart : NotRead line ≡ ReadMemory → ⊥
    apart h = cc
read_says number bytes ReadMemory names only = tt

pub check_says : (number : ℕ) (bytes : List ℕ) (t : Text) (e : CheckError) → Reads bytes t → RefusesTree e t → RefusesText (check_refusal number e) number bytes
check_says number bytes t (Broken fault) reads h = (refl, (t, reads, h))
check_says number bytes t Passed reads h = (t, reads, h)
check_says number bytes t CheckMemory reads h = tt

-- ---- a text that keeps the rules is its tree

same : {F : Text → Type 0} → ((t : Text) → (p q : F t) → p ≡ q) → {B : Type 0} (make : (t : Text) → F t → B) → (a b : Text) (p : F a) (q : F b) → a ≡ b → make a p ≡ make b q
same {F} prop make a b p q e =
    let P : Text → Type 0 = λ x. (r : F x) → make a p ≡ make x r in
    subst P e (λ r. ap (make a) (prop a p r)) q

pub same_checked : (c d : Checked) → c.text ≡ d.text → c ≡ d
same_checked c d e = same {F = IsGood} (λ t. hlevel props) (λ t p. record { text = t; good = p }) c.text d.text c.good d.good e

-- ---- the texts so far

abbrev pub bytes_of : List (Bor (List ℕ)) → List (List ℕ)
bytes_of texts = map (λ (t : Bor (List ℕ)). t.now) texts

pub record TextsSoFar (texts : List (Bor (List ℕ))) (k : ℕ) (out : List Checked) : Type 0 where
  pub found : (rest : List Checked) → AreTexts (bytes_of (drop k texts)) rest → AreTexts (bytes_of texts) (out ++ rest)
  pub only : (all : List Checked) → AreTexts (bytes_of texts) all → (rest : List Checked) × (all ≡ out ++ rest) × AreTexts (bytes_of (drop k texts)) rest

pub none_yet : (texts : List (Bor (List ℕ))) → TextsSoFar texts 0 []
none_yet texts = record { found = λ rest h. h; only = λ all h. (all, refl, h) }

-- the first of the texts that are left is this one
one_more : (texts left : List (Bor (List ℕ))) (k : ℕ) (b : Bor (List ℕ)) (out : List Checked) (c : Checked) → drop k texts ≡ b ∷ left → drop (k + 1) texts ≡ left → TextsSoFar texts k out → Reads b.now c.text → ((d : Checked) → Reads b.now d.text → c.text ≡ d.text) → TextsSoFar texts (k + 1) (out ++ c ∷ [])
one_more texts left k b out c here next s reads unique =
    record {
      found =
          λ rest h.
          subst (AreTexts (bytes_of texts)) (sym (append_assoc out (c ∷ []) rest))
          (s.found (c ∷ rest) (subst (λ l. AreTexts (bytes_of l) (c ∷ rest)) (sym here) (reads, subst (λ l. AreTexts (bytes_of l) rest) next h)));
      only = λ all h. (let r = s.only all h in by all r.0 r.1 (subst (λ l. AreTexts (bytes_of l) r.0) here r.2));
    }
  where
    by : (all rest : List Checked) → all ≡ out ++ rest → AreTexts (bytes_of (b ∷ left)) rest → (more : List Checked) × (all ≡ (out ++ c ∷ []) ++ more) × AreTexts (bytes_of (drop (k + 1) texts)) more
    by all [] is h = absurd h
    by all (d ∷ rest) is h = (
      rest,
      is ∙ (ap (λ (x : Checked). out ++ x ∷ rest) (sym (same_checked c d (unique d h.0))) ∙ sym (append_assoc out (c ∷ []) rest)),
      subst (λ l. AreTexts (bytes_of l) rest) (sym next) h.1,
    )

drop_here : (texts : List (Bor (List ℕ))) (k : ℕ) (b : Bor (List ℕ)) → slice_get texts k ≡ Some b → drop k texts ≡ b ∷ drop (k + 1) texts
drop_here [] k b h = absurd (let no : ⊥ = cc in no)
drop_here (x ∷ texts) zero b h = let same : x ≡ b = cc in ap (λ y. y ∷ texts) same
drop_here (x ∷ texts) (suc k) b h =
    let next : suc k + 1 ≡ suc (k + 1) = omega arith in
    drop_here texts k b h ∙ ap (λ n. b ∷ drop n (x ∷ texts)) (sym next)

here_is : (texts : List (Bor (List ℕ))) (k : ℕ) (o : Bor (List ℕ)) → k < length texts → drop k texts ≡ slice_index_or texts k o ∷ drop (k + 1) texts
here_is texts k o lt = drop_here texts k (slice_index_or texts k o) (slice_get-get_or texts k o lt)

pub text_more : (texts : List (Bor (List ℕ))) (k : ℕ) (o : Bor (List ℕ)) (out all : List Checked) (c : Checked) → k < length texts → TextsSoFar texts k out → Reads (slice_index_or texts k o).now c.text → ((d : Checked) → Reads (slice_index_or texts k o).now d.text → c.text ≡ d.text) → all ≡ out ++ c ∷ [] → TextsSoFar texts (k + 1) all
text_more texts k o out all c lt s reads unique is =
    subst (TextsSoFar texts (k + 1)) (sym is) (one_more texts (drop (k + 1) texts) k (slice_index_or texts k o) out c (here_is texts k o lt) refl s reads unique)

text_at : (texts : List (Bor (List ℕ))) (k : ℕ) (o : Bor (List ℕ)) → k < length texts → slice_get (bytes_of texts) k ≡ Some (slice_index_or texts k o).now
text_at [] k o lt = absurd (omega (arith, lt))
text_at (x ∷ texts) zero o lt = refl
text_at (x ∷ texts) (suc k) o lt = text_at texts k o (omega (arith, lt))

-- what a refusal says of the text that is next, it says of all
pub text_refused : (texts : List (Bor (List ℕ))) (k : ℕ) (o : Bor (List ℕ)) (e : CompileError) → k < length texts → RefusesText e (k + 1) (slice_index_or texts k o).now → Refuses e (bytes_of texts)
text_refused texts k o (Syntax text line) lt h = (k, (slice_index_or texts k o).now, h.0, text_at texts k o lt, h.1)
text_refused texts k o (Rule text fault) lt h = (k, (slice_index_or texts k o).now, h.0, text_at texts k o lt, h.1)
text_refused texts k o (UnknownName name) lt h = absurd h
text_refused texts k o (ExportedTwice name) lt h = absurd h
text_refused texts k o NoMain lt h = absurd h
text_refused texts k o Limit lt h = inl (k + 1, (k, (slice_index_or texts k o).now, refl, text_at texts k o lt, h))
text_refused texts k o Memory lt h = tt

-- where all are texts of a program, a refusal of the next one is for memory
pub text_only : (texts : List (Bor (List ℕ))) (k : ℕ) (o : Bor (List ℕ)) (out : List Checked) (e : CompileError) → k < length texts → TextsSoFar texts k out → ((d : Checked) → Reads (slice_index_or texts k o).now d.text → e ≡ Memory) → (all : List Checked) → AreTexts (bytes_of texts) all → e ≡ Memory
text_only texts k o out e lt s only all h = by (s.only all h).0 (subst (λ l. AreTexts (bytes_of l) (s.only all h).0) (here_is texts k o lt) (s.only all h).2)
  where
    by : (rest : List Checked) → AreTexts (bytes_of (slice_index_or texts k o ∷ drop (k + 1) texts)) rest → e ≡ Memory
    by [] r = absurd r
    by (d ∷ rest) r = only d r.0

no_more : (xs : List Checked) → xs ++ [] ≡ xs
no_more [] = refl
no_more (x ∷ xs) = ap (λ l. x ∷ l) (no_more xs)

pub all_found : (texts : List (Bor (List ℕ))) (k : ℕ) (out : List Checked) → length texts ≤ k → TextsSoFar texts k out → AreTexts (bytes_of texts) out
all_found texts k out end s = subst (AreTexts (bytes_of texts)) (no_more out) (s.found [] (subst (λ l. AreTexts (bytes_of l) []) (sym (drop_of_length-le texts end)) tt))

pub all_only : (texts : List (Bor (List ℕ))) (k : ℕ) (out : List Checked) → length texts ≤ k → TextsSoFar texts k out → (all : List Checked) → AreTexts (bytes_of texts) all → out ≡ all
all_only texts k out end s all h = by (s.only all h).0 (s.only all h).1 (subst (λ l. AreTexts (bytes_of l) (s.only all h).0) (drop_of_length-le texts end) (s.only all h).2)
  where
    by : (rest : List Checked) → all ≡ out ++ rest → AreTexts [] rest → out ≡ all
    by [] is r = sym (is ∙ no_more out)
    by (d ∷ rest) is r = absurd r
