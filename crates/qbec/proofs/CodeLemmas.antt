-- Words for one function after another.
use Rattle.std.proofs.Common.{◌≡◌, ℕ, zero, suc, ◌+◌, ◌*◌, ◌≤◌, List, [], ◌∷◌, ◌++◌, length, map, drop, refl, sym, ◌∙◌, ap, subst, arith, append_assoc, drop_of_length-le, slice_get, Some, Bor}
use Rattle.il_ast.specs.declared.function.Func.{Func}
use Rattle.il_ast.specs.declared.program.InText.{InText}
use Rattle.il_ast.specs.declared.program.Program.{Program}
use Rattle.il_ast.specs.Prelude.{weight}
use Rattle.rv_isa.specs.Prelude.{Words, IsCode}
use Rattle.obj_link.specs.Prelude.{shown}
use Rattle.qbec.specs.Pipeline.{StandPromoted, AreWordsIn}

pub record CodesSoFar (p : Program) (fs : List (InText (Bor Func))) (k : ℕ) (codes : List Words) : Type 0 where
  pub whole : (rest : List Words) → AreWordsIn p rest (map shown (drop k fs)) → AreWordsIn p (codes ++ rest) (map shown fs)

pub no_codes : (p : Program) (fs : List (InText (Bor Func))) → CodesSoFar p fs 0 []
no_codes p fs = record { whole = λ rest h. h }

drop_here : (fs : List (InText (Bor Func))) (k : ℕ) (f : InText (Bor Func)) → slice_get fs k ≡ Some f → drop k fs ≡ f ∷ drop (k + 1) fs
drop_here [] k f h = absurd (let no : ⊥ = cc in no)
drop_here (x ∷ fs) zero f h = let same : x ≡ f = cc in ap (λ y. y ∷ fs) same
drop_here (x ∷ fs) (suc k) f h =
    let next : suc k + 1 ≡ suc (k + 1) = omega arith in
    drop_here fs k f h ∙ ap (λ n. f ∷ drop n (x ∷ fs)) (sym next)

pub one_more_code : (p : Program) (fs : List (InText (Bor Func))) (k : ℕ) (f : InText (Bor Func)) (codes all : List Words) (c : Words) → slice_get fs k ≡ Some f → CodesSoFar p fs k codes
    → StandPromoted p (shown f) c → length c.words ≤ 32 * weight f.item.now + 256 → IsCode c → all ≡ codes ++ c ∷ [] → CodesSoFar p fs (k + 1) all
one_more_code p fs k f codes all c at s stands few code is =
    record {
      whole =
          λ rest h.
          (let here = drop_here fs k f at in
          let more : AreWordsIn p (c ∷ rest) (map shown (drop k fs)) =
          subst (λ (l : List (InText (Bor Func))). AreWordsIn p (c ∷ rest) (map shown l)) (sym here) (record { stand = (stands, h.stand); few = (few, h.few); every = (code, h.every) }) in
          subst (λ l. AreWordsIn p l (map shown fs)) (sym (ap (λ l. l ++ rest) is ∙ append_assoc codes (c ∷ []) rest)) (s.whole (c ∷ rest) more));
    }

no_more : (xs : List Words) → xs ++ [] ≡ xs
no_more [] = refl
no_more (x ∷ xs) = ap (λ l. x ∷ l) (no_more xs)

pub all_codes : (p : Program) (fs : List (InText (Bor Func))) (k : ℕ) (codes : List Words) → length fs ≤ k → CodesSoFar p fs k codes → AreWordsIn p codes (map shown fs)
all_codes p fs k codes end s =
    subst (λ l. AreWordsIn p l (map shown fs)) (no_more codes)
    (s.whole [] (subst (λ (l : List (InText (Bor Func))). AreWordsIn p [] (map shown l)) (sym (drop_of_length-le fs end)) (record { stand = tt; few = tt; every = tt })))
