-- Names are numbered in order of first appearance, each once.
use Rattle.std.proofs.Common.{◌≡◌, ◌⊎◌, inl, inr, ℕ, suc, ◌+◌, ◌<◌, Bool, true, false, cond, List, [], ◌∷◌, ◌++◌, length, Some, None, IsTrue, refl, sym, ap, ◌∙◌, arith, ⊎_elim, subst, not, ◌&&◌, ◌||◌, nat_eq, nat_lt}
use Rattle.std.specs.List.{list_any}
use Rattle.std.specs.Cmp.Lexicographic.{pointwise}
use Rattle.std.proofs.lemmas.Bool.{and_parts, false≢true}
use Rattle.std.proofs.lemmas.Bool.Decides.{nat_tests}
use Rattle.std.proofs.lemmas.Option.{same_Some, none-some}
use Rattle.il_ast.specs.Prelude.{come_after, are_distinct}
use Rattle.il_reader.specs.Prelude.{State, place, with_name}

-- ---- numbers in order

pub come_after_append : (n : ℕ) (ks ls : List ℕ) (m : ℕ) → come_after n ks ≡ Some m → come_after n (ks ++ ls) ≡ come_after m ls
come_after_append n [] ls m e = ap (λ n. come_after n ls) (same_Some n m e)
come_after_append n (k ∷ ks) ls m e = at (nat_lt k n) (nat_eq k n) (come_after_append n ks ls m) (come_after_append (n + 1) ks ls m) e
  where
    at : (b c : Bool) → (come_after n ks ≡ Some m → come_after n (ks ++ ls) ≡ come_after m ls)
        → (come_after (n + 1) ks ≡ Some m → come_after (n + 1) (ks ++ ls) ≡ come_after m ls)
        → cond b (come_after n ks) (cond c (come_after (n + 1) ks) None) ≡ Some m
        → cond b (come_after n (ks ++ ls)) (cond c (come_after (n + 1) (ks ++ ls)) None) ≡ come_after m ls
    at true c here next e = here e
    at false true here next e = next e
    at false false here next e = absurd (none-some m e)

-- a number that comes twice in a row is as one
pub come_twice : (n k : ℕ) (ks : List ℕ) → come_after n (k ∷ k ∷ ks) ≡ come_after n (k ∷ ks)
come_twice n k ks = at (nat_lt k n) (nat_eq k n) refl refl
  where
    next : nat_eq k n ≡ true → nat_lt k (n + 1) ≡ true
    next e = grind (arith, nat_tests)

    at : (b c : Bool) → nat_lt k n ≡ b → nat_eq k n ≡ c → come_after n (k ∷ k ∷ ks) ≡ come_after n (k ∷ ks)
    at true c e f = ap (λ b. cond b (come_after n (k ∷ ks)) (cond (nat_eq k n) (come_after (n + 1) (k ∷ ks)) None)) e
    at false true e f =
        ap (λ b. cond b (come_after n (k ∷ ks)) (cond (nat_eq k n) (come_after (n + 1) (k ∷ ks)) None)) e
        ∙ ap (λ c. cond c (come_after (n + 1) (k ∷ ks)) None) f
        ∙ ap (λ b. cond b (come_after (n + 1) ks) (cond (nat_eq k (n + 1)) (come_after (n + 1 + 1) ks) None)) (next f)
        ∙ sym (ap (λ c. cond c (come_after (n + 1) ks) None) f)
        ∙ sym (ap (λ b. cond b (come_after n ks) (cond (nat_eq k n) (come_after (n + 1) ks) None)) e)
    at false false e f =
        ap (λ b. cond b (come_after n (k ∷ ks)) (cond (nat_eq k n) (come_after (n + 1) (k ∷ ks)) None)) e
        ∙ ap (λ c. cond c (come_after (n + 1) (k ∷ ks)) None) f
        ∙ sym (ap (λ c. cond c (come_after (n + 1) ks) None) f)
        ∙ sym (ap (λ b. cond b (come_after n ks) (cond (nat_eq k n) (come_after (n + 1) ks) None)) e)

-- ---- one name

-- a name stands among the names, or comes behind them
Stands : List ℕ → List (List ℕ) → Type 0
Stands name names =
    ((place name names < length names) × (length (with_name name names) ≡ length names))
    ⊎ ((place name names ≡ length names) × (length (with_name name names) ≡ length names + 1))

stands : (name : List ℕ) (names : List (List ℕ)) → Stands name names
unfolding Stands
stands name [] = inr (refl, refl)
stands name (n ∷ ns) = at (pointwise nat_eq n name) (stands name ns)
  where
    at : (b : Bool) → Stands name ns
        → ((cond b 0 (suc (place name ns)) < length (n ∷ ns)) × (length (cond b (n ∷ ns) (n ∷ with_name name ns)) ≡ length (n ∷ ns)))
        ⊎ ((cond b 0 (suc (place name ns)) ≡ length (n ∷ ns)) × (length (cond b (n ∷ ns) (n ∷ with_name name ns)) ≡ length (n ∷ ns) + 1))
    at true s = inl (omega arith, refl)
    at false s = ⊎_elim (λ w. inl (let l = w.0 in omega arith, ap suc w.1)) (λ w. inr (ap suc w.0, let l = w.1 in omega arith)) s

-- its place is the next number, or one that has come
pub comes : (name : List ℕ) (names : List (List ℕ)) → come_after (length names) (place name names ∷ []) ≡ Some (length (with_name name names))
unfolding Stands
comes name names = ⊎_elim
    (λ w. let less : nat_lt (place name names) (length names) ≡ true = earlier (place name names) (length names) w.0 in
    ap (λ b. cond b (Some (length names)) (cond (nat_eq (place name names) (length names)) (Some (length names + 1)) None)) less ∙ ap Some (sym w.1))
    (λ w. ap (λ k. come_after (length names) (k ∷ [])) w.0 ∙ next (length names) ∙ ap Some (sym w.1))
    (stands name names)
  where
    earlier : (k n : ℕ) → k < n → nat_lt k n ≡ true
    earlier k n l = grind (arith, nat_tests)

    not_less : (n : ℕ) → nat_lt n n ≡ false
    not_less n = grind (arith, nat_tests)

    same : (n : ℕ) → nat_eq n n ≡ true
    same n = grind (arith, nat_tests)

    next : (n : ℕ) → come_after n (n ∷ []) ≡ Some (n + 1)
    next n =
        ap (λ b. cond b (Some n) (cond (nat_eq n n) (Some (n + 1)) None)) (not_less n)
        ∙ ap (λ b. cond b (Some (n + 1)) None) (same n)

none_with : (test : List ℕ → Bool) (name : List ℕ) (ns : List (List ℕ)) → test name ≡ false → list_any test ns ≡ false → list_any test (with_name name ns) ≡ false
none_with test name [] e h = ap (λ b. b || false) e
none_with test name (n ∷ ns) e h = at (pointwise nat_eq n name) (test n) refl h (none_with test name ns e)
  where
    at : (b c : Bool) → test n ≡ c → c || list_any test ns ≡ false → (list_any test ns ≡ false → list_any test (with_name name ns) ≡ false)
        → list_any test (cond b (n ∷ ns) (n ∷ with_name name ns)) ≡ false
    at b true t h later = absurd (false≢true (sym h))
    at true false t h later = ap (λ c. c || list_any test ns) t ∙ h
    at false false t h later = ap (λ c. c || list_any test (with_name name ns)) t ∙ later h

-- and the names stay distinct
pub stay_distinct : (name : List ℕ) (names : List (List ℕ)) → IsTrue (are_distinct names) → IsTrue (are_distinct (with_name name names))
stay_distinct name [] h = refl
stay_distinct name (n ∷ ns) h = at (pointwise nat_eq n name) refl (stay_distinct name ns)
  where
    parts : (not (list_any (pointwise nat_eq n) ns) ≡ true) × (are_distinct ns ≡ true)
    parts = and_parts (not (list_any (pointwise nat_eq n) ns)) (are_distinct ns) h

    none : (b : Bool) → not b ≡ true → b ≡ false
    none true e = absurd (false≢true e)
    none false e = refl

    at : (b : Bool) → pointwise nat_eq n name ≡ b → (IsTrue (are_distinct ns) → IsTrue (are_distinct (with_name name ns)))
        → IsTrue (are_distinct (cond b (n ∷ ns) (n ∷ with_name name ns)))
    at true e later = h
    at false e later =
        ap (λ b. not b && are_distinct (with_name name ns)) (none_with (pointwise nat_eq n) name ns e (none (list_any (pointwise nat_eq n) ns) parts.0))
        ∙ later parts.1

-- ---- what is read between two states

-- from one state to another these numbers are mentioned, of the names that a function picks
pub record Goes (names : State → List (List ℕ)) (s : State) (ks : List ℕ) (s' : State) : Type 0 where
  pub in_order : come_after (length (names s)) ks ≡ Some (length (names s'))
  pub distinct : IsTrue (are_distinct (names s)) → IsTrue (are_distinct (names s'))

pub stays : (names : State → List (List ℕ)) (s s' : State) → names s' ≡ names s → Goes names s [] s'
stays names s s' e = record {
  in_order = ap (λ ns. Some (length ns)) (sym e);
  distinct = λ h. subst (λ ns. IsTrue (are_distinct ns)) (sym e) h;
}

pub follows : (names : State → List (List ℕ)) (s m s' : State) (ks ls : List ℕ) → Goes names s ks m → Goes names m ls s' → Goes names s (ks ++ ls) s'
follows names s m s' ks ls p q = record {
  in_order = come_after_append (length (names s)) ks ls (length (names m)) p.in_order ∙ q.in_order;
  distinct = λ h. q.distinct (p.distinct h);
}
