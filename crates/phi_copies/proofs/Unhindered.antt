-- Moves that read nothing that one of them writes do what they do at once in any order, and so the last first.
use Rattle.std.proofs.Common.{◌≡◌, ◌≢◌, ◌⊎◌, inr, ℕ, zero, suc, ◌+◌, ◌/◌, ◌<◌, ◌≤◌, Bool, true, false, not, cond, eqb, List, [], ◌∷◌, ◌++◌, length, get_or, reverse, All, refl, sym, ap, ◌∙◌, arith, ◌==◌, ◌||◌}
use Rattle.std.specs.List.{list_any}
use Rattle.std.proofs.lemmas.Bool.Decides.{nat_tests}
use Rattle.std.proofs.lemmas.List.{reverse-append, length-reverse, get_or_default}
use Rattle.std.proofs.lemmas.List.Sums.{sum_by-cons}
use Rattle.phi_copies.specs.declared.moves.Move.{Move}
use Rattle.phi_copies.specs.Together.{after, HasDistinctDestinations, DoesAtOnce, IsBetween, IsRead, ReadsKnown, proper_count}
use Rattle.phi_copies.proofs.Loops.{All-reverse}
use Rattle.phi_copies.proofs.Placing.{eqb_no, after_same, after_other}

-- ---- the test

abbrev pub reads_written : List Move → Bool
reads_written ms = list_any (λ (n : Move). list_any (λ (m : Move). m.to == n.from) ms) ms

no_first : (a b : Bool) → (a || b) ≡ false → a ≡ false
no_first true b h = h
no_first false b h = refl

no_second : (a b : Bool) → (a || b) ≡ false → b ≡ false
no_second true b h = absurd (let no : ⊥ = cc in no)
no_second false b h = h

none_any : (p : Move → Bool) (ms : List Move) → list_any p ms ≡ false → (k : ℕ) (d : Move) → k < length ms → p (get_or ms k d) ≡ false
none_any p [] h k d l = absurd (omega (arith, l))
none_any p (m ∷ ms) h zero d l = no_first (p m) (list_any p ms) h
none_any p (m ∷ ms) h (suc k) d l = none_any p ms (no_second (p m) (list_any p ms) h) k d (omega (arith, l))

-- what the i-th reads is not where the j-th goes
abbrev Unhindered : List Move → Type 0
Unhindered ms = (i j : ℕ) (d : Move) → i < length ms → j < length ms → (get_or ms j d).to ≢ (get_or ms i d).from

unhindered : (ms : List Move) → reads_written ms ≡ false → Unhindered ms
unhindered ms h i j d k l same =
    let here = none_any (λ (n : Move). list_any (λ (m : Move). m.to == n.from) ms) ms h i d k in
    let there = none_any (λ (m : Move). m.to == (get_or ms i d).from) ms here j d l in
    grind (arith, nat_tests)

-- ---- what is left there

last : {X : Type 0} (env : ℕ → X) (xs : List Move) (m : Move) (p : ℕ) → after env (xs ++ m ∷ []) p ≡ cond (eqb p m.to) (after env xs m.from) (after env xs p)
last env [] m p = refl
last env (x ∷ xs) m p = last (λ q. cond (eqb q x.to) (env x.from) (env q)) xs m p

one_more : {X : Type 0} (env : ℕ → X) (m : Move) (ms : List Move) (p : ℕ) → after env (reverse (m ∷ ms)) p ≡ cond (eqb p m.to) (after env (reverse ms) m.from) (after env (reverse ms) p)
one_more env m ms p = ap (λ xs. after env xs p) (reverse-append (m ∷ []) ms) ∙ last env (reverse ms) m p

kept : {X : Type 0} (env : ℕ → X) (ms : List Move) (p : ℕ) → ((j : ℕ) (d : Move) → j < length ms → (get_or ms j d).to ≢ p) → after env (reverse ms) p ≡ env p
kept env [] p h = refl
kept env (m ∷ ms) p h =
    one_more env m ms p
    ∙ after_other (after env (reverse ms)) m p (λ e. h zero m (omega arith) (sym e))
    ∙ kept env ms p (λ j d l. h (suc j) d (omega (arith, l)))

moved : {X : Type 0} (env : ℕ → X) (ms : List Move) → HasDistinctDestinations ms → Unhindered ms
    → (k : ℕ) (d : Move) → k < length ms → after env (reverse ms) (get_or ms k d).to ≡ env (get_or ms k d).from
moved env [] distinct free k d l = absurd (omega (arith, l))
moved env (m ∷ ms) distinct free zero d l =
    one_more env m ms m.to
    ∙ after_same (after env (reverse ms)) m m.to refl
    ∙ kept env ms m.from (λ j e h. free zero (suc j) e (omega arith) (omega (arith, h)))
moved env (m ∷ ms) distinct free (suc k) d l =
    one_more env m ms (get_or ms k d).to
    ∙ after_other (after env (reverse ms)) m (get_or ms k d).to (λ e. distinct zero (suc k) d (omega arith) (omega (arith, l)) (sym e))
    ∙ moved env ms (λ i j e h g. distinct (suc i) (suc j) e (omega (arith, h)) (omega (arith, g))) (λ i j e h g. free (suc i) (suc j) e (omega (arith, h)) (omega (arith, g))) k d (omega (arith, l))

pub at_once : (ms : List Move) (scratch : ℕ) → HasDistinctDestinations ms → reads_written ms ≡ false → (env : ℕ → ℕ) → DoesAtOnce ms (reverse ms) scratch env
at_once ms scratch distinct h env =
    record { moved = moved env ms distinct (unhindered ms h); kept = λ p other apart. kept env ms p apart }

-- ---- which moves they are

self_read : (ms : List Move) (k : ℕ) (d : Move) → k < length ms → IsRead ms (get_or ms k d).from
self_read ms k d l = (k, get_or ms k d, l, get_or_default ms k (get_or ms k d) d l, refl)

between_here : (ms : List Move) (scratch : ℕ) → Unhindered ms → All (IsBetween ms scratch) ms
between_here ms scratch free k d l =
    let is = get_or_default ms k (get_or ms k d) d l in
    (free k k d l l, inr (k, get_or ms k d, l, is, refl), inr (k, get_or ms k d, l, is, inr refl))

pub all_between : (ms : List Move) (scratch : ℕ) → reads_written ms ≡ false → All (IsBetween ms scratch) (reverse ms)
all_between ms scratch h = All-reverse (IsBetween ms scratch) ms (between_here ms scratch (unhindered ms h))

all_known : (known : ℕ → Type 0) (ms : List Move) → All (λ m. known m.from) ms → ReadsKnown known ms
all_known known [] h = tt
all_known known (m ∷ ms) h =
    (h zero m (omega arith), all_known (λ p. (p ≡ m.to) ⊎ known p) ms (λ k d l. inr (h (suc k) d (omega (arith, l)))))

pub reads_known : (ms : List Move) → ReadsKnown (IsRead ms) (reverse ms)
reads_known ms = all_known (IsRead ms) (reverse ms) (All-reverse (λ m. IsRead ms m.from) ms (λ k d l. self_read ms k d l))

all_proper : (ms : List Move) → ((k : ℕ) (d : Move) → k < length ms → (get_or ms k d).to ≢ (get_or ms k d).from) → proper_count ms ≡ length ms
all_proper [] h = refl
all_proper (m ∷ ms) h =
    let rest = all_proper ms (λ k d l. h (suc k) d (omega (arith, l))) in
    sum_by-cons (λ (n : Move). cond (not (eqb n.to n.from)) 1 0) m ms
    ∙ ap (λ b. cond (not b) 1 0 + proper_count ms) (eqb_no m.to m.from (h zero m (omega arith)))
    ∙ omega (arith, rest)

pub few : (ms : List Move) → reads_written ms ≡ false → length (reverse ms) ≤ proper_count ms + proper_count ms / 2
few ms h =
    let all = all_proper ms (λ k d l. unhindered ms h k k d l l) in
    let as_many : length (reverse ms) ≡ length ms = length-reverse ms in
    omega (arith, all, as_many)
