-- Putting one move before others that are done in a right order already.
use Rattle.std.proofs.Common.{◌≡◌, ◌≢◌, ◌⊎◌, inl, inr, ℕ, ◌<◌, Bool, true, false, cond, eqb, List, ◌∷◌, length, set, Option, Some, None, refl, sym, ap, ◌∙◌, arith, ⊎_elim, get_or-set_same, get_or-set_other}
use Rattle.std.proofs.lemmas.Bool.Decides.{Decides-eqb}
use Rattle.std.proofs.lemmas.Bool.{false≢true, cases_eq}
use Rattle.std.proofs.lemmas.Option.{same_Some}
use Rattle.phi_copies.specs.Together.{after}
use Rattle.phi_copies.specs.Order.{to_of, from_of, is_placed, Given, source, Holds, Closed}
use Rattle.phi_copies.specs.declared.moves.Move.{Move}

pub eqb_no : (a b : ℕ) → a ≢ b → eqb a b ≡ false
eqb_no a b h = not_so (eqb a b) (λ t. h ((Decides-eqb a b).0 t))
  where
    not_so : (x : Bool) → (x ≡ true → ⊥) → x ≡ false
    not_so true h = absurd (h refl)
    not_so false h = refl

-- one move more, in front
pub after_same : {X : Type 0} (env : ℕ → X) (m : Move) (p : ℕ) → p ≡ m.to → cond (eqb p m.to) (env m.from) (env p) ≡ env m.from
after_same env m p h = ap (λ b. cond b (env m.from) (env p)) ((Decides-eqb p m.to).1 h)

pub after_other : {X : Type 0} (env : ℕ → X) (m : Move) (p : ℕ) → p ≢ m.to → cond (eqb p m.to) (env m.from) (env p) ≡ env p
after_other env m p h = ap (λ b. cond b (env m.from) (env p)) (eqb_no p m.to h)

pub placed_same : (placed : List Bool) (i : ℕ) → i < length placed → is_placed (set placed i true) i ≡ true
placed_same placed i h = get_or-set_same placed i true false h

pub placed_other : (placed : List Bool) (i j : ℕ) → j ≢ i → is_placed (set placed i true) j ≡ is_placed placed j
placed_other placed i j h = get_or-set_other placed i j true false h

-- where a move finds its value
pub source_cases : (ms : List Move) (scratch : ℕ) (o : Option ℕ) (j : ℕ)
    → ((source ms scratch o j ≡ scratch) × (o ≡ Some j)) ⊎ ((source ms scratch o j ≡ from_of ms j) × (o ≢ Some j))
source_cases ms scratch None j = inr (refl, λ e. absurd (cc))
source_cases ms scratch (Some z) j =
    ⊎_elim
    (λ e. inl (ap (λ b. cond b scratch (from_of ms j)) ((Decides-eqb j z).1 e), ap Some (sym e)))
    (λ n. inr (ap (λ b. cond b scratch (from_of ms j)) (eqb_no j z n), λ e. n (sym (same_Some z j e))))
    (cases_eq j z)

-- A move that is not placed, and which no placed move reads but the open one, is placed in front; it
-- finds its value at `from`.
pub place : (ms : List Move) (scratch : ℕ) (open' open'' : Option ℕ) (placed : List Bool) (seq : List Move) (i from : ℕ)
    → Given ms scratch → ((env : ℕ → ℕ) → Holds ms scratch open' placed seq env) → Closed ms open' placed → length placed ≡ length ms
    → i < length ms → is_placed placed i ≡ false
    → source ms scratch open'' i ≡ from
    → ((j : ℕ) → j ≢ i → is_placed placed j ≡ true → source ms scratch open'' j ≡ source ms scratch open' j)
    → (env : ℕ → ℕ) → Holds ms scratch open'' (set placed i true) (record { to = to_of ms i; from = from } ∷ seq) env
place ms scratch open' open'' placed seq i from given holds closed size in-range waiting finds others env =
    record { moved = moved; kept = kept }
  where
    m : Move
    m = record { to = to_of ms i; from = from }

    not_it : (j : ℕ) → is_placed placed j ≡ true → j ≢ i
    not_it j p e = false≢true (sym waiting ∙ ap (is_placed placed) (sym e) ∙ p)

    -- no placed move goes where this one goes
    apart : (j : ℕ) → j < length ms → is_placed placed j ≡ true → to_of ms j ≢ to_of ms i
    apart j l p e = not_it j p (given.distinct j i l in-range e)

    -- no placed move reads there, the open one aside
    unread : (j : ℕ) → j < length ms → is_placed placed j ≡ true → source ms scratch open' j ≢ to_of ms i
    unread j l p e =
        ⊎_elim
        (λ w. given.to_free i in-range (sym e ∙ w.0))
        (λ w. ⊎_elim (λ t. not_it i t refl) w.1 (closed j i l p in-range (sym e ∙ w.0)))
        (source_cases ms scratch open' j)

    moved : (j : ℕ) → j < length ms → is_placed (set placed i true) j ≡ true → after (λ q. cond (eqb q (to_of ms i)) (env from) (env q)) seq (to_of ms j) ≡ env (source ms scratch open'' j)
    moved j l p =
        ⊎_elim
        (λ e. rw e (
        (holds (λ q. cond (eqb q (to_of ms i)) (env from) (env q))).kept (to_of ms i) (given.to_free i in-range) (λ k m q. apart k m q)
        ∙ after_same env (record { to = to_of ms i; from = from }) (to_of ms i) refl
        ∙ ap env (sym finds)))
        (λ n. let q : is_placed placed j ≡ true = sym (placed_other placed i j n) ∙ p in
        (holds (λ q. cond (eqb q (to_of ms i)) (env from) (env q))).moved j l q
        ∙ after_other env (record { to = to_of ms i; from = from }) (source ms scratch open' j) (unread j l q)
        ∙ ap env (sym (others j n q)))
        (cases_eq j i)

    kept : (p : ℕ) → p ≢ scratch → ((j : ℕ) → j < length ms → is_placed (set placed i true) j ≡ true → to_of ms j ≢ p) → after (λ q. cond (eqb q (to_of ms i)) (env from) (env q)) seq p ≡ env p
    kept p s h =
        (holds (λ q. cond (eqb q (to_of ms i)) (env from) (env q))).kept p s (λ j l q. h j l (placed_other placed i j (not_it j q) ∙ q))
        ∙ after_other env (record { to = to_of ms i; from = from }) p (λ e. h i in-range (placed_same placed i (omega arith)) (sym e))

-- The open move reads the scratch place, which now gets what the open move's source holds.
pub save : (ms : List Move) (scratch z c : ℕ) (placed : List Bool) (seq : List Move)
    → Given ms scratch → ((env : ℕ → ℕ) → Holds ms scratch (Some z) placed seq env) → to_of ms c ≡ from_of ms z
    → (env : ℕ → ℕ) → Holds ms scratch None placed (record { to = scratch; from = to_of ms c } ∷ seq) env
save ms scratch z c placed seq given holds same env = record { moved = moved; kept = kept }
  where
    moved : (j : ℕ) → j < length ms → is_placed placed j ≡ true → after (λ q. cond (eqb q scratch) (env (to_of ms c)) (env q)) seq (to_of ms j) ≡ env (from_of ms j)
    moved j l p =
        (holds (λ q. cond (eqb q scratch) (env (to_of ms c)) (env q))).moved j l p
        ∙ ⊎_elim
        (λ w. ap (λ q. cond (eqb q scratch) (env (to_of ms c)) (env q)) w.0
        ∙ after_same env (record { to = scratch; from = to_of ms c }) scratch refl
        ∙ ap env (same ∙ ap (from_of ms) (same_Some z j w.1)))
        (λ w. ap (λ q. cond (eqb q scratch) (env (to_of ms c)) (env q)) w.0
        ∙ after_other env (record { to = scratch; from = to_of ms c }) (from_of ms j) (given.from_free j l))
        (source_cases ms scratch (Some z) j)

    kept : (p : ℕ) → p ≢ scratch → ((j : ℕ) → j < length ms → is_placed placed j ≡ true → to_of ms j ≢ p) → after (λ q. cond (eqb q scratch) (env (to_of ms c)) (env q)) seq p ≡ env p
    kept p s h =
        (holds (λ q. cond (eqb q scratch) (env (to_of ms c)) (env q))).kept p s h
        ∙ after_other env (record { to = scratch; from = to_of ms c }) p s
