-- The way from a move along the moves that write what is read, as far as none of them is placed.
use Rattle.std.proofs.Common.{◌≡◌, ◌≢◌, ◌⊎◌, inl, inr, ℕ, ◌+◌, ◌<◌, Bool, true, false, List, [], ◌∷◌, ◌++◌, length, set, Some, refl, sym, ap, ◌∙◌, arith, ⊎_elim, length-append}
use Rattle.std.proofs.lemmas.Bool.{false≢true, false_from_ne_true, cases_eq}
use Rattle.std.proofs.lemmas.List.{get_or_push, get_or_append_left}
use Rattle.phi_copies.specs.declared.moves.Move.{Move}
use Rattle.phi_copies.specs.Order.{to_of, from_of, is_placed, at, Way, Seen, Leads, Settled}
use Rattle.phi_copies.proofs.Placing.{placed_same, placed_other}

-- no two moves have one destination, by places in the list
abbrev pub Distinct : List Move → Type 0
Distinct ms = (i j : ℕ) → i < length ms → j < length ms → to_of ms i ≡ to_of ms j → i ≡ j

at_left : (path : List ℕ) (i t : ℕ) → t < length path → at (path ++ i ∷ []) t ≡ at path t
at_left path i t l = get_or_append_left path (i ∷ []) 0 t l

pub at_last : (path : List ℕ) (i t : ℕ) → t ≡ length path → at (path ++ i ∷ []) t ≡ i
at_last path i t e = get_or_push path i 0 t (sym e)

pub longer : (path : List ℕ) (i : ℕ) → length (path ++ i ∷ []) ≡ length path + 1
longer path i = length-append path (i ∷ [])

-- a place of the longer way: an old one, or its end
pub place_cases : (path : List ℕ) (i t : ℕ) → t < length (path ++ i ∷ []) → ((t < length path) × (at (path ++ i ∷ []) t ≡ at path t)) ⊎ ((t ≡ length path) × (at (path ++ i ∷ []) t ≡ i))
place_cases path i t l =
    ⊎_elim
    (λ e. inr (e, at_last path i t e))
    (λ n. let less : t < length path = omega (arith, longer path i) in inl (less, at_left path i t less))
    (cases_eq t (length path))

pub step : (ms : List Move) (visited placed : List Bool) (path : List ℕ) (i : ℕ)
    → Way ms placed path → Seen ms visited placed path → Leads ms path (Some i) → i < length ms → is_placed visited i ≡ false
    → Way ms placed (path ++ i ∷ [])
step ms visited placed path i p v leads l new = record {
  range = λ t h. ⊎_elim (λ w. rw w.1 (p.range t w.0)) (λ w. rw w.1 l) (place_cases path i t h);
  waiting = λ t h. ⊎_elim (λ w. rw w.1 (p.waiting t w.0)) (λ w. rw w.1 not_placed) (place_cases path i t h);
  distinct = λ s t h m e. ⊎_elim
      (λ w. p.distinct s t h w.0 (sym (at_left path i s (omega arith)) ∙ e ∙ w.1))
      (λ w. let less : s < length path = omega arith in
      false≢true (sym new ∙ ap (is_placed visited) (sym w.1 ∙ sym e ∙ at_left path i s less) ∙ v.seen s less))
      (place_cases path i t m);
  chain = λ t h. ⊎_elim
      (λ w. rw (w.1, at_left path i t (omega arith)) (p.chain t w.0))
      (λ w. let less : t < length path = omega arith in
      rw (w.1, at_left path i t less) ((leads t w.0).1))
      (place_cases path i (t + 1) h);
}
  where
    not_placed : is_placed placed i ≡ false
    not_placed = false_from_ne_true (is_placed placed i) (λ t. false≢true (sym new ∙ v.placed_seen i l t))

pub step_seen : (ms : List Move) (visited placed : List Bool) (path : List ℕ) (i : ℕ)
    → Seen ms visited placed path → i < length visited → is_placed visited i ≡ false
    → Seen ms (set visited i true) placed (path ++ i ∷ [])
step_seen ms visited placed path i v inside new = record {
  seen = λ t h. ⊎_elim
      (λ w. rw w.1 (kept (at path t) (v.seen t w.0)))
      (λ w. rw w.1 (placed_same visited i inside)) (place_cases path i t h);
  all = λ j m s q. ⊎_elim
      (λ e. (length path, omega (arith, longer path i), at_last path i (length path) refl ∙ sym e))
      (λ n. let w = v.all j m (sym (placed_other visited i j n) ∙ s) q in
      (w.0, omega (arith, longer path i, w.1), at_left path i w.0 w.1 ∙ w.2))
      (cases_eq j i);
  placed_seen = λ j m q. kept j (v.placed_seen j m q);
}
  where
    kept : (j : ℕ) → is_placed visited j ≡ true → is_placed (set visited i true) j ≡ true
    kept j h = ⊎_elim (λ e. absurd (false≢true (sym new ∙ ap (is_placed visited) (sym e) ∙ h))) (λ n. placed_other visited i j n ∙ h) (cases_eq j i)

more : (path : List ℕ) (i t : ℕ) → t < length path → t < length (path ++ i ∷ [])
more path i t h = omega (arith, longer path i)

end_of : (path : List ℕ) (i : ℕ) → length path < length (path ++ i ∷ [])
end_of path i = omega (arith, longer path i)

-- the end of a way
pub end_range : (ms : List Move) (placed : List Bool) (path : List ℕ) (i : ℕ) → Way ms placed (path ++ i ∷ []) → i < length ms
end_range ms placed path i p = rw (← at_last path i (length path) refl) (p.range (length path) (end_of path i))

pub end_waiting : (ms : List Move) (placed : List Bool) (path : List ℕ) (i : ℕ) → Way ms placed (path ++ i ∷ []) → is_placed placed i ≡ false
end_waiting ms placed path i p = ap (is_placed placed) (sym (at_last path i (length path) refl)) ∙ p.waiting (length path) (end_of path i)

pub end_settled : (ms : List Move) (placed : List Bool) (path : List ℕ) (i : ℕ) → Settled ms placed (path ++ i ∷ [])
    → (b : ℕ) → b < length ms → to_of ms b ≡ from_of ms i → is_placed placed b ≡ true
end_settled ms placed path i s b l e =
    s (length path) (sym (longer path i)) b l (e ∙ ap (from_of ms) (sym (at_last path i (length path) refl)))

-- the way without its end, which is placed now
pub back : (ms : List Move) (placed : List Bool) (path : List ℕ) (i : ℕ) → Way ms placed (path ++ i ∷ []) → Way ms (set placed i true) path
back ms placed path i p = record {
  range = λ t h. rw (← at_left path i t h) (p.range t (more path i t h));
  waiting = λ t h.
      let apart : at path t ≢ i = λ e. p.distinct t (length path) h (end_of path i) (at_left path i t h ∙ e ∙ sym (at_last path i (length path) refl)) in
      placed_other placed i (at path t) apart ∙ ap (is_placed placed) (sym (at_left path i t h)) ∙ p.waiting t (more path i t h);
  distinct = λ s t h m e. p.distinct s t h (more path i t m) (at_left path i s (omega arith) ∙ e ∙ sym (at_left path i t m));
  chain = λ t h.
      ap (to_of ms) (sym (at_left path i (t + 1) h)) ∙ p.chain t (omega (arith, longer path i)) ∙ ap (from_of ms) (at_left path i t (omega arith));
}

pub back_settled : (ms : List Move) (placed : List Bool) (path : List ℕ) (i : ℕ) → Distinct ms → Way ms placed (path ++ i ∷ []) → length placed ≡ length ms
    → Settled ms (set placed i true) path
back_settled ms placed path i distinct p size t e b l same =
    let less : t < length path = omega arith in
    let inside : i < length placed = omega (arith, size, end_range ms placed path i p) in
    let next : to_of ms i ≡ from_of ms (at path t) =
    ap (to_of ms) (sym (at_last path i (t + 1) e)) ∙ p.chain t (omega (arith, longer path i)) ∙ ap (from_of ms) (at_left path i t less) in
    let here : b ≡ i = distinct b i l (end_range ms placed path i p) (same ∙ sym next) in
    ap (is_placed (set placed i true)) here ∙ placed_same placed i inside

pub back_seen : (ms : List Move) (visited placed : List Bool) (path : List ℕ) (i : ℕ) → i < length placed
    → Seen ms visited placed (path ++ i ∷ []) → Seen ms visited (set placed i true) path
back_seen ms visited placed path i inside v = record {
  seen = λ t h. ap (is_placed visited) (sym (at_left path i t h)) ∙ v.seen t (more path i t h);
  all = λ j m s q.
      let n : j ≢ i = λ e. false≢true (sym q ∙ ap (is_placed (set placed i true)) e ∙ placed_same placed i inside) in
      let w = v.all j m s (sym (placed_other placed i j n) ∙ q) in
      ⊎_elim
      (λ c. (w.0, c.0, sym c.1 ∙ w.2))
      (λ c. absurd (n (sym w.2 ∙ c.1)))
      (place_cases path i w.0 w.1);
  placed_seen = λ j m q. ⊎_elim
      (λ e. ap (is_placed visited) (e ∙ sym (at_last path i (length path) refl)) ∙ v.seen (length path) (end_of path i))
      (λ n. v.placed_seen j m (sym (placed_other placed i j n) ∙ q)) (cases_eq j i);
}

-- a move on the way that isn't its end is on the way without the end
pub still_there : (path : List ℕ) (i c : ℕ) → c ≢ i → (t : ℕ) × (t < length (path ++ i ∷ [])) × (at (path ++ i ∷ []) t ≡ c) → (t : ℕ) × (t < length path) × (at path t ≡ c)
still_there path i c n w =
    ⊎_elim (λ k. (w.0, k.0, sym k.1 ∙ w.2)) (λ k. absurd (n (sym w.2 ∙ k.1))) (place_cases path i w.0 w.1)
