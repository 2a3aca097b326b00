-- How far the moves have been put in order: `out` has them from the last to the first.
use Rattle.std.proofs.Common.{◌≡◌, ◌≢◌, ◌⊎◌, inl, inr, ℕ, ◌+◌, ◌<◌, Bool, true, false, not, cond, List, [], ◌∷◌, ◌++◌, length, get_or, set, reverse, Option, Some, None, Any, refl, sym, ap, ◌∙◌, arith, ⊎_elim, length-append}
use Rattle.std.proofs.lemmas.Bool.{false≢true, cases_eq}
use Rattle.std.proofs.lemmas.List.{reverse-append, length-set, get_or_default}
use Rattle.std.proofs.lemmas.List.Elements.{All-push}
use Rattle.std.proofs.lemmas.List.Sums.{sum_by-set}
use Rattle.std.proofs.lemmas.Option.{same_Some, none-some}
use Rattle.phi_copies.specs.Together.{DoesAtOnce, IsBetween, IsRead, ReadsKnown}
use Rattle.phi_copies.specs.Order.{no_move, to_of, from_of, is_placed, Given, Known, State, waiting_count, IsFew}
use Rattle.phi_copies.specs.declared.moves.Move.{Move}
use Rattle.phi_copies.proofs.Placing.{place, save, source_cases, placed_same, placed_other}

pub placed_kept : (placed : List Bool) (i j : ℕ) → i < length placed → is_placed placed j ≡ true → is_placed (set placed i true) j ≡ true
placed_kept placed i j l h = ⊎_elim (λ e. rw e (placed_same placed i l)) (λ n. placed_other placed i j n ∙ h) (cases_eq j i)

reverse_push : (out : List Move) (m : Move) → reverse (out ++ m ∷ []) ≡ m ∷ reverse out
reverse_push out m = reverse-append out (m ∷ [])

names_to : (ms : List Move) (i : ℕ) → i < length ms → Any (λ n. n.to ≡ to_of ms i) ms
names_to ms i l = (i, get_or ms i no_move, l, get_or_default ms i (get_or ms i no_move) no_move l, refl)

names_to_either : (ms : List Move) (i : ℕ) → i < length ms → Any (λ n. (n.to ≡ to_of ms i) ⊎ (n.from ≡ to_of ms i)) ms
names_to_either ms i l = (i, get_or ms i no_move, l, get_or_default ms i (get_or ms i no_move) no_move l, inl refl)

names_from : (ms : List Move) (i : ℕ) → i < length ms → Any (λ n. (n.to ≡ from_of ms i) ⊎ (n.from ≡ from_of ms i)) ms
names_from ms i l = (i, get_or ms i no_move, l, get_or_default ms i (get_or ms i no_move) no_move l, inr refl)

-- what a move reads
is_read : (ms : List Move) (i p : ℕ) → i < length ms → from_of ms i ≡ p → IsRead ms p
is_read ms i p l e = (i, get_or ms i no_move, l, get_or_default ms i (get_or ms i no_move) no_move l, e)

known_read : (ms : List Move) (scratch : ℕ) (open' : Option ℕ) (p : ℕ) → IsRead ms p → Known ms scratch open' p
known_read ms scratch None p h = h
known_read ms scratch (Some z) p h = inr h

reads_more : (known more : ℕ → Type 0) (ms : List Move) → ((p : ℕ) → known p → more p) → ReadsKnown known ms → ReadsKnown more ms
reads_more known more [] h reads = tt
reads_more known more (m ∷ ms) h reads =
    (h m.from reads.0, reads_more (λ p. (p ≡ m.to) ⊎ known p) (λ p. (p ≡ m.to) ⊎ more p) ms (λ p k. ⊎_elim (λ e. inl e) (λ l. inr (h p l)) k) reads.1)

-- one move more, in front
read_first : (known more : ℕ → Type 0) (out : List Move) (m : Move) → more m.from → ((p : ℕ) → known p → (p ≡ m.to) ⊎ more p) → ReadsKnown known (reverse out) → ReadsKnown more (reverse (out ++ m ∷ []))
read_first known more out m here rest reads =
    rw (reverse_push out m) (here, reads_more known (λ p. (p ≡ m.to) ⊎ more p) (reverse out) rest reads)

-- a move whose source no waiting move writes
pub place_plain : (ms : List Move) (scratch : ℕ) (open' : Option ℕ) (placed : List Bool) (out : List Move) (i : ℕ)
    → Given ms scratch → State ms scratch open' placed out → i < length ms → is_placed placed i ≡ false → open' ≢ Some i
    → ((b : ℕ) → b < length ms → to_of ms b ≡ from_of ms i → is_placed placed b ≡ true)
    → State ms scratch open' (set placed i true) (out ++ record { to = to_of ms i; from = from_of ms i } ∷ [])
place_plain ms scratch open' placed out i given state l waiting other settled =
    let inside : i < length placed = omega (arith, state.size) in
    let proper : to_of ms i ≢ from_of ms i = λ e. false≢true (sym waiting ∙ state.selves i l e) in
    record {
      holds = λ env. rw (reverse_push out (record { to = to_of ms i; from = from_of ms i }))
          (place ms scratch open' open' placed (reverse out) i (from_of ms i) given state.holds state.closed state.size l waiting
          (⊎_elim (λ w. absurd (other w.1)) (λ w. w.0) (source_cases ms scratch open' i)) (λ j n p. refl) env);
      closed = λ j b m p k e. ⊎_elim
          (λ same. inl (placed_kept placed i b inside (settled b k (e ∙ ap (from_of ms) same))))
          (λ n. ⊎_elim (λ q. inl (placed_kept placed i b inside q)) (λ q. inr q) (state.closed j b m (sym (placed_other placed i j n) ∙ p) k e))
          (cases_eq j i);
      selves = λ j m e. placed_kept placed i j inside (state.selves j m e);
      size = length-set placed i true ∙ state.size;
      between = All-push (IsBetween ms scratch) out _ state.between (proper, inr (names_to ms i l), inr (names_from ms i l));
      reads =
          read_first (Known ms scratch open') (Known ms scratch open') out (record { to = to_of ms i; from = from_of ms i })
          (known_read ms scratch open' (from_of ms i) (is_read ms i (from_of ms i) l refl)) (λ p k. inr k) state.reads;
    }

-- the last move of a cycle, which will find its value in the scratch place
pub place_open : (ms : List Move) (scratch : ℕ) (placed : List Bool) (out : List Move) (z : ℕ)
    → Given ms scratch → State ms scratch None placed out → z < length ms → is_placed placed z ≡ false
    → State ms scratch (Some z) (set placed z true) (out ++ record { to = to_of ms z; from = scratch } ∷ [])
place_open ms scratch placed out z given state l waiting =
    let inside : z < length placed = omega (arith, state.size) in
    record {
      holds = λ env. rw (reverse_push out (record { to = to_of ms z; from = scratch }))
          (place ms scratch None (Some z) placed (reverse out) z scratch given state.holds state.closed state.size l waiting
          (⊎_elim (λ w. w.0) (λ w. absurd (w.1 refl)) (source_cases ms scratch (Some z) z))
          (λ j n p. ⊎_elim (λ w. absurd (n (sym (same_Some z j w.1)))) (λ w. w.0) (source_cases ms scratch (Some z) j)) env);
      closed = λ j b m p k e. ⊎_elim
          (λ same. inr (ap Some (sym same)))
          (λ n. ⊎_elim (λ q. inl (placed_kept placed z b inside q)) (λ q. absurd (none-some j q)) (state.closed j b m (sym (placed_other placed z j n) ∙ p) k e))
          (cases_eq j z);
      selves = λ j m e. placed_kept placed z j inside (state.selves j m e);
      size = length-set placed z true ∙ state.size;
      between = All-push (IsBetween ms scratch) out _ state.between (given.to_free z l, inr (names_to ms z l), inl refl);
      reads =
          read_first (Known ms scratch None) (Known ms scratch (Some z)) out (record { to = to_of ms z; from = scratch })
          (inl refl) (λ p k. inr (inr k)) state.reads;
    }

-- the move to the scratch place, once the move whose destination the open one reads is placed
pub place_save : (ms : List Move) (scratch : ℕ) (placed : List Bool) (out : List Move) (z c : ℕ)
    → Given ms scratch → State ms scratch (Some z) placed out → c < length ms → is_placed placed c ≡ true → to_of ms c ≡ from_of ms z → z < length ms
    → State ms scratch None placed (out ++ record { to = scratch; from = to_of ms c } ∷ [])
place_save ms scratch placed out z c given state l there same lz = record {
  holds = λ env. rw (reverse_push out (record { to = scratch; from = to_of ms c })) (save ms scratch z c placed (reverse out) given state.holds same env);
  closed = λ j b m p k e. ⊎_elim
      (λ q. inl q)
      (λ q. let jz : z ≡ j = same_Some z j q in
      let bc : b ≡ c = given.distinct b c k l (e ∙ ap (from_of ms) (sym jz) ∙ sym same) in
      inl (ap (is_placed placed) bc ∙ there))
      (state.closed j b m p k e);
  selves = state.selves;
  size = state.size;
  between = All-push (IsBetween ms scratch) out _ state.between (λ e. given.to_free c l (sym e), inl refl, inr (names_to_either ms c l));
  reads =
      read_first (Known ms scratch (Some z)) (Known ms scratch None) out (record { to = scratch; from = to_of ms c })
      (is_read ms z (to_of ms c) lz (sym same)) (λ p k. k) state.reads;
}

waiting_less : (placed : List Bool) (i : ℕ) → i < length placed → is_placed placed i ≡ false → waiting_count (set placed i true) + 1 ≡ waiting_count placed
waiting_less placed i l h =
    let e = sum_by-set (λ x. cond (not x) 1 0) placed i true false l in
    let one : ◌≡◌ {A = ℕ} (cond (not (get_or placed i false)) 1 0) 1 = ap (λ x. cond (not x) 1 0) h in
    omega (arith, e, one)

pub few_placed : (ms : List Move) (placed : List Bool) (out : List Move) (spare i : ℕ) (m : Move) → i < length placed → is_placed placed i ≡ false
    → IsFew ms placed out spare → IsFew ms (set placed i true) (out ++ m ∷ []) (spare + 1)
few_placed ms placed out spare i m l h few = omega (arith, few, waiting_less placed i l h, length-append out (m ∷ []))

pub few_saved : (ms : List Move) (placed : List Bool) (out : List Move) (spare : ℕ) (m : Move)
    → IsFew ms placed out (spare + 2) → IsFew ms placed (out ++ m ∷ []) spare
few_saved ms placed out spare m few = omega (arith, few, length-append out (m ∷ []))

-- once all are placed
pub done : (ms : List Move) (scratch : ℕ) (placed : List Bool) (out : List Move) → State ms scratch None placed out
    → ((i : ℕ) → i < length ms → is_placed placed i ≡ true) → (env : ℕ → ℕ) → DoesAtOnce ms (reverse out) scratch env
done ms scratch placed out state all env = record {
  moved = λ i d l.
      let here : get_or ms i d ≡ get_or ms i no_move = get_or_default ms i d no_move l in
      rw here ((state.holds env).moved i l (all i l));
  kept = λ p s others. (state.holds env).kept p s (λ i l q. others i no_move l);
}
