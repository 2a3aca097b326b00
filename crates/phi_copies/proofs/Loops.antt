-- What each loop keeps, and one turn of it.
use Rattle.std.proofs.Common.{◌≡◌, ◌≢◌, ◌⊎◌, inl, inr, ℕ, ◌+◌, ◌-◌, ◌<◌, Bool, true, false, not, cond, eqb, map, reverse, List, [], ◌∷◌, ◌++◌, length, set, Option, Some, None, All, refl, sym, ap, ◌∙◌, arith, ⊎_elim}
use Rattle.std.proofs.lemmas.Bool.{false≢true, cases_lt, cases_eq}
use Rattle.std.proofs.lemmas.Option.{same_Some, none-some}
use Rattle.std.proofs.lemmas.List.{same_lists, get_or_default, get_or-map, get_or-reverse, length-map, length-reverse}
use Rattle.std.proofs.lemmas.List.Elements.{All-nil}
use Rattle.std.proofs.lemmas.List.Sums.{sum_by-cons}
use Rattle.std.proofs.lemmas.Bool.Decides.{Decides-eqb}
use Rattle.phi_copies.specs.Together.{HasDistinctDestinations, IsUnnamed, IsBetween, proper_count}
use Rattle.phi_copies.specs.Order.{no_move, to_of, from_of, is_placed, Given, State, IsFew, waiting_count, at, Way, Seen, IsWritten, Leads, Settled, Keeps, Open, Sequencing}
use Rattle.phi_copies.specs.declared.moves.Move.{Move}
use Rattle.phi_copies.proofs.Placing.{placed_same}
use Rattle.phi_copies.proofs.Progress.{placed_kept, place_plain, place_open, place_save, few_placed, few_saved}
use Rattle.phi_copies.proofs.Paths.{Distinct, at_last, longer, step, step_seen, end_range, end_waiting, end_settled, back, back_settled, back_seen, still_there}

lt_cases : (i j : ℕ) → i ≢ j → (i < j) ⊎ (j < i)
lt_cases i j n = ⊎_elim (λ h. inl h) (λ h. inr (omega arith)) (cases_lt i j)

pub distinct_of : (ms : List Move) → HasDistinctDestinations ms → Distinct ms
distinct_of ms h i j li lj e =
    ⊎_elim (λ same. same) (λ n. ⊎_elim
    (λ less. absurd (h i j no_move less lj e))
    (λ more. absurd (h j i no_move more li (sym e)))
    (lt_cases i j n)) (cases_eq i j)

pub given_of : (ms : List Move) (scratch : ℕ) → HasDistinctDestinations ms → IsUnnamed scratch ms → Given ms scratch
given_of ms scratch h u = record {
  distinct = distinct_of ms h;
  to_free = λ i l. (u i no_move l).0;
  from_free = λ i l. (u i no_move l).1;
}

-- along the way

pub record Walking (ms : List Move) (before visited : List Bool) (path : List ℕ) (next start : ℕ) : Type 0 where
  pub way : Way ms before path
  pub seen : Seen ms visited before path
  pub leads : Leads ms path (Some next)
  pub range : next < length ms
  pub started : (is_placed visited start ≡ true) ⊎ (next ≡ start)
  pub grown : (i : ℕ) → is_placed before i ≡ true → is_placed visited i ≡ true

leads_on : (ms : List Move) (path : List ℕ) (next : ℕ) (writer : Option ℕ) → IsWritten ms (from_of ms next) (length ms) writer → Leads ms (path ++ next ∷ []) writer
leads_on ms path next writer w t e =
    let here : at (path ++ next ∷ []) t ≡ next = at_last path next t (omega (arith, longer path next)) in
    rw here w

pub walk_starts : (ms : List Move) (visited : List Bool) (start : ℕ) → start < length ms → Walking ms visited visited [] start start
walk_starts ms visited start l = record {
  way = record { range = λ t h. absurd (omega arith); waiting = λ t h. absurd (omega arith); distinct = λ s t h m. absurd (omega arith); chain = λ t h. absurd (omega arith) };
  seen = record { seen = λ t h. absurd (omega arith); all = λ i m v p. absurd (false≢true (sym p ∙ v)); placed_seen = λ i m p. p };
  leads = λ t e. absurd (omega arith);
  range = l;
  started = inr refl;
  grown = λ i h. h;
}

pub walk_on : (ms : List Move) (before visited : List Bool) (path : List ℕ) (next start writer : ℕ)
    → Walking ms before visited path next start → is_placed visited next ≡ false → length visited ≡ length ms
    → IsWritten ms (from_of ms next) (length ms) (Some writer)
    → Walking ms before (set visited next true) (path ++ next ∷ []) writer start
walk_on ms before visited path next start writer w new size written =
    let inside : next < length visited = omega (arith, w.range) in
    record {
      way = step ms visited before path next w.way w.seen w.leads w.range new;
      seen = step_seen ms visited before path next w.seen inside new;
      leads = leads_on ms path next (Some writer) written;
      range = written.0;
      grown = λ i h. placed_kept visited next i inside (w.grown i h);
      started = inl (⊎_elim (λ s. placed_kept visited next start inside s) (λ e. ap (is_placed (set visited next true)) (sym e) ∙ placed_same visited next inside) w.started);
    }

pub record Walked (ms : List Move) (before visited : List Bool) (path : List ℕ) (start : ℕ) : Type 0 where
  pub way : Way ms before path
  pub seen : Seen ms visited before path
  pub leads : Leads ms path None
  pub started : is_placed visited start ≡ true
  pub grown : (i : ℕ) → is_placed before i ≡ true → is_placed visited i ≡ true

pub walk_ends : (ms : List Move) (before visited : List Bool) (path : List ℕ) (next start : ℕ)
    → Walking ms before visited path next start → is_placed visited next ≡ false → length visited ≡ length ms
    → IsWritten ms (from_of ms next) (length ms) None
    → Walked ms before (set visited next true) (path ++ next ∷ []) start
walk_ends ms before visited path next start w new size written =
    let inside : next < length visited = omega (arith, w.range) in
    record {
      way = step ms visited before path next w.way w.seen w.leads w.range new;
      seen = step_seen ms visited before path next w.seen inside new;
      leads = leads_on ms path next None written;
      grown = λ i h. placed_kept visited next i inside (w.grown i h);
      started = ⊎_elim (λ s. placed_kept visited next start inside s) (λ e. ap (is_placed (set visited next true)) (sym e) ∙ placed_same visited next inside) w.started;
    }

pub walk_meets : (ms : List Move) (before visited : List Bool) (path : List ℕ) (next start : ℕ)
    → Walking ms before visited path next start → is_placed visited next ≡ true → is_placed visited start ≡ true
walk_meets ms before visited path next start w old = ⊎_elim (λ s. s) (λ e. ap (is_placed visited) (sym e) ∙ old) w.started

-- back over a way that reads what no waiting move writes

pub record Unwinding (ms : List Move) (placed : List Bool) (path : List ℕ) (out : List Move) (placed' : List Bool) (path' : List ℕ) (out' : List Move) : Type 0 where
  pub way : Way ms placed' path'
  pub settled : Settled ms placed' path'
  pub order : Keeps ms placed out placed' out'
  pub few : (spare : ℕ) → IsFew ms placed out spare → IsFew ms placed' out' spare
  pub seen : (visited : List Bool) → Seen ms visited placed path → Seen ms visited placed' path'

pub unwind_starts : (ms : List Move) (placed : List Bool) (path : List ℕ) (out : List Move) → Way ms placed path → Settled ms placed path → Unwinding ms placed path out placed path out
unwind_starts ms placed path out w s = record { way = w; settled = s; order = λ scratch g h. h; few = λ spare h. h; seen = λ visited h. h }

pub unwind_on : (ms : List Move) (placed : List Bool) (path : List ℕ) (out : List Move) (placed' : List Bool) (path' : List ℕ) (out' : List Move) (i : ℕ)
    → Distinct ms → length placed' ≡ length ms → Unwinding ms placed path out placed' (path' ++ i ∷ []) out'
    → Unwinding ms placed path out (set placed' i true) path' (out' ++ record { to = to_of ms i; from = from_of ms i } ∷ [])
unwind_on ms placed path out placed' path' out' i distinct size u =
    let l = end_range ms placed' path' i u.way in
    let waits = end_waiting ms placed' path' i u.way in
    let inside : i < length placed' = omega (arith, l) in
    record {
      way = back ms placed' path' i u.way;
      settled = back_settled ms placed' path' i distinct u.way size;
      order = λ scratch g h. place_plain ms scratch None placed' out' i g (u.order scratch g h) l waits (λ e. none-some i e) (end_settled ms placed' path' i u.settled);
      few = λ spare h. let more = few_placed ms placed' out' spare i (record { to = to_of ms i; from = from_of ms i }) inside waits (u.few spare h) in omega (arith, more);
      seen = λ visited h. back_seen ms visited placed' path' i inside (u.seen visited h);
    }

-- back over a cycle

pub record Closing (ms : List Move) (scratch first last : ℕ) (placed : List Bool) (path : List ℕ) (placed' : List Bool) (path' : List ℕ) (out' : List Move) : Type 0 where
  pub way : Way ms placed' path'
  pub settled : Settled ms placed' path'
  pub state : State ms scratch (Some last) placed' out'
  pub few : IsFew ms placed' out' 1
  pub there : (t : ℕ) × (t < length path') × (at path' t ≡ first)
  pub opened : is_placed placed' last ≡ true
  pub source : to_of ms first ≡ from_of ms last
  pub last_range : last < length ms
  pub seen : (visited : List Bool) → Seen ms visited placed path → Seen ms visited placed' path'

pub close_starts : (ms : List Move) (scratch first last : ℕ) (placed : List Bool) (path : List ℕ) (out : List Move)
    → Given ms scratch → Way ms placed (path ++ last ∷ []) → State ms scratch None placed out → IsFew ms placed out 0
    → Leads ms (path ++ last ∷ []) (Some first) → (t : ℕ) × (t < length (path ++ last ∷ [])) × (at (path ++ last ∷ []) t ≡ first)
    → Closing ms scratch first last placed (path ++ last ∷ []) (set placed last true) path (out ++ record { to = to_of ms last; from = scratch } ∷ [])
close_starts ms scratch first last placed path out given way state few leads there =
    let l = end_range ms placed path last way in
    let waits = end_waiting ms placed path last way in
    let inside : last < length placed = omega (arith, l, state.size) in
    let written = leads (length path) (sym (longer path last)) in
    let source : to_of ms first ≡ from_of ms last = written.1 ∙ ap (from_of ms) (at_last path last (length path) refl) in
    let other : first ≢ last = λ e. false≢true (sym waits ∙ state.selves last l (ap (to_of ms) (sym e) ∙ source)) in
    record {
      way = back ms placed path last way;
      settled = back_settled ms placed path last given.distinct way state.size;
      state = place_open ms scratch placed out last given state l waits;
      few = few_placed ms placed out 0 last (record { to = to_of ms last; from = scratch }) inside waits few;
      there = still_there path last first other there;
      opened = placed_same placed last inside;
      source = source;
      last_range = l;
      seen = λ visited v. back_seen ms visited placed path last inside v;
    }

pub close_on : (ms : List Move) (scratch first last : ℕ) (placed : List Bool) (path : List ℕ) (placed' : List Bool) (path' : List ℕ) (out' : List Move) (i : ℕ)
    → Given ms scratch → Closing ms scratch first last placed path placed' (path' ++ i ∷ []) out' → i ≢ first
    → Closing ms scratch first last placed path (set placed' i true) path' (out' ++ record { to = to_of ms i; from = from_of ms i } ∷ [])
close_on ms scratch first last placed path placed' path' out' i given c other =
    let l = end_range ms placed' path' i c.way in
    let waits = end_waiting ms placed' path' i c.way in
    let inside : i < length placed' = omega (arith, l, c.state.size) in
    let more = few_placed ms placed' out' 1 i (record { to = to_of ms i; from = from_of ms i }) inside waits c.few in
    record {
      way = back ms placed' path' i c.way;
      settled = back_settled ms placed' path' i given.distinct c.way c.state.size;
      state = place_plain ms scratch (Some last) placed' out' i given c.state l waits (not_open waits) (end_settled ms placed' path' i c.settled);
      few = omega (arith, more);
      there = still_there path' i first (λ e. other (sym e)) c.there;
      opened = placed_kept placed' i last inside c.opened;
      source = c.source;
      last_range = c.last_range;
      seen = λ visited v. back_seen ms visited placed' path' i inside (c.seen visited v);
    }
  where
    not_open : is_placed placed' i ≡ false → Some last ≢ Some i
    not_open waits e = false≢true (sym waits ∙ ap (is_placed placed') (sym (same_Some last i e)) ∙ c.opened)

pub close_ends : (ms : List Move) (scratch first last : ℕ) (placed : List Bool) (path : List ℕ) (placed' : List Bool) (path' : List ℕ) (out' : List Move) (i : ℕ)
    → Given ms scratch → Closing ms scratch first last placed path placed' (path' ++ i ∷ []) out' → i ≡ first
    → Open ms scratch placed path (set placed' i true) path' (out' ++ record { to = to_of ms i; from = from_of ms i } ∷ [] ++ record { to = scratch; from = to_of ms first } ∷ [])
close_ends ms scratch first last placed path placed' path' out' i given c same =
    let l = end_range ms placed' path' i c.way in
    let waits = end_waiting ms placed' path' i c.way in
    let inside : i < length placed' = omega (arith, l, c.state.size) in
    let m : Move = record { to = to_of ms i; from = from_of ms i } in
    let s : Move = record { to = scratch; from = to_of ms first } in
    let plain = place_plain ms scratch (Some last) placed' out' i given c.state l waits (not_open waits) (end_settled ms placed' path' i c.settled) in
    let l_first : first < length ms = rw (← same) l in
    let placed_first : is_placed (set placed' i true) first ≡ true = ap (is_placed (set placed' i true)) (sym same) ∙ placed_same placed' i inside in
    record {
      way = back ms placed' path' i c.way;
      settled = back_settled ms placed' path' i given.distinct c.way c.state.size;
      state = place_save ms scratch (set placed' i true) (out' ++ m ∷ []) last first given plain l_first placed_first c.source c.last_range;
      few = few_saved ms (set placed' i true) (out' ++ m ∷ []) 0 s (few_placed ms placed' out' 1 i m inside waits c.few);
      seen = λ visited v. back_seen ms visited placed' path' i inside (c.seen visited v);
    }
  where
    not_open : is_placed placed' i ≡ false → Some last ≢ Some i
    not_open waits e = false≢true (sym waits ∙ ap (is_placed placed') (sym (same_Some last i e)) ∙ c.opened)

-- where the way ends

pub settled_none : (ms : List Move) (placed : List Bool) (path : List ℕ) → Leads ms path None → Settled ms placed path
settled_none ms placed path leads t e b l same = absurd (leads t e b l same)

pub settled_some : (ms : List Move) (placed : List Bool) (path : List ℕ) (first : ℕ) → Distinct ms → Leads ms path (Some first) → is_placed placed first ≡ true → Settled ms placed path
settled_some ms placed path first distinct leads p t e b l same =
    let w = leads t e in
    ap (is_placed placed) (distinct b first l w.0 (same ∙ sym w.1)) ∙ p

-- over all moves

same_marks : (ms : List Move) (visited placed : List Bool) → length visited ≡ length ms → length placed ≡ length ms → Seen ms visited placed [] → visited ≡ placed
same_marks ms visited placed lv lp s = same_lists visited placed (lv ∙ sym lp) (λ k d h.
    get_or_default visited k d false h ∙ equal (is_placed visited k) (is_placed placed k) (ahead k (omega (arith, lv))) (s.placed_seen k (omega (arith, lv)))
    ∙ get_or_default placed k false d (omega (arith, lv, lp)))
  where
    equal : (a b : Bool) → (a ≡ true → b ≡ false → ⊥) → (b ≡ true → a ≡ true) → a ≡ b
    equal true true f g = refl
    equal true false f g = absurd (f refl refl)
    equal false true f g = g refl
    equal false false f g = refl

    ahead : (k : ℕ) → k < length ms → is_placed visited k ≡ true → is_placed placed k ≡ false → ⊥
    ahead k l v p = let w = s.all k l v p in absurd (omega (arith, w.1))

pub sequence_on : (ms : List Move) (scratch : ℕ) (visited placed : List Bool) (path : List ℕ) (out : List Move) (visited' placed' : List Bool) (path' : List ℕ) (out' : List Move) (start : ℕ)
    → Sequencing ms scratch visited placed path out start
    → length visited' ≡ length ms → State ms scratch None placed' out' → IsFew ms placed' out' 0 → Seen ms visited' placed' [] → path' ≡ []
    → ((i : ℕ) → is_placed visited i ≡ true → is_placed visited' i ≡ true) → is_placed visited' start ≡ true
    → Sequencing ms scratch visited' placed' path' out' (start + 1)
sequence_on ms scratch visited placed path out visited' placed' path' out' start q size state few seen empty grown started = record {
  state = state;
  few = few;
  same = same_marks ms visited' placed' size state.size seen;
  empty = empty;
  reached = λ i l. ⊎_elim (λ e. ap (is_placed visited') e ∙ started) (λ n. grown i (q.reached i (omega arith))) (cases_eq i start);
}

-- the rest of a way, where it was open
pub open_rest : (ms : List Move) (scratch : ℕ) (placed : List Bool) (path : List ℕ) (placed' : List Bool) (path' : List ℕ) (out' : List Move) (placed'' : List Bool) (out'' : List Move)
    → Given ms scratch → Open ms scratch placed path placed' path' out'
    → Keeps ms placed' out' placed'' out'' → ((spare : ℕ) → IsFew ms placed' out' spare → IsFew ms placed'' out'' spare)
    → ((visited : List Bool) → Seen ms visited placed' path' → Seen ms visited placed'' [])
    → Open ms scratch placed path placed'' [] out''
open_rest ms scratch placed path placed' path' out' placed'' out'' given o order few seen = record {
  way = record { range = λ t h. absurd (omega arith); waiting = λ t h. absurd (omega arith); distinct = λ s t h m. absurd (omega arith); chain = λ t h. absurd (omega arith) };
  settled = λ t e. absurd (omega arith);
  state = order scratch given o.state;
  few = few 0 o.few;
  seen = λ visited v. seen visited (o.seen visited v);
}

pub open_whole : (ms : List Move) (scratch : ℕ) (placed : List Bool) (path : List ℕ) (out : List Move)
    → Way ms placed path → Settled ms placed path → State ms scratch None placed out → IsFew ms placed out 0 → Open ms scratch placed path placed path out
open_whole ms scratch placed path out way settled state few = record { way = way; settled = settled; state = state; few = few; seen = λ visited v. v }

-- at the start only moves of a place to itself are placed

self_at : (ms : List Move) (i : ℕ) → i < length ms → is_placed (map (λ m. eqb m.to m.from) ms) i ≡ eqb (to_of ms i) (from_of ms i)
self_at ms i l = get_or-map (λ m. eqb m.to m.from) ms i no_move false l

self_same : (ms : List Move) (i : ℕ) → i < length ms → is_placed (map (λ m. eqb m.to m.from) ms) i ≡ true → to_of ms i ≡ from_of ms i
self_same ms i l p = (Decides-eqb (to_of ms i) (from_of ms i)).0 (sym (self_at ms i l) ∙ p)

same_self : (ms : List Move) (i : ℕ) → i < length ms → to_of ms i ≡ from_of ms i → is_placed (map (λ m. eqb m.to m.from) ms) i ≡ true
same_self ms i l e = self_at ms i l ∙ (Decides-eqb (to_of ms i) (from_of ms i)).1 e

proper : (ms : List Move) → waiting_count (map (λ m. eqb m.to m.from) ms) ≡ proper_count ms
proper [] = refl
proper (m ∷ ms) =
    sum_by-cons (λ b. cond (not b) 1 0) (eqb m.to m.from) (map (λ m. eqb m.to m.from) ms)
    ∙ ap (λ n. cond (not (eqb m.to m.from)) 1 0 + n) (proper ms)
    ∙ sym (sum_by-cons (λ m. cond (not (eqb m.to m.from)) 1 0) m ms)

pub sequence_starts : (ms : List Move) (scratch : ℕ) → Distinct ms
    → Sequencing ms scratch (map (λ m. eqb m.to m.from) ms) (map (λ m. eqb m.to m.from) ms) [] [] 0
sequence_starts ms scratch distinct = record {
  state = record {
    holds = λ env. record {
      moved = λ i l p. ap env (self_same ms i l p);
      kept = λ p s h. refl;
    };
    closed = λ i b l p k e. inl (same_self ms b k (ap (to_of ms) (here i b l p k e) ∙ self_same ms i l p ∙ ap (from_of ms) (sym (here i b l p k e))));
    selves = λ i l e. same_self ms i l e;
    size = length-map ms (λ m. eqb m.to m.from);
    between = All-nil (IsBetween ms scratch);
    reads = tt;
  };
  few = omega (arith, proper ms);
  same = refl;
  empty = refl;
  reached = λ i l. absurd (omega arith);
}
  where
    here : (i b : ℕ) → i < length ms → is_placed (map (λ m. eqb m.to m.from) ms) i ≡ true → b < length ms → to_of ms b ≡ from_of ms i → b ≡ i
    here i b l p k e = distinct b i k l (e ∙ sym (self_same ms i l p))

pub All-reverse : (P : Move → Type 0) (xs : List Move) → All P xs → All P (reverse xs)
All-reverse P xs h k d l =
    let l' : k < length xs = omega (arith, length-reverse xs) in
    rw (get_or-reverse xs k d l') (h (length xs - 1 - k) d (omega arith))

pub all_between : (ms : List Move) (scratch : ℕ) (out : List Move) → All (IsBetween ms scratch) out → All (IsBetween ms scratch) (reverse out)
all_between ms scratch out h = All-reverse (IsBetween ms scratch) out h
