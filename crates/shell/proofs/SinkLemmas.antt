-- Calls of a sink, one after another.
use Rattle.std.proofs.Common.{◌≡◌, ℕ, ◌+◌, ◌-◌, ◌≤◌, ◌<◌, ◌==◌, ◌&&◌, nat_lt, Bool, false, if◌then◌else◌, Ok, List, [], ◌∷◌, ◌++◌, length, take, drop, map, get_or, Option, Some, None, ◌∙◌, sym, ap, subst, append_assoc, append-nil, arith, length-drop}
use Rattle.std.proofs.Math.Seq.{take-add}
use Rattle.std.specs.List.{concat}
use Rattle.std.proofs.lemmas.List.{take_rest, take_more, drop_more, map-append, take-append-drop}
use Rattle.std.proofs.lemmas.List.Folds.{concat-append}
use Rattle.std.proofs.lemmas.Bool.Decides.{nat_tests}
use Rattle.shell.specs.Sink.{SinkState, Went, Sends, Stops, StopsIn, Breaks, one_more, counted}

-- what went out in two calls went out
pub went_more : (old mid new : Option (List ℕ)) (first second : List ℕ) → Went old mid first → Went mid new second → Went old new (first ++ second)
went_more None mid new first second p q = tt
went_more (Some old) None new first second p q = elim p [ ]
went_more (Some old) (Some mid) None first second p q = elim q [ ]
went_more (Some old) (Some mid) (Some new) first second p q = q ∙ ap (λ x. x ++ second) p ∙ append_assoc old first second

-- and then nothing more
pub went_no_more : (old mid new : Option (List ℕ)) (first : List ℕ) → Went old mid first → Went mid new [] → Went old new first
went_no_more old mid new first p q = subst (λ bytes. Went old new bytes) (append-nil first) (went_more old mid new first [] p q)

-- the first bytes, and then the first of the rest
pub went_on : (old mid new : Option (List ℕ)) (bytes : List ℕ) (k n : ℕ) → Went old mid (take k bytes) → Went mid new (take n (take (length bytes - k) (drop k bytes))) → Went old new (take (k + n) bytes)
went_on old mid new bytes k n p q = rw (take-add k n bytes) (went_more old mid new (take k bytes) (take n (drop k bytes)) p (rw take_rest at q))

-- a call takes no more than there is
pub still_fits : (bytes : List ℕ) (k n : ℕ) → k ≤ length bytes → n ≤ length (take (length bytes - k) (drop k bytes)) → k + n ≤ length bytes
still_fits bytes k n p q = let r = rw (take_rest bytes k) at q in omega (arith, length-drop k bytes, r)

not_failed : (some : Bool) (count : ℕ) → (count ≡ 0 → ⊥) → (some && count == 0) ≡ false
not_failed some count h = grind (arith, nat_tests)

-- a call that took some bytes did not fail
pub taken_is_clean : (faults : ℕ) (bytes : List ℕ) (count : ℕ) → (count ≡ 0 → ⊥) → counted faults bytes (Ok count) ≡ faults
taken_is_clean faults bytes count h = ap (λ failed. if failed then one_more faults else faults) (not_failed (nat_lt 0 (length bytes)) count h)

-- ---- parts

-- a call that failed after so many bytes broke off
pub stop_breaks : (old new : SinkState) (bytes : List ℕ) (count : ℕ) → Stops old new bytes count → Breaks old new bytes
stop_breaks old new bytes count h = record { sent = take count bytes; unsent = drop count bytes; are = sym (take-append-drop count bytes); went = h.went; fault = h.fault }

-- a part more
sends_both : (first old new : SinkState) (before part : List ℕ) → Sends first old before → Sends old new part → Sends first new (before ++ part)
sends_both first old new before part p q = record { went = went_more first.held old.held new.held before part p.went q.went; clean = q.clean ∙ p.clean }

breaks_after : (first old new : SinkState) (before part after : List ℕ) → Sends first old before → Breaks old new part → Breaks first new (before ++ (part ++ after))
breaks_after first old new before part after p q = record {
  sent = before ++ q.sent;
  unsent = q.unsent ++ after;
  are = ap (λ x. before ++ (x ++ after)) q.are ∙ ap (λ x. before ++ x) (append_assoc q.sent q.unsent after) ∙ sym (append_assoc before q.sent (q.unsent ++ after));
  went = went_more first.held old.held new.held before q.sent p.went q.went;
  fault = q.fault ∙ ap one_more p.clean;
}

one_part : (bytes : List ℕ) → concat (bytes ∷ []) ≡ bytes
one_part bytes = append-nil bytes

up_to : {X : Type 0} (bytes : X → List ℕ) (xs : List X) (i : ℕ) (d : X) → i < length xs → concat (map bytes (take (i + 1) xs)) ≡ concat (map bytes (take i xs)) ++ bytes (get_or xs i d)
up_to bytes xs i d low =
    ap (λ ys. concat (map bytes ys)) (take_more xs i d low) ∙ ap concat (map-append bytes (take i xs) (get_or xs i d ∷ [])) ∙ concat-append (map bytes (take i xs)) (bytes (get_or xs i d) ∷ [])
    ∙ ap (λ x. concat (map bytes (take i xs)) ++ x) (one_part (bytes (get_or xs i d)))

around : {X : Type 0} (bytes : X → List ℕ) (xs : List X) (i : ℕ) (d : X) → i < length xs
    → concat (map bytes xs) ≡ concat (map bytes (take i xs)) ++ (bytes (get_or xs i d) ++ concat (map bytes (drop (i + 1) xs)))
around bytes xs i d low =
    ap (λ ys. concat (map bytes ys)) (sym (take-append-drop i xs)) ∙ ap concat (map-append bytes (take i xs) (drop i xs)) ∙ concat-append (map bytes (take i xs)) (map bytes (drop i xs))
    ∙ ap (λ ys. concat (map bytes (take i xs)) ++ concat (map bytes ys)) (drop_more xs i d low)

-- one more part went out
pub sends_next : {X : Type 0} (bytes : X → List ℕ) (first old new : SinkState) (xs : List X) (i : ℕ) (d : X) → i < length xs
    → Sends first old (concat (map bytes (take i xs))) → Sends old new (bytes (get_or xs i d)) → Sends first new (concat (map bytes (take (i + 1) xs)))
sends_next bytes first old new xs i d low p q =
    subst (λ all. Sends first new all) (sym (up_to bytes xs i d low)) (sends_both first old new (concat (map bytes (take i xs))) (bytes (get_or xs i d)) p q)

-- or it broke off
pub breaks_next : {X : Type 0} (bytes : X → List ℕ) (first old new : SinkState) (xs : List X) (i : ℕ) (d : X) → i < length xs
    → Sends first old (concat (map bytes (take i xs))) → Breaks old new (bytes (get_or xs i d)) → Breaks first new (concat (map bytes xs))
breaks_next bytes first old new xs i d low p q =
    subst (λ all. Breaks first new all) (sym (around bytes xs i d low))
    (breaks_after first old new (concat (map bytes (take i xs))) (bytes (get_or xs i d)) (concat (map bytes (drop (i + 1) xs))) p q)

parts_around : {X : Type 0} (bytes : X → List ℕ) (xs : List X) (i : ℕ) (d : X) → i < length xs → map bytes xs ≡ map bytes (take i xs) ++ bytes (get_or xs i d) ∷ map bytes (drop (i + 1) xs)
parts_around bytes xs i d low =
    ap (map bytes) (sym (take-append-drop i xs)) ∙ map-append bytes (take i xs) (drop i xs) ∙ ap (λ ys. map bytes (take i xs) ++ map bytes ys) (drop_more xs i d low)

-- in which part it broke off
pub stops_in : {X : Type 0} (bytes : X → List ℕ) (first old new : SinkState) (xs : List X) (i : ℕ) (d : X) (count : ℕ) → i < length xs
    → Sends first old (concat (map bytes (take i xs))) → Stops old new (bytes (get_or xs i d)) count → StopsIn first new (map bytes xs) count
stops_in bytes first old new xs i d count low p q = record {
  before = map bytes (take i xs);
  part = bytes (get_or xs i d);
  after = map bytes (drop (i + 1) xs);
  are = parts_around bytes xs i d low;
  fits = q.fits;
  went = went_more first.held old.held new.held (concat (map bytes (take i xs))) (take count (bytes (get_or xs i d))) p.went q.went;
  fault = q.fault ∙ ap one_more p.clean;
}
