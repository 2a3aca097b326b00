-- From empty sets to those of the live registers.
use Rattle.std.proofs.Common.{◌≡◌, ℕ, zero, suc, ◌<◌, ◌≤◌, Bool, true, false, not, nat_eq, nat_lt, ◌||◌, ◌&&◌, List, [], ◌∷◌, ◌++◌, length, Option, Some, None, slice_get, refl, sym, ◌∙◌, ap, subst, arith, inl, inr, ◌⊎◌}
use Rattle.std.specs.Option.{option_map_or}
use Rattle.std.specs.List.{list_any}
use Rattle.std.proofs.lemmas.Bool.{cases_lt, lt-ltb}
use Rattle.std.proofs.lemmas.Option.{slice_get_past}
use Rattle.bitset.specs.Bits.{Bits, is_member}
use Rattle.cfg_live.specs.declared.uses.Uses.{Uses}
use Rattle.cfg_live.specs.declared.graph.Graph.{Graph}
use Rattle.cfg_live.specs.Rows.{reads, writes, leads, holds, Closed, AreLive, any_holds, next_of, Stable, AreSized, AreBlank, Went}
use Rattle.cfg_live.proofs.Marks.{any_of, leads-is}
use Rattle.cfg_live.proofs.Exact.{each}

-- ---- empty sets

at_end : (xs : List Bits) (y : Bits) (p : ℕ) (s : Bits) → slice_get (xs ++ y ∷ []) p ≡ Some s → (slice_get xs p ≡ Some s) ⊎ (s ≡ y)
at_end [] y zero s h = inr (let e : y ≡ s = cc in sym e)
at_end [] y (suc p) s h = cc
at_end (x ∷ xs) y zero s h = inl h
at_end (x ∷ xs) y (suc p) s h = at_end xs y p s h

holds-end : (xs : List Bits) (y : Bits) → ((r : ℕ) → is_member y r ≡ false) → ((p r : ℕ) → holds xs p r ≡ false) → (p r : ℕ) → holds (xs ++ y ∷ []) p r ≡ false
holds-end [] y none all zero r = none r
holds-end [] y none all (suc p) r = refl
holds-end (x ∷ xs) y none all zero r = all zero r
holds-end (x ∷ xs) y none all (suc p) r = holds-end xs y none (λ q. all (suc q)) p r

pub blank-end : (registers : ℕ) (rows : List Bits) (row : Bits) → AreBlank registers rows → row.length ≡ registers → ((r : ℕ) → is_member row r ≡ false) → AreBlank registers (rows ++ row ∷ [])
blank-end registers rows row blank e none =
    record {
      lengths = λ p s h. elim (at_end rows row p s h) [
        | inl before ↦ blank.lengths p s before
        | inr last ↦ ap (λ (b : Bits). b.length) last ∙ e
      ];
      empty = holds-end rows row none blank.empty;
    }

pub blank-sized : (registers : ℕ) (rows : List Bits) → AreBlank registers rows → AreSized registers rows
blank-sized registers rows blank = record { lengths = blank.lengths; known = λ p r h. let e = blank.empty p r in cc }

-- ---- stable sets are closed

no_reads : (g : Graph) (p r : ℕ) → slice_get g.uses p ≡ None → reads g p r ≡ false
no_reads g p r e = ap (λ (o : Option Uses). option_map_or (λ (u : Uses). list_any (λ k. nat_eq k r) u.reads) o false) e

no_leads : (g : Graph) (p q : ℕ) → slice_get g.nexts p ≡ None → leads g p q ≡ false
no_leads g p q e = ap (λ (o : Option (List ℕ)). option_map_or (λ ks. list_any (λ k. nat_eq k q) ks) o false) e

read_flows : (b c d : Bool) → b ≡ true → c ≡ true → ((b && c) || d) ≡ true
read_flows true true d e f = refl
read_flows true false d e f = cc
read_flows false c d e f = cc

behind_flows : (a b c : Bool) → b ≡ true → c ≡ false → (a || (b && not c)) ≡ true
behind_flows true b c e f = refl
behind_flows false true false e f = refl
behind_flows false true true e f = cc
behind_flows false false c e f = cc

pub closed_when_stable : (g : Graph) (registers : ℕ) (rows : List Bits) → length g.uses ≤ length rows → length g.nexts ≤ length rows
    → ((p : ℕ) → p < length rows → Stable g registers rows p) → Closed g registers rows
closed_when_stable g registers rows e f stable =
    record {
      read = λ p r below h. elim (cases_lt p (length rows)) [
        | inl inside ↦ stable p inside r (read_flows (nat_lt r registers) (reads g p r) (any_holds rows r (next_of g p) && not (writes g p r)) (lt-ltb r registers below) h)
        | inr outside ↦ (let none = no_reads g p r (slice_get_past g.uses p (omega (arith, e, outside))) in cc)
      ];
      behind = λ p q r below w l h. elim (cases_lt p (length rows)) [
        | inl inside ↦ (
            stable p inside r
            (behind_flows (nat_lt r registers && reads g p r) (any_holds rows r (next_of g p)) (writes g p r) (any_of rows r (next_of g p) q (leads-is g p q ∙ l) h) w)
            )
        | inr outside ↦ (let none = no_leads g p q (slice_get_past g.nexts p (omega (arith, f, outside))) in cc)
      ];
    }

pub whole : (g : Graph) (registers n : ℕ) (blank old rows : List Bits)
    → n ≡ registers → old ≡ blank
    → AreBlank registers blank → length g.uses ≤ length blank → length g.nexts ≤ length blank
    → Went g n old rows → ((p : ℕ) → p < length rows → Stable g n rows p) → AreLive g registers rows
whole g registers n blank old rows same start empty many many_nexts went stable =
    let from_blank : Went g registers blank rows = subst (λ (k : ℕ). Went g k blank rows) same (subst (λ (s : List Bits). Went g n s rows) start went) in
    let closed : Closed g registers rows =
    closed_when_stable g registers rows (omega (arith, many, from_blank.as_many)) (omega (arith, many_nexts, from_blank.as_many))
    (λ p h. subst (λ (k : ℕ). Stable g k rows p) same (stable p h))
    in
    record {
      marked = λ p r below h. each g registers rows closed p r below h;
      live = from_blank.justified (λ p r h. let none = empty.empty p r in cc);
      known = from_blank.sized.known;
    }
