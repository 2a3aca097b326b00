-- How the marks of sets change.
use Rattle.std.proofs.Common.{◌≡◌, ℕ, zero, suc, ◌+◌, ◌<◌, ◌≤◌, Bool, true, false, not, nat_eq, nat_lt, ◌||◌, ◌&&◌, List, [], ◌∷◌, length, Option, Some, None, slice_get, slice_set, refl, sym, ◌∙◌, ap, subst, arith, inl, inr, MatchBool, ◌⊎◌}
use Rattle.std.proofs.Math.Nat.{eq-or-lt_of_le}
use Rattle.std.specs.List.{list_any}
use Rattle.std.specs.Option.{option_map_or}
use Rattle.std.proofs.lemmas.Bool.Decides.{nat_tests}
use Rattle.std.proofs.lemmas.Bool.{or_cases, and_parts, not-true, or_left, or_right}
use Rattle.bitset.specs.Bits.{Bits, is_member}
use Rattle.cfg_live.specs.declared.graph.Graph.{Graph}
use Rattle.cfg_live.specs.Rows.{reads, writes, leads, IsLive, holds, Justified, any_holds, next_of, flows, Stable, AreSized, Went, SameMarks, Changed}

-- ---- one set written

pub holds-set_same : (rows : List Bits) (p : ℕ) (s : Bits) → p < length rows → (r : ℕ) → holds (slice_set rows p s) p r ≡ is_member s r
holds-set_same [] p s h r = absurd (omega arith)
holds-set_same (x ∷ rows) zero s h r = refl
holds-set_same (x ∷ rows) (suc p) s h r = holds-set_same rows p s (omega arith) r

pub holds-set_other : (rows : List Bits) (p : ℕ) (s : Bits) (q : ℕ) → (q ≡ p → ⊥) → (r : ℕ) → holds (slice_set rows p s) q r ≡ holds rows q r
holds-set_other [] p s q h r = refl
holds-set_other (x ∷ rows) zero s zero h r = absurd (h refl)
holds-set_other (x ∷ rows) zero s (suc q) h r = refl
holds-set_other (x ∷ rows) (suc p) s zero h r = refl
holds-set_other (x ∷ rows) (suc p) s (suc q) h r = holds-set_other rows p s q (λ e. h (ap suc e)) r

-- every set of the list has this length
pub lengths-set : (n : ℕ) (rows : List Bits) (p : ℕ) (s : Bits) → s.length ≡ n → ((q : ℕ) (t : Bits) → slice_get rows q ≡ Some t → t.length ≡ n)
    → (q : ℕ) (t : Bits) → slice_get (slice_set rows p s) q ≡ Some t → t.length ≡ n
lengths-set n [] p s e all q t h = all q t h
lengths-set n (x ∷ rows) zero s e all zero t h = ap (λ (b : Bits). b.length) (let same : s ≡ t = cc in sym same) ∙ e
lengths-set n (x ∷ rows) zero s e all (suc q) t h = all (suc q) t h
lengths-set n (x ∷ rows) (suc p) s e all zero t h = all zero t h
lengths-set n (x ∷ rows) (suc p) s e all (suc q) t h = lengths-set n rows p s e (λ q t. all (suc q) t) q t h

-- ---- tests

-- ---- what flows into a point

pub some_holds : (rows : List Bits) (r : ℕ) (ps : List ℕ) → any_holds rows r ps ≡ true → (q : ℕ) × (list_any (λ k. nat_eq k q) ps ≡ true) × (holds rows q r ≡ true)
some_holds rows r [] h = cc
some_holds rows r (p ∷ ps) h = elim (or_cases (holds rows p r) (any_holds rows r ps) h) [
  | inl here ↦ (p, or_left (nat_eq p p) (list_any (λ k. nat_eq k p) ps) (grind (arith, nat_tests)), here)
  | inr later ↦ (
      let found = some_holds rows r ps later in
      (found.0, or_right (nat_eq p found.0) (list_any (λ k. nat_eq k found.0) ps) found.1, found.2)
      )
]

pub any_of : (rows : List Bits) (r : ℕ) (ps : List ℕ) (q : ℕ) → list_any (λ k. nat_eq k q) ps ≡ true → holds rows q r ≡ true → any_holds rows r ps ≡ true
any_of rows r [] q h here = cc
any_of rows r (p ∷ ps) q h here = elim (or_cases (nat_eq p q) (list_any (λ k. nat_eq k q) ps) h) [
  | inl same ↦ (
      let e : p ≡ q = grind (arith, nat_tests) in
      or_left (holds rows p r) (any_holds rows r ps) (ap (λ k. holds rows k r) e ∙ here)
      )
  | inr later ↦ or_right (holds rows p r) (any_holds rows r ps) (any_of rows r ps q later here)
]

leads_by : (nexts : Option (List ℕ)) (q : ℕ) → list_any (λ k. nat_eq k q) (option_map_or (λ (ks : List ℕ). ks) nexts []) ≡ option_map_or (λ ks. list_any (λ k. nat_eq k q) ks) nexts false
leads_by None q = refl
leads_by (Some ks) q = refl

pub leads-is : (g : Graph) (p q : ℕ) → list_any (λ k. nat_eq k q) (next_of g p) ≡ leads g p q
leads-is g p q = leads_by (slice_get g.nexts p) q

-- what flows in has a path
pub flow_is_live : (g : Graph) (registers : ℕ) (rows : List Bits) → Justified g rows → (p r : ℕ) → flows g registers rows p r ≡ true → IsLive g p r
flow_is_live g registers rows justified p r h =
    elim (or_cases (nat_lt r registers && reads g p r) (any_holds rows r (next_of g p) && not (writes g p r)) h) [
      | inl read ↦ (zero, (and_parts (nat_lt r registers) (reads g p r) read).1)
      | inr behind ↦ (
          let both = and_parts (any_holds rows r (next_of g p)) (not (writes g p r)) behind in
          let found = some_holds rows r (next_of g p) both.0 in
          let path : IsLive g found.0 r = justified found.0 r found.2 in
          (suc path.0, (not-true (writes g p r) both.1, (found.0, sym (leads-is g p found.0) ∙ found.1, path.1)))
          )
    ]

pub flow_is_known : (g : Graph) (registers : ℕ) (rows : List Bits) → AreSized registers rows → (p r : ℕ) → flows g registers rows p r ≡ true → r < registers
flow_is_known g registers rows sized p r h =
    elim (or_cases (nat_lt r registers && reads g p r) (any_holds rows r (next_of g p) && not (writes g p r)) h) [
      | inl read ↦ (let low = (and_parts (nat_lt r registers) (reads g p r) read).0 in grind (arith, nat_tests))
      | inr behind ↦ (
          let both = and_parts (any_holds rows r (next_of g p)) (not (writes g p r)) behind in
          let found = some_holds rows r (next_of g p) both.0 in
          sized.known found.0 r found.2
          )
    ]

pub any_same : (old new : List Bits) → SameMarks old new → (r : ℕ) (ps : List ℕ) → any_holds new r ps ≡ any_holds old r ps
any_same old new same r [] = refl
any_same old new same r (p ∷ ps) = ap (λ b. b || any_holds new r ps) (same p r) ∙ ap (λ b. holds old p r || b) (any_same old new same r ps)

pub flows_same : (g : Graph) (registers : ℕ) (old new : List Bits) → SameMarks old new → (p r : ℕ) → flows g registers new p r ≡ flows g registers old p r
flows_same g registers old new same p r =
    ap (λ b. (nat_lt r registers && reads g p r) || (b && not (writes g p r))) (any_same old new same r (next_of g p))

-- ---- a visit

-- one set was joined to that of the point
pub record Joined (set : ℕ → Bool) (point : ℕ) (old new : List Bits) : Type 0 where
  pub as_many : length new ≡ length old
  pub members : (q r : ℕ) → holds new q r ≡ (holds old q r || (nat_eq q point && set r))

came_from : (set : ℕ → Bool) (point : ℕ) (old new : List Bits) → Joined set point old new → (q r : ℕ) → holds new q r ≡ true → (holds old q r ≡ true) ⊎ ((q ≡ point) × (set r ≡ true))
came_from set point old new j q r h = elim (or_cases (holds old q r) (nat_eq q point && set r) (sym (j.members q r) ∙ h)) [
  | inl was ↦ inl was
  | inr new ↦ (
      let both = and_parts (nat_eq q point) (set r) new in
      let at = both.0 in
      inr (grind (arith, nat_tests), both.1)
      )
]

pub visit_went : (g : Graph) (registers : ℕ) (old new : List Bits) (set : ℕ → Bool) (point : ℕ)
    → AreSized registers old
    → ((r : ℕ) → set r ≡ flows g registers old point r)
    → Joined set point old new
    → ((p : ℕ) (s : Bits) → slice_get new p ≡ Some s → s.length ≡ registers)
    → Went g registers old new
visit_went g registers old new set point sized flowed j lengths =
    record {
      as_many = j.as_many;
      sized =
          record {
            lengths = lengths;
            known = λ p r h. elim (came_from set point old new j p r h) [
              | inl was ↦ sized.known p r was
              | inr both ↦ flow_is_known g registers old sized point r (sym (flowed r) ∙ both.1)
            ];
          };
      kept = λ p r h. j.members p r ∙ or_left (holds old p r) (nat_eq p point && set r) h;
      justified = λ justified p r h. elim (came_from set point old new j p r h) [
        | inl was ↦ justified p r was
        | inr both ↦ (
            let path : IsLive g point r = flow_is_live g registers old justified point r (sym (flowed r) ∙ both.1) in
            subst (λ (q : ℕ). IsLive g q r) (sym both.0) path
            )
      ];
    }

pub visit_changed : (g : Graph) (registers : ℕ) (old new : List Bits) (point : ℕ) → point < length old → Went g registers old new → (grew : Bool)
    → MatchBool grew ((r : ℕ) × (holds old point r ≡ false) × (holds new point r ≡ true)) (SameMarks old new)
    → Changed registers old new grew
visit_changed g registers old new point inside went true h =
    record { point = point; register = h.0; inside = inside; below = went.sized.known point h.0 h.2; was_out = h.1; is_in = h.2 }
visit_changed g registers old new point inside went false h = h

pub visit_stable : (g : Graph) (registers : ℕ) (old new : List Bits) (set : ℕ → Bool) (point : ℕ)
    → ((r : ℕ) → set r ≡ flows g registers old point r)
    → Joined set point old new
    → SameMarks old new
    → Stable g registers new point
visit_stable g registers old new set point flowed j same r h =
    let in_set : set r ≡ true = flowed r ∙ sym (flows_same g registers old new same point r) ∙ h in
    let here : (nat_eq point point && set r) ≡ true = ap (λ b. nat_eq point point && b) in_set ∙ grind (arith, nat_tests) in
    j.members point r ∙ or_right (holds old point r) (nat_eq point point && set r) here

pub visit_takes : (g : Graph) (registers : ℕ) (old new : List Bits) (set : ℕ → Bool) (point : ℕ)
    → ((r : ℕ) → set r ≡ flows g registers old point r)
    → Joined set point old new
    → (r : ℕ) → flows g registers old point r ≡ true → holds new point r ≡ true
visit_takes g registers old new set point flowed j r h =
    let in_set : set r ≡ true = flowed r ∙ h in
    let here : (nat_eq point point && set r) ≡ true = ap (λ b. nat_eq point point && b) in_set ∙ grind (arith, nat_tests) in
    j.members point r ∙ or_right (holds old point r) (nat_eq point point && set r) here

or_none : (b : Bool) → (b || false) ≡ b
or_none true = refl
or_none false = refl

pub visit_spares : (old new : List Bits) (set : ℕ → Bool) (point : ℕ) → Joined set point old new → (q r : ℕ) → nat_eq q point ≡ false → holds new q r ≡ holds old q r
visit_spares old new set point j q r e = j.members q r ∙ ap (λ b. holds old q r || (b && set r)) e ∙ or_none (holds old q r)

-- ---- several visits

pub went_nowhere : (g : Graph) (registers : ℕ) (rows : List Bits) → AreSized registers rows → Went g registers rows rows
went_nowhere g registers rows sized = record { as_many = refl; sized = sized; kept = λ p r h. h; justified = λ j. j }

pub went_on : (g : Graph) (registers : ℕ) (old mid new : List Bits) → Went g registers old mid → Went g registers mid new → Went g registers old new
went_on g registers old mid new a b =
    record { as_many = b.as_many ∙ a.as_many; sized = b.sized; kept = λ p r h. b.kept p r (a.kept p r h); justified = λ j. b.justified (a.justified j) }

false_before : (a b : Bool) → (a ≡ true → b ≡ true) → b ≡ false → a ≡ false
false_before true b h e = let t : b ≡ true = h refl in cc
false_before false b h e = refl

pub changed_on : (g : Graph) (registers : ℕ) (old mid new : List Bits) → Went g registers old mid → Went g registers mid new → (a b : Bool)
    → Changed registers old mid a → Changed registers mid new b → Changed registers old new (a || b)
changed_on g registers old mid new x y true b h k =
    record { point = h.point; register = h.register; inside = h.inside; below = h.below; was_out = h.was_out; is_in = y.kept h.point h.register h.is_in }
changed_on g registers old mid new x y false true h k =
    record {
      point = k.point;
      register = k.register;
      inside = subst (λ (n : ℕ). k.point < n) x.as_many k.inside;
      below = k.below;
      was_out = false_before (holds old k.point k.register) (holds mid k.point k.register) (x.kept k.point k.register) k.was_out;
      is_in = k.is_in;
    }
changed_on g registers old mid new x y false false h k = λ p r. k p r ∙ h p r

pub stable_same : (g : Graph) (registers : ℕ) (old new : List Bits) → SameMarks old new → (p : ℕ) → Stable g registers old p → Stable g registers new p
stable_same g registers old new same p stable r h = same p r ∙ stable r (sym (flows_same g registers old new same p r) ∙ h)

pub at_length : (g : Graph) (m n : ℕ) (old new : List Bits) → m ≡ n → Went g m old new → Went g n old new
at_length g m n old new e h = subst (λ (k : ℕ). Went g k old new) e h

-- growth behind growth, by sets of the same length
pub went_then : (g : Graph) (n m : ℕ) (old mid new : List Bits) → Went g n old mid → m ≡ n → Went g m mid new → Went g n old new
went_then g n m old mid new a e b = went_on g n old mid new a (at_length g m n mid new e b)

pub stable_on : (g : Graph) (registers : ℕ) (mid new : List Bits) (a b : Bool) (done : ℕ)
    → (a ≡ false → (p : ℕ) → p < done → Stable g registers mid p)
    → Changed registers mid new b
    → (b ≡ false → Stable g registers new done)
    → (a || b) ≡ false → (p : ℕ) → p < done + 1 → Stable g registers new p
stable_on g registers mid new true b done before changed here none p h = cc
stable_on g registers mid new false true done before changed here none p h = cc
stable_on g registers mid new false false done before changed here none p h = elim (eq-or-lt_of_le (let le : p ≤ done = omega arith in le)) [
  | inl at ↦ subst (λ (q : ℕ). Stable g registers new q) (sym at) (here refl)
  | inr below ↦ stable_same g registers mid new changed p (before refl p below)
]
