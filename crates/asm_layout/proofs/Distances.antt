-- No two places are farther apart than in the longest form, so that each form which is chosen fits.
use Rattle.std.proofs.Common.{◌≡◌, ◌≢◌, ℕ, zero, suc, ◌+◌, ◌-◌, ◌^◌, ◌<◌, ◌≤◌, Bool, true, false, List, [], ◌∷◌, length, refl, sym, ◌∙◌, ap, inl, inr, arith, ◌⊎◌, ◌&&◌, nat_le, nat_eq, slice_index, slice_set, if◌then◌else◌, length-set, get_or-set_same, get_or-set_other}
use Rattle.std.proofs.lemmas.Bool.Decides.{nat_tests}
use Rattle.rv_isa.specs.Prelude.{longest, longest_size}
use Rattle.rv_isa.specs.declared.labelled.Item.{Item}
use Rattle.rv_isa.specs.declared.labelled.Item.TheVariants.{Plain, Label, Branch, Goto, Call, Relocated}
use Rattle.asm_layout.specs.declared.reach.Reach.{Reach}
use Rattle.asm_layout.specs.declared.reach.Reach.TheVariants.{Short, Middle, Far}
use Rattle.asm_layout.specs.Forms.{reach_of, Fits, jump_size, branch_size, size, marked, longest_places, chosen_places, ItemFits, AllFit}

-- one place stands at f in the longest form and at p in the chosen one, another at g and q; it is not after the other, and the chosen distance is not longer
pub record Ahead (f p g q : ℕ) : Type 0 where
  pub real : p ≤ q
  pub no_longer : q + f ≤ p + g

jump_longest : (r : Reach) → jump_size r ≤ 2
jump_longest Short = omega arith
jump_longest Middle = omega arith
jump_longest Far = omega arith

branch_longest : (r : Reach) → branch_size r ≤ 3
branch_longest Short = omega arith
branch_longest Middle = omega arith
branch_longest Far = omega arith

pub size_longest : (far : List ℕ) (f : ℕ) (i : Item) → size far f i ≤ longest i
size_longest far f (Plain i) = omega arith
size_longest far f (Label l) = omega arith
size_longest far f (Branch op rs1 rs2 l) = branch_longest (reach_of f (slice_index far l))
size_longest far f (Goto l) = jump_longest (reach_of f (slice_index far l))
size_longest far f (Call n) = omega arith
size_longest far f (Relocated r) = omega arith

pub marked_length : (v : List ℕ) (at : ℕ) (i : Item) → length (marked v at i) ≡ length v
marked_length v at (Plain i) = refl
marked_length v at (Label l) = length-set v l at
marked_length v at (Branch op rs1 rs2 l) = refl
marked_length v at (Goto l) = refl
marked_length v at (Call n) = refl
marked_length v at (Relocated r) = refl

-- both lists keep the place of a label, or both get a new one
abbrev Marks : (f p : ℕ) (v w v' w' : List ℕ) (l : ℕ) → Type 0
Marks f p v w v' w' l =
    ((slice_index v' l ≡ slice_index v l) × (slice_index w' l ≡ slice_index w l)) ⊎ ((slice_index v' l ≡ f) × (slice_index w' l ≡ p))

set_past : (v : List ℕ) (l a : ℕ) → length v ≤ l → slice_set v l a ≡ v
set_past [] l a h = refl
set_past (x ∷ v) zero a h = absurd (omega arith)
set_past (x ∷ v) (suc l) a h = ap (λ u. x ∷ u) (set_past v l a (omega arith))

set_marks : (f p : ℕ) (v w : List ℕ) (m l : ℕ) → length v ≡ length w → Marks f p v w (slice_set v m f) (slice_set w m p) l
set_marks f p v w m l same = by_place (nat_le (length v) m) refl (nat_eq l m) refl
  where
    by_place : (b : Bool) → nat_le (length v) m ≡ b → (c : Bool) → nat_eq l m ≡ c → Marks f p v w (slice_set v m f) (slice_set w m p) l
    by_place true past c e =
        let h : length v ≤ m = grind (arith, nat_tests) in
        inl (ap (λ u. slice_index u l) (set_past v m f h), ap (λ u. slice_index u l) (set_past w m p (omega arith)))
    by_place false within true e =
        let h : m < length v = grind (arith, nat_tests) in
        let here : m ≡ l = grind (arith, nat_tests) in
        inr (ap (slice_index (slice_set v m f)) (sym here) ∙ get_or-set_same v m f 0 h, ap (slice_index (slice_set w m p)) (sym here) ∙ get_or-set_same w m p 0 (omega arith))
    by_place false within false e =
        let other : l ≢ m = grind (arith, nat_tests) in
        inl (get_or-set_other v m l f 0 other, get_or-set_other w m l p 0 other)

pub marks : (f p : ℕ) (v w : List ℕ) (i : Item) (l : ℕ) → length v ≡ length w → Marks f p v w (marked v f i) (marked w p i) l
marks f p v w (Plain i) l same = inl (refl, refl)
marks f p v w (Label m) l same = set_marks f p v w m l same
marks f p v w (Branch op rs1 rs2 m) l same = inl (refl, refl)
marks f p v w (Goto m) l same = inl (refl, refl)
marks f p v w (Call n) l same = inl (refl, refl)
marks f p v w (Relocated r) l same = inl (refl, refl)

-- a label keeps the place that it has before items, or stands ahead
abbrev Later : (f p : ℕ) (v w v' w' : List ℕ) (l : ℕ) → Type 0
Later f p v w v' w' l =
    ((slice_index v' l ≡ slice_index v l) × (slice_index w' l ≡ slice_index w l)) ⊎ Ahead f p (slice_index v' l) (slice_index w' l)

ahead_at : (f p g q : ℕ) → g ≡ f → q ≡ p → Ahead f p g q
ahead_at f p g q e k = record { real = omega arith; no_longer = omega arith }

pub later : (far : List ℕ) (f p : ℕ) (v w : List ℕ) (items : List Item) (l : ℕ) → length v ≡ length w
    → Later f p v w (longest_places f v items) (chosen_places far f p w items) l
later far f p v w [] l same = inl (refl, refl)
later far f p v w (i ∷ items) l same =
    elim (later far (f + longest i) (p + size far f i) (marked v f i) (marked w p i) items l (marked_length v f i ∙ same ∙ sym (marked_length w p i))) [
      | inl kept ↦ elim (marks f p v w i l same) [
        | inl old ↦ inl (kept.0 ∙ old.0, kept.1 ∙ old.1)
        | inr new ↦ inr (ahead_at f p _ _ (kept.0 ∙ new.0) (kept.1 ∙ new.1))
      ]
      | inr a ↦ let short = size_longest far f i in
          let real = a.real in
          let no_longer = a.no_longer in
          inr (record { real = omega arith; no_longer = omega arith })
    ]

-- ---- forms fit

fits_by : (b c : Bool) (f p u t : ℕ) → (nat_le (u - f) 1023 && nat_le (f - u) 1024) ≡ b → (nat_le (u - f) 262143 && nat_le (f - u) 262143) ≡ c
    → Ahead f p u t ⊎ Ahead u t f p → Fits (if b then Short else (if c then Middle else Far)) p t
fits_by true c f p u t short middle (inl a) =
    let real = a.real in let no_longer = a.no_longer in (grind (arith, nat_tests), grind (arith, nat_tests))
fits_by true c f p u t short middle (inr a) =
    let real = a.real in let no_longer = a.no_longer in (grind (arith, nat_tests), grind (arith, nat_tests))
fits_by false true f p u t short middle (inl a) =
    let real = a.real in let no_longer = a.no_longer in (grind (arith, nat_tests), grind (arith, nat_tests))
fits_by false true f p u t short middle (inr a) =
    let real = a.real in let no_longer = a.no_longer in (grind (arith, nat_tests), grind (arith, nat_tests))
fits_by false false f p u t short middle a = tt

pub fits : (f p u t : ℕ) → Ahead f p u t ⊎ Ahead u t f p → Fits (reach_of f u) p t
fits f p u t a = fits_by (nat_le (u - f) 1023 && nat_le (f - u) 1024) (nat_le (u - f) 262143 && nat_le (f - u) 262143) f p u t refl refl a

-- ---- where code ends

unfoldable pub chosen_end : (far : List ℕ) (f p : ℕ) → List Item → ℕ
chosen_end far f p [] = p
chosen_end far f p (i ∷ items) = chosen_end far (f + longest i) (p + size far f i) items

pub end_ahead : (far : List ℕ) (f p : ℕ) (items : List Item) → Ahead f p (f + longest_size items) (chosen_end far f p items)
unfolding chosen_end
end_ahead far f p [] = record { real = omega arith; no_longer = omega arith }
end_ahead far f p (i ∷ items) =
    let rest = end_ahead far (f + longest i) (p + size far f i) items in
    let real = rest.real in
    let no_longer = rest.no_longer in
    let short = size_longest far f i in
    record { real = omega arith; no_longer = omega arith }

-- ---- the state of a walk over items

-- of the items from f and p on, with the places of labels before them
pub record Walk (far places : List ℕ) (f p : ℕ) (v w : List ℕ) (items : List Item) : Type 0 where
  pub longest_are : far ≡ longest_places f v items
  pub chosen_are : places ≡ chosen_places far f p w items
  pub same : length v ≡ length w
  pub behind : (l : ℕ) → Ahead (slice_index v l) (slice_index w l) f p
  pub not_longer : p ≤ f
  pub near : f + longest_size items < 2 ^ 28

pub walk_on : {far places : List ℕ} {f p : ℕ} {v w : List ℕ} (i : Item) {items : List Item} → Walk far places f p v w (i ∷ items)
    → Walk far places (f + longest i) (p + size far f i) (marked v f i) (marked w p i) items
walk_on {far} {places} {f} {p} {v} {w} i {items} walk =
    let short = size_longest far f i in
    let not_longer = walk.not_longer in
    let near = walk.near in
    record {
      longest_are = walk.longest_are;
      chosen_are = walk.chosen_are;
      same = marked_length v f i ∙ walk.same ∙ sym (marked_length w p i);
      behind = λ l. elim (marks f p v w i l walk.same) [
        | inl old ↦
            let b = walk.behind l in
            let real = b.real in
            let no_longer = b.no_longer in
            let e = old.0 in
            let k = old.1 in
            record { real = omega arith; no_longer = omega arith }
        | inr new ↦
            let e = new.0 in
            let k = new.1 in
            record { real = omega arith; no_longer = omega arith }
      ];
      not_longer = omega arith;
      near = omega arith;
    }

-- a label's distance is not longer than in the longest form
pub comparable : {far places : List ℕ} {f p : ℕ} {v w : List ℕ} {items : List Item} → Walk far places f p v w items → (l : ℕ)
    → Ahead f p (slice_index far l) (slice_index places l) ⊎ Ahead (slice_index far l) (slice_index places l) f p
comparable {far} {places} {f} {p} {v} {w} {items} walk l =
    let e : slice_index far l ≡ slice_index (longest_places f v items) l = ap (λ xs. slice_index xs l) walk.longest_are in
    let k : slice_index places l ≡ slice_index (chosen_places far f p w items) l = ap (λ xs. slice_index xs l) walk.chosen_are in
    elim (later far f p v w items l walk.same) [
      | inl kept ↦
          let b = walk.behind l in
          let real = b.real in
          let no_longer = b.no_longer in
          let x = kept.0 in
          let y = kept.1 in
          inr (record { real = omega arith; no_longer = omega arith })
      | inr a ↦
          let real = a.real in
          let no_longer = a.no_longer in
          inl (record { real = omega arith; no_longer = omega arith })
    ]

-- labels stand no later than where the code ends
chosen_within : (far : List ℕ) (f p : ℕ) (w : List ℕ) (items : List Item) (l : ℕ) → slice_index w l ≤ p
    → slice_index (chosen_places far f p w items) l ≤ chosen_end far f p items
unfolding chosen_end
chosen_within far f p w [] l h = h
chosen_within far f p w (i ∷ items) l h =
    chosen_within far (f + longest i) (p + size far f i) (marked w p i) items l (within i)
  where
    set_within : (m : ℕ) (xs : List ℕ) → slice_index xs l ≤ p → slice_index (slice_set xs m p) l ≤ p
    set_within m xs k = elim (set_marks p p xs xs m l refl) [
      | inl old ↦ let e = old.0 in omega arith
      | inr new ↦ let e = new.0 in omega arith
    ]

    within : (j : Item) → slice_index (marked w p j) l ≤ p + size far f j
    within (Plain x) = omega arith
    within (Label m) = let k = set_within m w h in omega arith
    within (Branch op rs1 rs2 m) = omega arith
    within (Goto m) = omega arith
    within (Call n) = omega arith
    within (Relocated r) = omega arith

pub place_within : {far places : List ℕ} {f p : ℕ} {v w : List ℕ} {items : List Item} → Walk far places f p v w items → (l : ℕ)
    → slice_index places l ≤ chosen_end far f p items
place_within {far} {places} {f} {p} {v} {w} {items} walk l =
    let k : slice_index places l ≡ slice_index (chosen_places far f p w items) l = ap (λ xs. slice_index xs l) walk.chosen_are in
    let b = chosen_within far f p w items l (walk.behind l).real in
    omega arith

pub place_small : {far places : List ℕ} {f p : ℕ} {v w : List ℕ} {items : List Item} → Walk far places f p v w items → (l : ℕ)
    → slice_index places l < 2 ^ 28
place_small {far} {places} {f} {p} {v} {w} {items} walk l =
    let within = place_within walk l in
    let end = end_ahead far f p items in
    let no_longer = end.no_longer in
    let near = walk.near in
    let le = walk.not_longer in
    omega arith

-- so each form that is chosen fits
pub item_fits : {far places : List ℕ} {f p : ℕ} {v w : List ℕ} (i : Item) {items : List Item} → Walk far places f p v w (i ∷ items)
    → ItemFits far places f p i
item_fits (Plain i) walk = tt
item_fits (Label l) walk = tt
item_fits {far} {places} {f} {p} (Branch op rs1 rs2 l) walk = (fits f p (slice_index far l) (slice_index places l) (comparable walk l), place_small walk l)
item_fits {far} {places} {f} {p} (Goto l) walk = (fits f p (slice_index far l) (slice_index places l) (comparable walk l), place_small walk l)
item_fits (Call n) walk = tt
item_fits (Relocated r) walk = tt

pub all_fit : (far places : List ℕ) (f p : ℕ) (v w : List ℕ) (items : List Item) → Walk far places f p v w items → AllFit far places f p items
all_fit far places f p v w [] walk = tt
all_fit far places f p v w (i ∷ items) walk =
    (item_fits i walk, all_fit far places (f + longest i) (p + size far f i) (marked v f i) (marked w p i) items (walk_on i walk))
