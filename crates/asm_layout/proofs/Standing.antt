-- The words that items become stand for the items.
use Rattle.std.proofs.Common.{◌≡◌, ℕ, zero, suc, ◌+◌, ◌*◌, ◌^◌, ◌<◌, ◌≤◌, Bool, true, false, List, [], ◌∷◌, ◌++◌, length, refl, sym, ◌∙◌, ap, subst, arith, length-append, nat_eq, nat_lt, slice_get, slice_index, slice_set, if◌then◌else◌, Some, get_or-set_same, get_or-append-add}
use Rattle.std.specs.List.{list_all}
use Rattle.std.proofs.lemmas.Bool.{and_parts}
use Rattle.std.proofs.lemmas.Bool.Decides.{nat_tests}
use Rattle.std.proofs.lemmas.Option.{slice_get_within, slice_get-get_or, get_or_from_slice_get}
use Rattle.rv_isa.specs.Prelude.{relocated, jump_part, reaches, longest, is_label, times_labelled, has_label_below, Ground, Stands, Stand, WordsStand}
use Rattle.rv_isa.specs.declared.ranges.Register.{Register}
use Rattle.rv_isa.specs.declared.instruction.BranchOp.{BranchOp}
use Rattle.rv_isa.specs.declared.instruction.Instr.TheVariants.{Jal}
use Rattle.rv_isa.specs.declared.relocation.Filling.{Filling}
use Rattle.rv_isa.specs.declared.relocation.Filling.TheVariants.{Call as CallOf}
use Rattle.rv_isa.specs.declared.labelled.Item.{Item}
use Rattle.rv_isa.specs.declared.labelled.Item.TheVariants.{Plain, Label, Branch, Goto, Call, Relocated}
use Rattle.asm_layout.specs.declared.reach.Reach.{Reach}
use Rattle.asm_layout.specs.declared.reach.Reach.TheVariants.{Short, Middle, Far}
use Rattle.asm_layout.specs.Forms.{reach_of, jump_size, branch_size, size, marked, chosen_places, jump_words, branch_words, fills, item_words, words_with}
use Rattle.asm_layout.proofs.Distances.{Walk, walk_on, chosen_end, end_ahead, place_within, place_small, item_fits, marked_length}
use Rattle.asm_layout.proofs.Calling.{x1, call_goes}
use Rattle.asm_layout.proofs.Running.{AllAt, Between, instr_at, goto_moves, branch_moves}

-- ---- sizes

jump_words_size : (r : Reach) (here there : ℕ) → length (jump_words r here there) ≡ jump_size r
jump_words_size Short here there = refl
jump_words_size Middle here there = refl
jump_words_size Far here there = refl

branch_words_size : (r : Reach) (op : BranchOp) (rs1 rs2 : Register) (here there : ℕ) → length (branch_words r op rs1 rs2 here there) ≡ branch_size r
branch_words_size Short op rs1 rs2 here there = refl
branch_words_size Middle op rs1 rs2 here there = refl
branch_words_size Far op rs1 rs2 here there = refl

pub words_size : (far places : List ℕ) (fill : ℕ → Filling → ℕ) (f p : ℕ) (i : Item) → length (item_words far places fill f p i) ≡ size far f i
words_size far places fill f p (Plain i) = refl
words_size far places fill f p (Label l) = refl
words_size far places fill f p (Branch op rs1 rs2 l) = branch_words_size (reach_of f (slice_index far l)) op rs1 rs2 p (slice_index places l)
words_size far places fill f p (Goto l) = jump_words_size (reach_of f (slice_index far l)) p (slice_index places l)
words_size far places fill f p (Call n) = refl
words_size far places fill f p (Relocated r) = refl

pub more_length : (far places : List ℕ) (fill : ℕ → Filling → ℕ) (f : ℕ) (pre : List ℕ) (i : Item)
    → length (pre ++ item_words far places fill f (length pre) i) ≡ length pre + size far f i
more_length far places fill f pre i =
    let e = length-append pre (item_words far places fill f (length pre) i) in
    let k = words_size far places fill f (length pre) i in
    omega arith

pub words_end : (far places : List ℕ) (fill : ℕ → Filling → ℕ) (f : ℕ) (pre : List ℕ) (items : List Item)
    → length (words_with far places fill f pre items) ≡ chosen_end far f (length pre) items
unfolding chosen_end
words_end far places fill f pre [] = refl
words_end far places fill f pre (i ∷ items) =
    words_end far places fill (f + longest i) (pre ++ item_words far places fill f (length pre) i) items
    ∙ ap (λ p. chosen_end far (f + longest i) p items) (more_length far places fill f pre i)

-- ---- words among the whole

got_left : (xs ys : List ℕ) (k x : ℕ) → slice_get xs k ≡ Some x → slice_get (xs ++ ys) k ≡ Some x
got_left [] ys k x h = absurd (none h)
  where
    none : slice_get [] k ≡ Some x → ⊥
    none e = cc
got_left (y ∷ xs) ys zero x h = h
got_left (y ∷ xs) ys (suc k) x h = got_left xs ys k x h

got_right : (xs ys : List ℕ) (j x : ℕ) → slice_get ys j ≡ Some x → slice_get (xs ++ ys) (length xs + j) ≡ Some x
got_right xs ys j x h =
    let within = slice_get_within ys j x h in
    let sum = length-append xs ys in
    slice_get-get_or (xs ++ ys) (length xs + j) 0 (omega arith) ∙ ap Some (get_or-append-add xs ys j 0 ∙ get_or_from_slice_get ys j x 0 h)

-- what stands in words stands in the whole
pub kept : (far places : List ℕ) (fill : ℕ → Filling → ℕ) (f : ℕ) (pre : List ℕ) (items : List Item) (k x : ℕ) → slice_get pre k ≡ Some x
    → slice_get (words_with far places fill f pre items) k ≡ Some x
kept far places fill f pre [] k x h = h
kept far places fill f pre (i ∷ items) k x h =
    kept far places fill (f + longest i) (pre ++ item_words far places fill f (length pre) i) items k x
    (got_left pre (item_words far places fill f (length pre) i) k x h)

all_at : (ws : List ℕ) (k : ℕ) (xs : List ℕ) → ((j x : ℕ) → slice_get xs j ≡ Some x → slice_get ws (k + j) ≡ Some x) → AllAt ws k xs
all_at ws k [] h = tt
all_at ws k (x ∷ xs) h =
    let here : k + 0 ≡ k = omega arith in (
      subst (λ n. slice_get ws n ≡ Some x) here (h 0 x refl),
      all_at ws (k + 1) xs (λ j y e. let next : k + suc j ≡ k + 1 + j = omega arith in subst (λ n. slice_get ws n ≡ Some y) next (h (suc j) y e)),
    )

-- ---- labels

true_false : {b : Bool} → b ≡ true → b ≡ false → ⊥
true_false h k = cc

counted : (b : Bool) (n : ℕ) → (if b then 1 else 0) + n ≡ 0 → (b ≡ false) × (n ≡ 0)
counted true n h = absurd (omega arith)
counted false n h = (refl, omega arith)

-- a label that doesn't stand in items keeps its place
unmarked : (far : List ℕ) (f p : ℕ) (w : List ℕ) (items : List Item) (l : ℕ) → times_labelled l items ≡ 0
    → slice_index (chosen_places far f p w items) l ≡ slice_index w l
unmarked far f p w [] l h = refl
unmarked far f p w (i ∷ items) l h =
    let both = counted (is_label l i) (times_labelled l items) h in
    unmarked far (f + longest i) (p + size far f i) (marked w p i) items l both.1 ∙ stays i both.0
  where
    set_elsewhere : (ws : List ℕ) (m n a : ℕ) → (n ≡ m → ⊥) → slice_index (slice_set ws m a) n ≡ slice_index ws n
    set_elsewhere [] m n a d = refl
    set_elsewhere (x ∷ ws) zero zero a d = absurd (d refl)
    set_elsewhere (x ∷ ws) zero (suc n) a d = refl
    set_elsewhere (x ∷ ws) (suc m) zero a d = refl
    set_elsewhere (x ∷ ws) (suc m) (suc n) a d = set_elsewhere ws m n a (λ e. d (ap suc e))

    stays : (j : Item) → is_label l j ≡ false → slice_index (marked w p j) l ≡ slice_index w l
    stays (Plain x) e = refl
    stays (Label m) e = set_elsewhere w m l p (λ same. true_false {b = nat_eq m l} (grind (arith, nat_tests)) e)
    stays (Branch op rs1 rs2 m) e = refl
    stays (Goto m) e = refl
    stays (Call n) e = refl
    stays (Relocated r) e = refl

-- ---- one item

-- calls reach what they go to
abbrev pub ItemReaches : (at : ℕ) (global : ℕ → ℕ) (p : ℕ) → Item → Type 0
ItemReaches at global p (Plain i) = Unit {0}
ItemReaches at global p (Label l) = Unit {0}
ItemReaches at global p (Branch op rs1 rs2 l) = Unit {0}
ItemReaches at global p (Goto l) = Unit {0}
ItemReaches at global p (Call n) = reaches (CallOf n) (at + 4 * p) (global n) ≡ true
ItemReaches at global p (Relocated r) = Unit {0}

abbrev pub ItemsReach : (at : ℕ) (global : ℕ → ℕ) (far : List ℕ) (f p : ℕ) → List Item → Type 0
ItemsReach at global far f p [] = Unit {0}
ItemsReach at global far f p (i ∷ items) = ItemReaches at global p i × ItemsReach at global far (f + longest i) (p + size far f i) items

-- words that stand from an address on, of which those of items from f on come after `pre`; and where labels stand
pub record Spot (g : Ground) (at : ℕ) (global : ℕ → ℕ) (far places ws : List ℕ) (f : ℕ) (pre v w : List ℕ) (items : List Item) : Type 0 where
  pub walk : Walk far places f (length pre) v w items
  pub whole : ws ≡ words_with far places (fills at global) f pre items
  pub stand : WordsStand g at ws
  pub reach : ItemsReach at global far f (length pre) items

-- what is asked of labels
pub record Proper (labels : ℕ) (items : List Item) : Type 0 where
  pub below : list_all (has_label_below labels) items ≡ true
  pub once : (l : ℕ) → times_labelled l items ≤ 1

pub proper_on : {labels : ℕ} (i : Item) {items : List Item} → Proper labels (i ∷ items) → Proper labels items
proper_on {labels} i {items} p = record {
  below = (and_parts (has_label_below labels i) (list_all (has_label_below labels) items) p.below).1;
  once = λ l. let o = p.once l in omega arith;
}

spot_end : {g : Ground} {at : ℕ} {global : ℕ → ℕ} {far places ws : List ℕ} {f : ℕ} {pre v w : List ℕ} {items : List Item}
    → Spot g at global far places ws f pre v w items → length ws ≡ chosen_end far f (length pre) items
spot_end {g} {at} {global} {far} {places} {ws} {f} {pre} {v} {w} {items} s = ap length s.whole ∙ words_end far places (fills at global) f pre items

spot_on : {g : Ground} {at : ℕ} {global : ℕ → ℕ} {far places ws : List ℕ} {f : ℕ} {pre v w : List ℕ} (i : Item) {items : List Item}
    → Spot g at global far places ws f pre v w (i ∷ items)
    → Spot g at global far places ws (f + longest i) (pre ++ item_words far places (fills at global) f (length pre) i) (marked v f i) (marked w (length pre) i) items
spot_on {g} {at} {global} {far} {places} {ws} {f} {pre} {v} {w} i {items} s = record {
  walk =
      subst (λ p. Walk far places (f + longest i) p (marked v f i) (marked w (length pre) i) items) (sym (more_length far places (fills at global) f pre i))
      (walk_on i s.walk);
  whole = s.whole;
  stand = s.stand;
  reach = subst (λ p. ItemsReach at global far (f + longest i) p items) (sym (more_length far places (fills at global) f pre i)) s.reach.1;
}

-- an item's words stand at its place
words_here : {g : Ground} {at : ℕ} {global : ℕ → ℕ} {far places ws : List ℕ} {f : ℕ} {pre v w : List ℕ} (i : Item) {items : List Item}
    → Spot g at global far places ws f pre v w (i ∷ items) → AllAt ws (length pre) (item_words far places (fills at global) f (length pre) i)
words_here {g} {at} {global} {far} {places} {ws} {f} {pre} {v} {w} i {items} s =
    let mine : List ℕ = item_words far places (fills at global) f (length pre) i in
    all_at ws (length pre) mine
    (λ j x h. subst (λ xs. slice_get xs (length pre + j) ≡ Some x) (sym s.whole)
    (kept far places (fills at global) (f + longest i) (pre ++ mine) items (length pre + j) x (got_right pre mine j x h)))

between : {g : Ground} {at : ℕ} {global : ℕ → ℕ} {far places ws : List ℕ} {f : ℕ} {pre v w : List ℕ} {items : List Item}
    → Spot g at global far places ws f pre v w items → (l : ℕ) → Between at (length pre) (slice_index places l)
between {g} {at} {global} {far} {places} {ws} {f} {pre} {v} {w} {items} s l =
    let stand_inside = s.stand.inside in
    let end = spot_end s in
    let ahead = end_ahead far f (length pre) items in
    let real = ahead.real in
    let le = s.walk.not_longer in
    let near = s.walk.near in
    let within = place_within s.walk l in
    record {
      aligned = s.stand.aligned;
      here_small = omega arith;
      there_small = place_small s.walk l;
      here_inside = omega arith;
      there_inside = omega arith;
    }

-- the item ends within the words
ends_inside : {g : Ground} {at : ℕ} {global : ℕ → ℕ} {far places ws : List ℕ} {f : ℕ} {pre v w : List ℕ} (i : Item) {items : List Item}
    → Spot g at global far places ws f pre v w (i ∷ items) → (at + 4 * (length pre + size far f i) < 2 ^ 64) × (length pre < 2 ^ 28)
ends_inside {g} {at} {global} {far} {places} {ws} {f} {pre} {v} {w} i {items} s =
    let stand_inside = s.stand.inside in
    let end = spot_end (spot_on i s) in
    let more = more_length far places (fills at global) f pre i in
    let ahead = end_ahead far (f + longest i) (length (pre ++ item_words far places (fills at global) f (length pre) i)) items in
    let real = ahead.real in
    let le = s.walk.not_longer in
    let near = s.walk.near in
    (omega arith, omega arith)

item_stands : (g : Ground) (at : ℕ) (global : ℕ → ℕ) (far places ws : List ℕ) (f : ℕ) (pre v w : List ℕ) (labels : ℕ) (i : Item) (items : List Item)
    → Spot g at global far places ws f pre v w (i ∷ items) → Proper labels (i ∷ items) → length w ≡ labels
    → Stands g (λ l. at + 4 * slice_index places l) global i (at + 4 * length pre) (at + 4 * (length pre + size far f i))
unfolding Stands
item_stands g at global far places ws f pre v w labels (Plain i) items s proper len =
    let words = words_here (Plain i) s in
    (instr_at g at ws (length pre) i s.stand words.0, omega arith)
item_stands g at global far places ws f pre v w labels (Label l) items s proper len =
    let once = proper.once l in
    let below = (and_parts (nat_lt l labels) (list_all (has_label_below labels) items) proper.below).0 in
    let within : l < length w = grind (arith, nat_tests) in
    let no_more : times_labelled l items ≡ 0 = none_left (is_label l (Label l)) refl once in
    let is : slice_index places l ≡ length pre =
    ap (λ xs. slice_index xs l) s.walk.chosen_are
    ∙ unmarked far (f + 0) (length pre + 0) (slice_set w l (length pre)) items l no_more
    ∙ get_or-set_same w l (length pre) 0 within in
    (ap (λ n. at + 4 * n) is, omega arith)
  where
    none_left : (b : Bool) → nat_eq l l ≡ b → (if b then 1 else 0) + times_labelled l items ≤ 1 → times_labelled l items ≡ 0
    none_left true e h = omega arith
    none_left false e h = absurd (grind (arith, nat_tests))
item_stands g at global far places ws f pre v w labels (Branch op rs1 rs2 l) items s proper len =
    let inside = ends_inside (Branch op rs1 rs2 l) s in
    branch_moves g at ws (reach_of f (slice_index far l)) op rs1 rs2 (length pre) (slice_index places l) (item_fits (Branch op rs1 rs2 l) s.walk).0
    (between s l) inside.1 inside.0 s.stand (words_here (Branch op rs1 rs2 l) s)
item_stands g at global far places ws f pre v w labels (Goto l) items s proper len =
    goto_moves g at ws (reach_of f (slice_index far l)) (length pre) (slice_index places l) (item_fits (Goto l) s.walk).0 (between s l) s.stand
    (words_here (Goto l) s)
item_stands g at global far places ws f pre v w labels (Call n) items s proper len =
    let words = words_here (Call n) s in
    let aligned = s.stand.aligned in (
      omega (arith, aligned),
      λ even small. call_goes g (at + 4 * length pre) (global n) n s.reach.0 (omega (arith, aligned)) even small
          (instr_at g at ws (length pre) (Jal x1 (jump_part (at + 4 * length pre) (global n))) s.stand words.0) (at + 4 * (length pre + 1)) (omega arith),
    )
item_stands g at global far places ws f pre v w labels (Relocated r) items s proper len =
    let words = words_here (Relocated r) s in
    (instr_at g at ws (length pre) (relocated r (global r.global)) s.stand words.0, omega arith)

-- ---- all of them

pub items_stand : (g : Ground) (at : ℕ) (global : ℕ → ℕ) (far places ws : List ℕ) (f : ℕ) (pre v w : List ℕ) (labels : ℕ) (items : List Item)
    → Spot g at global far places ws f pre v w items → Proper labels items → length w ≡ labels
    → Stand g (λ l. at + 4 * slice_index places l) global items (at + 4 * length pre)
unfolding Stand
items_stand g at global far places ws f pre v w labels [] s proper len = tt
items_stand g at global far places ws f pre v w labels (i ∷ items) s proper len =
    let more : List ℕ = pre ++ item_words far places (fills at global) f (length pre) i in
    let to : length pre + size far f i ≡ length more = sym (more_length far places (fills at global) f pre i) in (
      at + 4 * length more,
      subst (λ p. Stands g (λ l. at + 4 * slice_index places l) global i (at + 4 * length pre) (at + 4 * p)) to
          (item_stands g at global far places ws f pre v w labels i items s proper len),
      items_stand g at global far places ws (f + longest i) more (marked v f i) (marked w (length pre) i) labels items (spot_on i s) (proper_on i proper)
          (marked_length w (length pre) i ∙ len),
    )
