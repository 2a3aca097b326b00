-- Words with their holes filled in are the words for those addresses.
use Rattle.std.proofs.Common.{◌≡◌, ℕ, ◌+◌, ◌*◌, ◌≤◌, true, List, [], ◌∷◌, ◌++◌, length, refl, sym, ◌∙◌, ap, subst, arith, append-nil, nat_le, slice_set}
use Rattle.std.proofs.lemmas.Bool.{and_parts, and_from, leb-true, le-leb}
use Rattle.std.proofs.lemmas.List.{length-set, set-append_left}
use Rattle.std.proofs.Math.Seq.{set-append_seam}
use Rattle.rv_isa.specs.Prelude.{word, named, filled_in, reaches, longest, fill, filled, all_reach, lie_between}
use Rattle.rv_isa.specs.declared.relocation.Filling.{Filling}
use Rattle.rv_isa.specs.declared.relocation.Filling.TheVariants.{Part, Call as CallOf}
use Rattle.rv_isa.specs.declared.code.Hole.{Hole}
use Rattle.rv_isa.specs.declared.labelled.Item.{Item}
use Rattle.rv_isa.specs.declared.labelled.Item.TheVariants.{Plain, Label, Branch, Goto, Call, Relocated}
use Rattle.asm_layout.specs.Forms.{size, fills, item_words, words_with, item_holes, holes_with, no_address}
use Rattle.asm_layout.proofs.Standing.{more_length, ItemReaches, ItemsReach}

-- ---- holes in order

pub in_order : (from end : ℕ) (hs : List Hole) → lie_between from end hs ≡ true → from ≤ end
in_order from end [] h = leb-true from end h
in_order from end (x ∷ hs) h =
    let both = and_parts (nat_le from x.word) (lie_between (x.word + 1) end hs) h in
    let first = leb-true from x.word both.0 in
    let rest = in_order (x.word + 1) end hs both.1 in
    omega arith

pub lie_further : (from end further : ℕ) (hs : List Hole) → end ≤ further → lie_between from end hs ≡ true → lie_between from further hs ≡ true
lie_further from end further [] le h = let first = leb-true from end h in le-leb from further (omega arith)
lie_further from end further (x ∷ hs) le h =
    let both = and_parts (nat_le from x.word) (lie_between (x.word + 1) end hs) h in
    and_from (nat_le from x.word) (lie_between (x.word + 1) further hs) both.0 (lie_further (x.word + 1) end further hs le both.1)

pub lie_with : (from end : ℕ) (hs : List Hole) (x : Hole) → lie_between from end hs ≡ true → end ≤ x.word → lie_between from (x.word + 1) (hs ++ x ∷ []) ≡ true
lie_with from end [] x h le =
    let first = leb-true from end h in
    and_from (nat_le from x.word) (nat_le (x.word + 1) (x.word + 1)) (le-leb from x.word (omega arith)) (le-leb (x.word + 1) (x.word + 1) (omega arith))
lie_with from end (y ∷ hs) x h le =
    let both = and_parts (nat_le from y.word) (lie_between (y.word + 1) end hs) h in
    and_from (nat_le from y.word) (lie_between (y.word + 1) (x.word + 1) (hs ++ x ∷ [])) both.0 (lie_with (y.word + 1) end hs x both.1 le)

-- ---- filling in

fill_length : (at : ℕ) (global : ℕ → ℕ) (ws : List ℕ) (h : Hole) → length (fill at global ws h) ≡ length ws
fill_length at global ws h = length-set ws h.word (word (filled_in h.filling (at + 4 * h.word) (global (named h.filling))))

pub filled_length : (at : ℕ) (global : ℕ → ℕ) (ws : List ℕ) (hs : List Hole) → length (filled at global ws hs) ≡ length ws
filled_length at global ws [] = refl
filled_length at global ws (h ∷ hs) = filled_length at global (fill at global ws h) hs ∙ fill_length at global ws h

fill_left : (at : ℕ) (global : ℕ → ℕ) (ws xs : List ℕ) (h : Hole) → h.word + 1 ≤ length ws → fill at global (ws ++ xs) h ≡ fill at global ws h ++ xs
fill_left at global ws xs h le = set-append_left ws xs h.word (word (filled_in h.filling (at + 4 * h.word) (global (named h.filling)))) (omega arith)

-- words after those of the holes stay
filled_left : (at : ℕ) (global : ℕ → ℕ) (from : ℕ) (ws xs : List ℕ) (hs : List Hole) → lie_between from (length ws) hs ≡ true
    → filled at global (ws ++ xs) hs ≡ filled at global ws hs ++ xs
filled_left at global from ws xs [] h = refl
filled_left at global from ws xs (x ∷ hs) h =
    let both = and_parts (nat_le from x.word) (lie_between (x.word + 1) (length ws) hs) h in
    let le = in_order (x.word + 1) (length ws) hs both.1 in
    let same = fill_length at global ws x in
    ap (λ l. filled at global l hs) (fill_left at global ws xs x le)
    ∙ filled_left at global (x.word + 1) (fill at global ws x) xs hs (subst (λ n. lie_between (x.word + 1) n hs ≡ true) (sym same) both.1)

filled_then : (at : ℕ) (global : ℕ → ℕ) (ws : List ℕ) (hs : List Hole) (x : Hole) → filled at global ws (hs ++ x ∷ []) ≡ fill at global (filled at global ws hs) x
filled_then at global ws [] x = refl
filled_then at global ws (h ∷ hs) x = filled_then at global (fill at global ws h) hs x

-- the word of a hole, at the end
fill_seam : (at : ℕ) (global : ℕ → ℕ) (ws : List ℕ) (w : ℕ) (r : Filling) (p : ℕ) → p ≡ length ws
    → fill at global (ws ++ w ∷ []) (record { word = p; filling = r }) ≡ ws ++ fills at global p r ∷ []
fill_seam at global ws w r p is =
    let there : ℕ = fills at global p r in
    ap (λ k. slice_set (ws ++ w ∷ []) k there) is ∙ set-append_seam ws w [] there

-- ---- one item more

more_holes : (end : ℕ) (hs : List Hole) (far : List ℕ) (f : ℕ) (i : Item) → lie_between 0 end hs ≡ true
    → lie_between 0 (end + size far f i) (hs ++ item_holes end i) ≡ true
more_holes end hs far f (Plain i) h = subst (λ l. lie_between 0 (end + 1) l ≡ true) (sym (append-nil hs)) (lie_further 0 end (end + 1) hs (omega arith) h)
more_holes end hs far f (Label l) h = subst (λ l. lie_between 0 (end + 0) l ≡ true) (sym (append-nil hs)) (lie_further 0 end (end + 0) hs (omega arith) h)
more_holes end hs far f (Branch op rs1 rs2 l) h =
    let to : ℕ = end + size far f (Branch op rs1 rs2 l) in
    subst (λ l. lie_between 0 to l ≡ true) (sym (append-nil hs)) (lie_further 0 end to hs (omega arith) h)
more_holes end hs far f (Goto l) h =
    let to : ℕ = end + size far f (Goto l) in
    subst (λ l. lie_between 0 to l ≡ true) (sym (append-nil hs)) (lie_further 0 end to hs (omega arith) h)
more_holes end hs far f (Call n) h = lie_with 0 end hs (record { word = end; filling = CallOf n }) h (omega arith)
more_holes end hs far f (Relocated r) h = lie_with 0 end hs (record { word = end; filling = Part r }) h (omega arith)

plain_filled : (at : ℕ) (global : ℕ → ℕ) (ws xs : List ℕ) (hs : List Hole) → lie_between 0 (length ws) hs ≡ true
    → filled at global (ws ++ xs) (hs ++ []) ≡ filled at global ws hs ++ xs
plain_filled at global ws xs hs h = ap (filled at global (ws ++ xs)) (append-nil hs) ∙ filled_left at global 0 ws xs hs h

item_filled : (far places : List ℕ) (at : ℕ) (global : ℕ → ℕ) (f : ℕ) (ws : List ℕ) (hs : List Hole) (i : Item) → lie_between 0 (length ws) hs ≡ true
    → filled at global (ws ++ item_words far places no_address f (length ws) i) (hs ++ item_holes (length ws) i)
    ≡ filled at global ws hs ++ item_words far places (fills at global) f (length (filled at global ws hs)) i
item_filled far places at global f ws hs i h = by_item i ∙ ap (λ n. filled at global ws hs ++ item_words far places (fills at global) f n i) (sym (filled_length at global ws hs))
  where
    waiting : (x : Filling) → filled at global (ws ++ no_address (length ws) x ∷ []) (hs ++ record { word = length ws; filling = x } ∷ [])
        ≡ filled at global ws hs ++ fills at global (length ws) x ∷ []
    waiting x =
        let hole : Hole = record { word = length ws; filling = x } in
        let empty : ℕ = no_address (length ws) x in
        filled_then at global (ws ++ empty ∷ []) hs hole
        ∙ ap (λ l. fill at global l hole) (filled_left at global 0 ws (empty ∷ []) hs h)
        ∙ fill_seam at global (filled at global ws hs) empty x (length ws) (sym (filled_length at global ws hs))

    by_item : (j : Item) → filled at global (ws ++ item_words far places no_address f (length ws) j) (hs ++ item_holes (length ws) j)
        ≡ filled at global ws hs ++ item_words far places (fills at global) f (length ws) j
    by_item (Plain x) = plain_filled at global ws (item_words far places (fills at global) f (length ws) (Plain x)) hs h
    by_item (Label l) = plain_filled at global ws [] hs h
    by_item (Branch op rs1 rs2 l) = plain_filled at global ws (item_words far places (fills at global) f (length ws) (Branch op rs1 rs2 l)) hs h
    by_item (Goto l) = plain_filled at global ws (item_words far places (fills at global) f (length ws) (Goto l)) hs h
    by_item (Call n) = waiting (CallOf n)
    by_item (Relocated r) = waiting (Part r)

-- ---- all of them

pub all_filled : (far places : List ℕ) (at : ℕ) (global : ℕ → ℕ) (f : ℕ) (ws : List ℕ) (hs : List Hole) (items : List Item) → lie_between 0 (length ws) hs ≡ true
    → filled at global (words_with far places no_address f ws items) (holes_with far f (length ws) hs items)
    ≡ words_with far places (fills at global) f (filled at global ws hs) items
all_filled far places at global f ws hs [] h = refl
all_filled far places at global f ws hs (i ∷ items) h =
    let more : List ℕ = ws ++ item_words far places no_address f (length ws) i in
    let size_is : length ws + size far f i ≡ length more = sym (more_length far places no_address f ws i) in
    let holes : List Hole = hs ++ item_holes (length ws) i in
    let inside : lie_between 0 (length more) holes ≡ true =
    subst (λ n. lie_between 0 n holes ≡ true) size_is (more_holes (length ws) hs far f i h) in
    ap (λ n. filled at global (words_with far places no_address (f + longest i) more items) (holes_with far (f + longest i) n holes items)) size_is
    ∙ all_filled far places at global (f + longest i) more holes items inside
    ∙ ap (λ l. words_with far places (fills at global) (f + longest i) l items) (item_filled far places at global f ws hs i h)

pub all_lie : (far places : List ℕ) (f : ℕ) (ws : List ℕ) (hs : List Hole) (items : List Item) → lie_between 0 (length ws) hs ≡ true
    → lie_between 0 (length (words_with far places no_address f ws items)) (holes_with far f (length ws) hs items) ≡ true
all_lie far places f ws hs [] h = h
all_lie far places f ws hs (i ∷ items) h =
    let more : List ℕ = ws ++ item_words far places no_address f (length ws) i in
    let size_is : length ws + size far f i ≡ length more = sym (more_length far places no_address f ws i) in
    let holes : List Hole = hs ++ item_holes (length ws) i in
    let end : ℕ = length (words_with far places no_address (f + longest i) more items) in
    let inside : lie_between 0 (length more) holes ≡ true =
    subst (λ n. lie_between 0 n holes ≡ true) size_is (more_holes (length ws) hs far f i h) in
    subst (λ n. lie_between 0 end (holes_with far (f + longest i) n holes items) ≡ true) (sym size_is)
    (all_lie far places (f + longest i) more holes items inside)

-- ---- within reach

reach_both : (at : ℕ) (global : ℕ → ℕ) (xs ys : List Hole) → all_reach at global (xs ++ ys) ≡ true → (all_reach at global xs ≡ true) × (all_reach at global ys ≡ true)
reach_both at global [] ys h = (refl, h)
reach_both at global (x ∷ xs) ys h =
    let first = and_parts (reaches x.filling (at + 4 * x.word) (global (named x.filling))) (all_reach at global (xs ++ ys)) h in
    let rest = reach_both at global xs ys first.1 in
    (and_from (reaches x.filling (at + 4 * x.word) (global (named x.filling))) (all_reach at global xs) first.0 rest.0, rest.1)

-- the holes before those of items
reach_before : (at : ℕ) (global : ℕ → ℕ) (far : List ℕ) (f p : ℕ) (hs : List Hole) (items : List Item) → all_reach at global (holes_with far f p hs items) ≡ true
    → all_reach at global hs ≡ true
reach_before at global far f p hs [] h = h
reach_before at global far f p hs (i ∷ items) h =
    (reach_both at global hs (item_holes p i) (reach_before at global far (f + longest i) (p + size far f i) (hs ++ item_holes p i) items h)).0

item_reaches : (at : ℕ) (global : ℕ → ℕ) (p : ℕ) (i : Item) → all_reach at global (item_holes p i) ≡ true → ItemReaches at global p i
item_reaches at global p (Plain x) h = tt
item_reaches at global p (Label l) h = tt
item_reaches at global p (Branch op rs1 rs2 l) h = tt
item_reaches at global p (Goto l) h = tt
item_reaches at global p (Call n) h = (and_parts (reaches (CallOf n) (at + 4 * p) (global n)) true h).0
item_reaches at global p (Relocated r) h = tt

pub items_reach : (at : ℕ) (global : ℕ → ℕ) (far : List ℕ) (f p : ℕ) (hs : List Hole) (items : List Item) → all_reach at global (holes_with far f p hs items) ≡ true
    → ItemsReach at global far f p items
items_reach at global far f p hs [] h = tt
items_reach at global far f p hs (i ∷ items) h =
    let mine = reach_both at global hs (item_holes p i) (reach_before at global far (f + longest i) (p + size far f i) (hs ++ item_holes p i) items h) in
    (item_reaches at global p i mine.1, items_reach at global far (f + longest i) (p + size far f i) (hs ++ item_holes p i) items h)
