-- The words of a function, in the forms that are chosen, are laid out for its labelled code.
use Rattle.std.proofs.Common.{◌≡◌, ℕ, zero, suc, ◌+◌, ◌*◌, ◌<◌, ◌≤◌, List, [], ◌∷◌, length, refl, subst, arith, replicate, Bool, true, false, slice_index, nat_lt}
use Rattle.std.proofs.lemmas.List.{length-replicate}
use Rattle.std.proofs.lemmas.Bool.Decides.{nat_tests}
use Rattle.rv_isa.specs.Prelude.{LabelledItems, IsLabelled, longest, longest_size, Stand, LaysOut, filled, filled_in, IsCode}
use Rattle.rv_isa.specs.declared.code.Hole.{Hole}
use Rattle.rv_isa.specs.declared.labelled.Item.{Item}
use Rattle.rv_isa.specs.declared.labelled.Item.TheVariants.{Plain, Label, Branch, Goto, Call, Relocated}
use Rattle.asm_layout.specs.declared.call.CallForm.{CallForm}
use Rattle.asm_layout.specs.declared.call.CallForm.TheVariants.{Near, Far}
use Rattle.asm_layout.specs.declared.reach.Reach.{Reach}
use Rattle.asm_layout.specs.declared.reach.Reach.TheVariants.{Short, Middle, Far as FarAway}
use Rattle.asm_layout.specs.Forms.{reach_of, jump_size, branch_size, size, fills, words_with, formed, HaveForm, no_address, AllFit, far_of, places_of, words_of, holes_of}
use Rattle.asm_layout.proofs.Distances.{Ahead, Walk, chosen_end, end_ahead, all_fit}
use Rattle.asm_layout.proofs.Standing.{items_stand, words_end}
use Rattle.asm_layout.proofs.FarCalls.{far_is_labelled, far_size, far_stands, far_parts}
use Rattle.asm_layout.proofs.Filling.{all_filled, all_lie, items_reach}
use Rattle.asm_layout.proofs.WordRanges.{small_at, all_small, word_small}

zeros : (n l : ℕ) → slice_index (replicate n 0) l ≡ 0
zeros zero l = refl
zeros (suc n) zero = refl
zeros (suc n) (suc l) = zeros n l

none_behind : (a b : ℕ) → a ≡ 0 → b ≡ 0 → Ahead a b 0 0
none_behind a b e k = record { real = omega arith; no_longer = omega arith }

pub begin : (c : LabelledItems) → IsLabelled c → Walk (far_of c) (places_of c) 0 0 (replicate c.labels 0) (replicate c.labels 0) c.items
begin c is =
    let near = is.near in
    record {
      longest_are = refl;
      chosen_are = refl;
      same = refl;
      behind = λ l. none_behind (slice_index (replicate c.labels 0) l) (slice_index (replicate c.labels 0) l) (zeros c.labels l) (zeros c.labels l);
      not_longer = omega arith;
      near = omega arith;
    }

-- ---- the whole

lays_out : (c : LabelledItems) → IsLabelled c → LaysOut c.items (words_of c) (holes_of c)
lays_out c is g at global reach stand =
    let walk = begin c is in
    let same : filled at global (words_of c) (holes_of c) ≡ words_with (far_of c) (places_of c) (fills at global) 0 [] c.items =
    all_filled (far_of c) (places_of c) at global 0 [] [] c.items refl in
    let ws : List ℕ = filled at global (words_of c) (holes_of c) in
    let here : at + 4 * 0 ≡ at = omega arith in (
      (λ l. at + 4 * slice_index (places_of c) l),
      subst (λ a. Stand g (λ l. at + 4 * slice_index (places_of c) l) global c.items a) here
          (items_stand g at global (far_of c) (places_of c) ws 0 [] (replicate c.labels 0) (replicate c.labels 0) c.labels c.items
          (record { walk = walk; whole = same; stand = stand; reach = items_reach at global (far_of c) 0 0 [] c.items reach })
          (record { below = is.labels; once = is.once })
          (length-replicate c.labels 0)),
    )

-- calls in the form that is asked for
formed_lays_out : (form : CallForm) (c : LabelledItems) → IsLabelled c → LaysOut c.items (words_of (formed form c)) (holes_of (formed form c))
formed_lays_out Near c is g at global reach stand = lays_out c is g at global reach stand
formed_lays_out Far c is g at global reach stand =
    let laid = lays_out (formed Far c) (far_is_labelled c is) g at global reach stand in
    (laid.0, far_stands g laid.0 global c.items at laid.1)

pub made_lays_out : (form : CallForm) (c d : LabelledItems) → IsLabelled c → d ≡ formed form c → (words : List ℕ) (holes : List Hole) → words ≡ words_of d
    → holes ≡ holes_of d → LaysOut c.items words holes
made_lays_out form c d is e words holes same these = rw (same, these, e) (formed_lays_out form c is)

-- ---- sizes

jump_some : (r : Reach) → 0 < jump_size r
jump_some Short = omega arith
jump_some Middle = omega arith
jump_some FarAway = omega arith

branch_some : (r : Reach) → 0 < branch_size r
branch_some Short = omega arith
branch_some Middle = omega arith
branch_some FarAway = omega arith

size_some : (far : List ℕ) (f : ℕ) (i : Item) → 0 < longest i → 0 < size far f i
size_some far f (Plain x) h = omega arith
size_some far f (Label l) h = absurd (omega arith)
size_some far f (Branch op rs1 rs2 l) h = branch_some (reach_of f (slice_index far l))
size_some far f (Goto l) h = jump_some (reach_of f (slice_index far l))
size_some far f (Call n) h = omega arith
size_some far f (Relocated r) h = omega arith

end_after : (far : List ℕ) (f p : ℕ) (items : List Item) → 0 < longest_size items → p < chosen_end far f p items
unfolding chosen_end
end_after far f p [] h = absurd (omega arith)
end_after far f p (i ∷ items) h =
    by_test (nat_lt 0 (longest i)) refl (λ some. end_after far (f + longest i) (p + size far f i) items some)
  where
    by_test : (b : Bool) → nat_lt 0 (longest i) ≡ b
        → (0 < longest_size items → p + size far f i < chosen_end far (f + longest i) (p + size far f i) items)
        → p < chosen_end far (f + longest i) (p + size far f i) items
    by_test true e next =
        let some = size_some far f i (grind (arith, nat_tests)) in
        let rest = end_ahead far (f + longest i) (p + size far f i) items in
        let real = rest.real in
        omega arith
    by_test false e next =
        let none : longest i ≡ 0 = grind (arith, nat_tests) in
        let rest = next (omega arith) in
        omega arith

not_longer : (c : LabelledItems) → length (words_of c) ≤ longest_size c.items
not_longer c =
    let end = words_end (far_of c) (places_of c) no_address 0 [] c.items in
    let ahead = end_ahead (far_of c) 0 0 c.items in
    let no_longer = ahead.no_longer in
    omega arith

formed_not_longer : (form : CallForm) (c : LabelledItems) → length (words_of (formed form c)) ≤ longest_size c.items
formed_not_longer Near c = not_longer c
formed_not_longer Far c = let most = not_longer (formed Far c) in let same = far_size c.items in omega (arith, most, same)

formed_have_form : (form : CallForm) (c : LabelledItems) → HaveForm form (holes_of (formed form c))
formed_have_form Near c = tt
formed_have_form Far c = far_parts (far_of (formed Far c)) 0 0 [] c.items refl

pub made_have_form : (form : CallForm) (c d : LabelledItems) → d ≡ formed form c → (holes : List Hole) → holes ≡ holes_of d → HaveForm form holes
made_have_form form c d e holes these = rw (these, e) (formed_have_form form c)

pub made_not_longer : (form : CallForm) (c d : LabelledItems) → d ≡ formed form c → (words : List ℕ) → words ≡ words_of d → length words ≤ longest_size c.items
made_not_longer form c d e words same = rw (same, e) (formed_not_longer form c)

pub is_code : (c : LabelledItems) → IsLabelled c → IsCode (record { words = words_of c; holes = holes_of c })
is_code c is =
    let end = words_end (far_of c) (places_of c) no_address 0 [] c.items in
    let after = end_after (far_of c) 0 0 c.items is.not_empty in
    record {
      has_words = omega arith;
      words = small_at (words_of c) (all_small (far_of c) (places_of c) no_address (λ p x. word_small (filled_in x 0 0)) 0 [] c.items tt);
      holes = all_lie (far_of c) (places_of c) 0 [] [] c.items refl;
    }

pub forms_fit : (c : LabelledItems) → IsLabelled c → AllFit (far_of c) (places_of c) 0 0 c.items
forms_fit c is = all_fit (far_of c) (places_of c) 0 0 (replicate c.labels 0) (replicate c.labels 0) c.items (begin c is)
