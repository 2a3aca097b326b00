-- Where blocks stand that stand one behind the other, each behind its label.
use Rattle.std.proofs.Common.{◌≡◌, ℕ, zero, suc, ◌+◌, List, [], ◌∷◌, ◌++◌, refl, sym, ◌∙◌, ap, subst, arith, append_assoc, length, slice_get, Some}
use Rattle.rv_isa.specs.Prelude.{Stand, Stands}
use Rattle.abi_frames.proofs.Shared.{Item, Label, Location, Block, Layout, same_Some}
use Rattle.abi_frames.specs.Emission.{body_items, rows}
use Rattle.operation_code.proofs.Leading.{Site, StandAt}
use Rattle.abi_frames.proofs.Activations.{no_more}

pub record Stood (c : Site) (is : List Item) : Type 0 where
  pub place : ℕ
  pub stands : StandAt c is place

pub stand_after : (c : Site) (is js : List Item) (a : ℕ) → StandAt c (is ++ js) a → Stood c js
unfolding Stand
stand_after c [] js a stands = record { place = a; stands = stands }
stand_after c (i ∷ is) js a stands = stand_after c is js stands.0 stands.2

pub at_label : (c : Site) (l : ℕ) (is : List Item) (a : ℕ) → StandAt c (Label l ∷ is) a → StandAt c is (c.label l)
unfolding Stand Stands
at_label c l is a stands = subst (λ x. StandAt c is x) (stands.1.1 ∙ sym stands.1.0) stands.2

-- what is made of a block, from its label up to the next one
pub record Row (c : Site) (is : List Item) (here next : ℕ) : Type 0 where
  pub rest : List Item
  pub stands : StandAt c (is ++ (Label next ∷ rest)) (c.label here)

abbrev pub BlockCode : Site → Layout → (saved : List ℕ) → Block Location → ℕ → Type 0
BlockCode c y rs b k = Row c (body_items y rs k b) k (k + 1)

-- code that begins with a label
pub record Begins (l : ℕ) (is : List Item) : Type 0 where
  pub rest : List Item
  pub same : is ≡ Label l ∷ rest

pub rows_begin : (label : ℕ → ℕ) (body : ℕ → Block Location → List Item) (k : ℕ) (blocks : List (Block Location)) (last : ℕ) (tail : List Item) → last ≡ k + length blocks
    → Begins (label k) (rows label body k blocks ++ (Label (label last) ∷ tail))
rows_begin label body k [] last tail e = record { rest = tail; same = ap (λ l. Label (label l) ∷ tail) (let at : last ≡ k = omega (arith, e) in at) }
rows_begin label body k (b ∷ blocks) last tail e = record { rest = (body k b ++ rows label body (k + 1) blocks) ++ (Label (label last) ∷ tail); same = refl }

-- where the first label stands, and with it all others
rows_at : (c : Site) (label : ℕ → ℕ) (body : ℕ → Block Location → List Item) (k : ℕ) (b : Block Location) (blocks : List (Block Location)) (last : ℕ) (tail : List Item) (a : ℕ)
    → StandAt c (rows label body k (b ∷ blocks) ++ (Label (label last) ∷ tail)) a
    → StandAt c (body k b ++ (rows label body (k + 1) blocks ++ (Label (label last) ∷ tail))) (c.label (label k))
rows_at c label body k b blocks last tail a stands =
    let more : List Item = rows label body (k + 1) blocks in
    let end : List Item = Label (label last) ∷ tail in
    subst (λ is. StandAt c is (c.label (label k))) (append_assoc (body k b) more end) (at_label c (label k) ((body k b ++ more) ++ end) a stands)

pub rows_stand : (c : Site) (label : ℕ → ℕ) (body : ℕ → Block Location → List Item) (k : ℕ) (blocks : List (Block Location)) (last : ℕ) (tail : List Item) (a : ℕ)
    → last ≡ k + length blocks → StandAt c (rows label body k blocks ++ (Label (label last) ∷ tail)) a
    → (i : ℕ) (b : Block Location) → slice_get blocks i ≡ Some b → Row c (body (k + i) b) (label (k + i)) (label (k + i + 1))
rows_stand c label body k [] last tail a leave stands i b e = absurd (let no : ⊥ = cc in no)
rows_stand c label body k (d ∷ blocks) last tail a leave stands zero b e =
    let next = rows_begin label body (k + 1) blocks last tail (omega (arith, leave)) in
    let row : Row c (body k d) (label k) (label (k + 1)) = record {
      rest = next.rest;
      stands = subst (λ is. StandAt c (body k d ++ is) (c.label (label k))) next.same (rows_at c label body k d blocks last tail a stands);
    } in
    subst (λ x. Row c (body (k + zero) x) (label (k + zero)) (label (k + zero + 1))) (same_Some d b e)
    (subst (λ n. Row c (body n d) (label n) (label (n + 1))) (no_more k) row)
rows_stand c label body k (d ∷ blocks) last tail a leave stands (suc i) b e =
    let next = stand_after c (body k d) (rows label body (k + 1) blocks ++ (Label (label last) ∷ tail)) (c.label (label k)) (rows_at c label body k d blocks last tail a stands) in
    let place : k + 1 + i ≡ k + suc i = omega arith in
    subst (λ n. Row c (body n b) (label n) (label (n + 1))) place (rows_stand c label body (k + 1) blocks last tail next.place (omega (arith, leave)) next.stands i b e)

pub first_label : (c : Site) (label : ℕ → ℕ) (body : ℕ → Block Location → List Item) (k : ℕ) (blocks : List (Block Location)) (last : ℕ) (tail : List Item) (a : ℕ)
    → last ≡ k + length blocks → StandAt c (rows label body k blocks ++ (Label (label last) ∷ tail)) a → c.label (label k) ≡ a
unfolding Stand Stands
first_label c label body k blocks last tail a leave stands =
    let begins = rows_begin label body k blocks last tail leave in
    let here = subst (λ is. StandAt c is a) begins.same stands in
    here.1.0
