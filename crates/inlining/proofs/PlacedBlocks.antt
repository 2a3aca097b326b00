-- Where the blocks and the lines of the code stand, once a call is done in place.
use Rattle.std.proofs.Common.{◌≡◌, ℕ, zero, suc, ◌+◌, true, false, nat_eq, List, [], ◌∷◌, ◌++◌, map, length, take, drop, slice_get, slice_set, Some, refl, ◌∙◌, ap, arith, option_map}
use Rattle.std.specs.List.{list_all}
use Rattle.std.proofs.lemmas.Bool.{and_parts}
use Rattle.std.proofs.lemmas.Option.{slice_get-map}
use Rattle.vcode.specs.declared.code.Block.{Block}
use Rattle.vcode.specs.Prelude.{line_keeps, block_keeps, is_below}
use Rattle.inlining.specs.InPlace.{up_to_call, behind_call, candidate_block}
use Rattle.inlining.proofs.Beside.{Setting, placed}
use Rattle.il_ast.proofs.Listed.{all_at, get_before, get_set_other, length_slice_set}

-- ---- lists

set_same : {X : Type 0} (xs : List X) (i : ℕ) (x y : X) → slice_get xs i ≡ Some y → slice_get (slice_set xs i x) i ≡ Some x
set_same [] i x y h = absurd (let no : ⊥ = cc in no)
set_same (z ∷ zs) zero x y h = refl
set_same (z ∷ zs) (suc i) x y h = set_same zs i x y h

-- the item behind so many others
get_behind : {X : Type 0} (xs ys : List X) (n m : ℕ) → n ≡ m + length xs → slice_get (xs ++ ys) n ≡ slice_get ys m
get_behind [] ys n m h = ap (slice_get ys) (let e : n ≡ m = omega (arith, h) in e)
get_behind (x ∷ xs) ys zero m h = absurd (omega (arith, h))
get_behind (x ∷ xs) ys (suc n) m h = get_behind xs ys n m (omega (arith, h))

-- a list is what stands before an item, the item, and the rest
pub cut_at : {X : Type 0} (xs : List X) (j : ℕ) (x : X) → slice_get xs j ≡ Some x → xs ≡ take j xs ++ x ∷ drop (j + 1) xs
cut_at [] j x h = absurd (let no : ⊥ = cc in no)
cut_at (y ∷ xs) zero x h = let same : y ≡ x = cc in ap (λ z. z ∷ xs) same
cut_at (y ∷ xs) (suc j) x h =
    ap (λ zs. y ∷ zs) (cut_at xs j x h ∙ ap (λ n. take j xs ++ x ∷ drop n (y ∷ xs)) (let e : suc (j + 1) ≡ suc j + 1 = omega arith in e))

-- ---- blocks

abbrev pub behind_at : Setting → ℕ
behind_at c = length c.v.blocks

abbrev pub first_at : Setting → ℕ
first_at c = length c.v.blocks + 1

abbrev pub cut_block : Setting → Block ℕ
cut_block c = up_to_call (first_at c) c.base c.j c.candidate.params c.site

abbrev moved_blocks : Setting → List (Block ℕ)
moved_blocks c = map (candidate_block (first_at c) (behind_at c) c.base c.candidate.result c.site.to) c.candidate.blocks

-- a block without the call
pub other_block : (c : Setting) (n : ℕ) (b : Block ℕ) → nat_eq n c.k ≡ false → slice_get c.v.blocks n ≡ Some b → slice_get (placed c).blocks n ≡ Some b
other_block c n b apart at =
    get_before (slice_set c.v.blocks c.k (cut_block c)) (behind_call c.j c.site ∷ moved_blocks c) n b (get_set_other c.v.blocks c.k n (cut_block c) apart ∙ at)

-- the block with the call, which is cut there
pub call_block : (c : Setting) → slice_get (placed c).blocks c.k ≡ Some (cut_block c)
call_block c =
    get_before (slice_set c.v.blocks c.k (cut_block c)) (behind_call c.j c.site ∷ moved_blocks c) c.k (cut_block c)
    (set_same c.v.blocks c.k (cut_block c) c.site.block c.is.block)

-- the rest of it
pub rest_block : (c : Setting) → slice_get (placed c).blocks (behind_at c) ≡ Some (behind_call c.j c.site)
rest_block c =
    get_behind (slice_set c.v.blocks c.k (cut_block c)) (behind_call c.j c.site ∷ moved_blocks c) (behind_at c) 0
    (let e = length_slice_set c.v.blocks c.k (cut_block c) in omega (arith, e))

-- a block of the candidate
pub candidate_block_at : (c : Setting) (n : ℕ) (b : Block ℕ) → slice_get c.candidate.blocks n ≡ Some b
    → slice_get (placed c).blocks (n + first_at c) ≡ Some (candidate_block (first_at c) (behind_at c) c.base c.candidate.result c.site.to b)
candidate_block_at c n b at =
    get_behind (slice_set c.v.blocks c.k (cut_block c)) (behind_call c.j c.site ∷ moved_blocks c) (n + first_at c) (suc n)
    (let e = length_slice_set c.v.blocks c.k (cut_block c) in omega (arith, e))
    ∙ slice_get-map (candidate_block (first_at c) (behind_at c) c.base c.candidate.result c.site.to) c.candidate.blocks n
    ∙ ap (option_map (candidate_block (first_at c) (behind_at c) c.base c.candidate.result c.site.to)) at

-- ---- what the code names

pub block_known : (c : Setting) (n : ℕ) (b : Block ℕ) → slice_get c.v.blocks n ≡ Some b → list_all (line_keeps (is_below c.base)) b.lines ≡ true
block_known c n b at =
    let blocks : list_all (block_keeps (is_below c.base)) c.v.blocks ≡ true = (and_parts _ _ c.is.known).1 in
    (and_parts _ _ (all_at (block_keeps (is_below c.base)) c.v.blocks n b blocks at)).0
