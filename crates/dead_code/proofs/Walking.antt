-- One line further up.
use Rattle.std.proofs.Common.{◌≡◌, ℕ, zero, suc, ◌+◌, ◌-◌, ◌<◌, ◌≤◌, Bool, true, false, if◌then◌else◌, List, [], ◌∷◌, ◌++◌, length, get_or, drop, map, reverse, slice_get, Some, sym, ◌∙◌, ap, arith, inl, inr}
use Rattle.std.proofs.Math.Nat.{eq-or-lt_of_le}
use Rattle.std.proofs.lemmas.Grind.{reverse_onto}
use Rattle.bitset.specs.Bits.{Bits}
use Rattle.vcode.specs.declared.line.Line.{Line}
use Rattle.vcode.specs.declared.code.Block.{Block}
use Rattle.dead_code.specs.Without.{Wanted, is_dead, wanted_above, wanted_at, as_wanted, kept_lines, kept_block, wanted_in, held}
use Rattle.vcode.proofs.Lists.{item_next, same_some}
use Rattle.il_ast.proofs.Listed.{append_one}

line_above : (lines : List (Line ℕ)) (k : ℕ) (l : Line ℕ) → 0 < k → k ≤ length lines → l ≡ get_or lines (k - 1) l → drop (k - 1) lines ≡ l ∷ drop k lines
line_above lines k l low high at =
    item_next lines (k - 1) l (omega arith) at ∙ ap (λ i. l ∷ drop i lines) (let e : k - 1 + 1 ≡ k = omega arith in e)

pub lines_above : (out : Wanted) (lines : List (Line ℕ)) (k : ℕ) (l m : Line ℕ) (kept new : List (Line ℕ)) → 0 < k → k ≤ length lines → l ≡ get_or lines (k - 1) l
    → is_dead (wanted_at out (drop k lines)) l ≡ false → m ≡ as_wanted (wanted_at out (drop k lines)) l → new ≡ kept ++ m ∷ [] → kept ≡ reverse (kept_lines out (drop k lines))
    → new ≡ reverse (kept_lines out (drop (k - 1) lines))
lines_above out lines k l m kept new low high at stays is pushed before =
    let w : Wanted = wanted_at out (drop k lines) in
    pushed ∙ ap (λ (x : Line ℕ). kept ++ x ∷ []) is ∙ ap (λ xs. xs ++ as_wanted w l ∷ []) before ∙ sym (reverse_onto (kept_lines out (drop k lines)) (as_wanted w l) [])
    ∙ ap (λ (b : Bool). reverse (if b then kept_lines out (drop k lines) else as_wanted w l ∷ kept_lines out (drop k lines))) (sym stays)
    ∙ ap (λ xs. reverse (kept_lines out xs)) (sym (line_above lines k l low high at))

pub wanted_on : (out : Wanted) (lines : List (Line ℕ)) (k : ℕ) (l : Line ℕ) (before after : Wanted) → 0 < k → k ≤ length lines → l ≡ get_or lines (k - 1) l
    → is_dead (wanted_at out (drop k lines)) l ≡ false → before ≡ wanted_at out (drop k lines) → after ≡ wanted_above before l → after ≡ wanted_at out (drop (k - 1) lines)
wanted_on out lines k l before after low high at stays is new =
    new ∙ ap (λ (w : Wanted). wanted_above w l) is
    ∙ ap (λ (b : Bool). if b then wanted_at out (drop k lines) else wanted_above (wanted_at out (drop k lines)) l) (sym stays)
    ∙ ap (wanted_at out) (sym (line_above lines k l low high at))

-- ---- one block more

pub blocks_on : (n : ℕ) (starts : List Bits) (blocks : List (Block ℕ)) (k : ℕ) (b d : Block ℕ) (kept new : List (Block ℕ)) → k < length blocks → b ≡ get_or blocks k b → d ≡ kept_block n starts b
    → new ≡ kept ++ d ∷ [] → kept ++ map (kept_block n starts) (drop k blocks) ≡ map (kept_block n starts) blocks → new ++ map (kept_block n starts) (drop (k + 1) blocks) ≡ map (kept_block n starts) blocks
blocks_on n starts blocks k b d kept new low is made pushed before =
    ap (λ (xs : List (Block ℕ)). xs ++ map (kept_block n starts) (drop (k + 1) blocks)) (pushed ∙ ap (λ (x : Block ℕ). kept ++ x ∷ []) made)
    ∙ append_one kept (kept_block n starts b) (map (kept_block n starts) (drop (k + 1) blocks))
    ∙ ap (λ (xs : List (Block ℕ)). kept ++ map (kept_block n starts) xs) (sym (item_next blocks k b low is)) ∙ before

pub closed_on : (n : ℕ) (starts : List Bits) (blocks : List (Block ℕ)) (k : ℕ) (b : Block ℕ) → slice_get blocks k ≡ Some b → ((r : ℕ) → wanted_in n starts b r ≡ true → held n starts k r ≡ true)
    → ((j : ℕ) (d : Block ℕ) → j < k → slice_get blocks j ≡ Some d → (r : ℕ) → wanted_in n starts d r ≡ true → held n starts j r ≡ true)
    → (j : ℕ) (d : Block ℕ) → j < k + 1 → slice_get blocks j ≡ Some d → (r : ℕ) → wanted_in n starts d r ≡ true → held n starts j r ≡ true
closed_on n starts blocks k b here within before j d low at r h = elim (eq-or-lt_of_le (let le : j ≤ k = omega arith in le)) [
  | inl same ↦ (
      let block : b ≡ d = same_some b d (slice_get blocks k) here (ap (slice_get blocks) (sym same) ∙ at) in
      ap (λ i. held n starts i r) same ∙ within r (ap (λ (x : Block ℕ). wanted_in n starts x r) block ∙ h)
      )
  | inr below ↦ before j d below at r h
]

-- what a list has stands before its end
pub inside_at : (blocks : List (Block ℕ)) (k : ℕ) (b : Block ℕ) → slice_get blocks k ≡ Some b → k < length blocks
inside_at [] k b at = cc
inside_at (d ∷ blocks) zero b at = omega arith
inside_at (d ∷ blocks) (suc k) b at = let low = inside_at blocks k b at in omega (arith, low)
