-- The return: the body's blocks die, and their bytes are closed.
use Rattle.std.proofs.Common.{◌≡◌, ℕ, ◌+◌, ◌<◌, ◌≤◌, ◌⊎◌, inl, inr, Bool, true, false, if◌then◌else◌, List, length, slice_get, Option, Some, None, refl, sym, ◌∙◌, ap, subst, arith, option_map}
use Rattle.std.proofs.lemmas.Option.{slice_get_within, same_Some, none-some}
use Rattle.il_ast.specs.declared.value.Cell.{Cell}
use Rattle.il_ast.specs.Prelude.{Memory, block_at, size_at, free_all}
use Rattle.flat_code.specs.Flat.{Spot, NoAccess, ThisByte, Spots, Bases, ShowsCell, ShowsMemory, SameReach, SameBlocks}
use Rattle.flat_code.specs.Step.{is_in, closed}
use Rattle.flat_code.proofs.Runs.{not_away}
use Rattle.flat_code.proofs.Changing.{in_range, out_of_range, outside_or_in}
use Rattle.flat_code.proofs.Owning.{Ground, IsGround, is_among, IsHeld, freed_size, freed_live}
use Rattle.il_ast.proofs.Listed.{get_below}
use Rattle.il_ast.proofs.Measured.{length_freed}

-- ---- closed bytes

closed_inside : (f : Spots) (at n x : ℕ) → at ≤ x → x < at + n → closed f at n x ≡ NoAccess
closed_inside f at n x h k = ap (λ (t : Bool). if t then NoAccess else f x) (in_range at n x h k)

closed_outside : (f : Spots) (at n x : ℕ) → (x < at) ⊎ (at + n ≤ x) → closed f at n x ≡ f x
closed_outside f at n x h = ap (λ (t : Bool). if t then NoAccess else f x) (out_of_range at n x h)

closed_bytes : (f : Spots) → ((x i : ℕ) → f x ≡ ThisByte i → i < 256) → (at n x i : ℕ) → closed f at n x ≡ ThisByte i → i < 256
closed_bytes f bytes at n x i h = by_test (is_in at n x) h
  where
    apart : NoAccess ≡ ThisByte i → ⊥
    apart e = cc

    by_test : (t : Bool) → (if t then NoAccess else f x) ≡ ThisByte i → i < 256
    by_test true h = absurd (apart h)
    by_test false h = bytes x i h

-- ---- a block that the body found

-- it stands outside of the area
found_outside : (g : Ground) → IsGround g → (p : Bases) (m : Memory) (owned : List ℕ) (f : Spots) (used : ℕ) → IsHeld g p m owned f used
    → (b a k : ℕ) (cells : List Cell) → is_among b owned ≡ false → block_at m b ≡ Some cells → p b ≡ Some a → k < length cells → (a + k < g.base) ⊎ (g.base + g.size ≤ a + k)
found_outside g ground p m owned f used held b a k cells other live at lt =
    elim (outside_or_in g.base g.size (a + k)) [
      | inl out ↦ out
      | inr z ↦ absurd (not_away g.entries g.bases cell.0 (g.before (a + k)) shown (ground.clear (a + k) (low z.0 z.2) (high z.0 z.1 z.2)))
    ]
  where
    size : (o : Option (List Cell)) → block_at m b ≡ o → o ≡ Some cells → size_at m b ≡ Some (length cells)
    size o e is = ap (option_map length) (e ∙ is)

    by_block : (o : Option (List Cell)) → block_at g.made b ≡ o → option_map length o ≡ Some (length cells) → (ys : List Cell) × (block_at g.made b ≡ Some ys) × (length ys ≡ length cells)
    by_block None e is = absurd (none-some (length cells) is)
    by_block (Some ys) e is = (ys, e, same_Some (length ys) (length cells) is)

    first : (ys : List Cell) × (block_at g.made b ≡ Some ys) × (length ys ≡ length cells)
    first = by_block (block_at g.made b) refl (sym (held.others b other) ∙ size (Some cells) live refl)

    cell : (c : Cell) × (slice_get first.0 k ≡ Some c)
    cell = get_below first.0 k (subst (λ n. k < n) (sym first.2) lt)

    placed : g.bases b ≡ Some a
    placed =
        let there = ground.memory.placed b first.0 first.1 in
        there.is ∙ ap (λ (n : ℕ). Some n) (same_Some there.base a (sym (held.grown b there.base there.is) ∙ at))

    shown : ShowsCell g.entries g.bases cell.0 (g.before (a + k))
    shown = ground.memory.cells b a k first.0 cell.0 first.1 placed cell.1

    low : (i : ℕ) → a + k ≡ g.base + i → g.base ≤ a + k
    low i e = omega arith

    high : (i : ℕ) → i < g.size → a + k ≡ g.base + i → a + k < g.base + g.size
    high i h e = omega arith

-- ---- the return

-- what the memory and the bytes are then
pub record IsLeft (g : Ground) (p : Bases) (m : Memory) (f : Spots) : Type 0 where
  pub memory : ShowsMemory g.entries p m f
  pub reach : SameReach g.before f
  pub blocks : SameBlocks g.made m

pub left_by : (g : Ground) → IsGround g → (p : Bases) (m : Memory) (owned : List ℕ) (f : Spots) (used : ℕ) → IsHeld g p m owned f used → IsLeft g p (free_all m owned) (closed f g.base g.size)
left_by g ground p m owned f used held =
    record {
      memory = record {
        placed = λ b cells h. held.memory.placed b cells (freed_live m owned b cells h).1;
        unmade = λ b le. held.memory.unmade b (subst (λ n. n ≤ b) (length_freed m owned) le);
        cells = λ b a k cells c h at got. stays b a k cells c (freed_live m owned b cells h) at got;
        apart = λ b c a d xs ys differ h k at dt some some2.
            held.memory.apart b c a d xs ys differ (freed_live m owned b xs h).1 (freed_live m owned c ys k).1 at dt some some2;
        bytes = closed_bytes f held.memory.bytes g.base g.size;
      };
      reach = λ x away. reached x away (outside_or_in g.base g.size x);
      blocks = λ b. freed_size m owned b ∙ sized b (is_among b owned) refl;
    }
  where
    stays : (b a k : ℕ) (cells : List Cell) (c : Cell) → (is_among b owned ≡ false) × (block_at m b ≡ Some cells) → p b ≡ Some a → slice_get cells k ≡ Some c → ShowsCell g.entries p c (closed f g.base g.size (a + k))
    stays b a k cells c h at got =
        subst (λ (s : Spot). ShowsCell g.entries p c s)
        (sym (closed_outside f g.base g.size (a + k) (found_outside g ground p m owned f used held b a k cells h.0 h.1 at (slice_get_within cells k c got))))
        (held.memory.cells b a k cells c h.1 at got)

    reached : (x : ℕ) → g.before x ≡ NoAccess → ((x < g.base) ⊎ (g.base + g.size ≤ x)) ⊎ ((k : ℕ) × (k < g.size) × (x ≡ g.base + k)) → closed f g.base g.size x ≡ NoAccess
    reached x away (inl out) = closed_outside f g.base g.size x out ∙ held.reach x away out
    reached x away (inr z) =
        let lt : z.0 < g.size = z.1 in
        let e : x ≡ g.base + z.0 = z.2 in
        closed_inside f g.base g.size x (omega arith) (omega arith)

    sized : (b : ℕ) (t : Bool) → is_among b owned ≡ t → (if t then None else size_at m b) ≡ size_at g.made b
    sized b true e = sym (held.mine b e)
    sized b false e = held.others b e
