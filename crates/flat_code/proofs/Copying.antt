-- A copy on bytes shows the copy on blocks.
use Rattle.std.proofs.Common.{◌≡◌, ℕ, zero, suc, ◌+◌, ◌-◌, ◌<◌, ◌≤◌, ◌⊎◌, inl, inr, Bool, true, false, not, ◌&&◌, ◌||◌, if◌then◌else◌, List, length, Option, Some, None, refl, sym, ◌∙◌, ap, subst, arith, nat_eq, nat_le, option_and_then}
use Rattle.std.proofs.lemmas.Bool.Decides.{nat_tests}
use Rattle.std.proofs.lemmas.Option.{slice_get_within, same_Some, none-some}
use Rattle.std.proofs.lemmas.Bool.{eqb-true, eqb-false}
use Rattle.il_ast.specs.declared.value.Value.{Value}
use Rattle.il_ast.specs.declared.value.Value.TheVariants.{Integer, Pointer, Function}
use Rattle.il_ast.specs.declared.value.Cell.{Cell}
use Rattle.il_ast.specs.Prelude.{Memory, block_at, cells_at, write_at, copy, apart_or_same as cells_apart}
use Rattle.flat_code.specs.Flat.{Spot, ThisByte, Spots, Bases, Entries, Shows, ShowsCell, ShowsMemory}
use Rattle.flat_code.specs.Step.{is_in, all_there, apart_or_same, with_copy, copied}
use Rattle.flat_code.proofs.Standing.{Stands, stands}
use Rattle.flat_code.proofs.Runs.{IsSpan, is_span, span_shown}
use Rattle.flat_code.proofs.Changing.{Changed, MemoryFollows, IsWritten, is_written, IsCovered, written_shown, written_there, in_range, out_of_range}

-- ---- ranges

-- the ranges are one, or have no address in common
abbrev pub AreApart : (n x y : ℕ) → Type 0
AreApart n x y = (x ≡ y) ⊎ ((x + n ≤ y) ⊎ (y + n ≤ x))

tested : (n x y : ℕ) → AreApart n x y → apart_or_same n x y ≡ true
tested n x y (inl h) = one (nat_eq x y) (equal x y h)
  where
    equal : (x y : ℕ) → x ≡ y → nat_eq x y ≡ true
    equal x y h = grind (arith, nat_tests)

    one : (t : Bool) → t ≡ true → t || (nat_le (x + n) y || nat_le (y + n) x) ≡ true
    one true h = refl
    one false h = cc
tested n x y (inr h) = sides (nat_eq x y) (nat_le (x + n) y) (nat_le (y + n) x) (side h)
  where
    below : (i j : ℕ) → i ≤ j → nat_le i j ≡ true
    below i j h = grind (arith, nat_tests)

    side : (x + n ≤ y) ⊎ (y + n ≤ x) → (nat_le (x + n) y ≡ true) ⊎ (nat_le (y + n) x ≡ true)
    side (inl h) = inl (below (x + n) y h)
    side (inr h) = inr (below (y + n) x h)

    sides : (s t u : Bool) → (t ≡ true) ⊎ (u ≡ true) → s || (t || u) ≡ true
    sides true t u h = refl
    sides false true u h = refl
    sides false false true h = refl
    sides false false false (inl h) = h
    sides false false false (inr h) = h

clear_offsets : (n o q : ℕ) → nat_eq o q || (nat_le (o + n) q || nat_le (q + n) o) ≡ true → AreApart n o q
clear_offsets n o q h = by_tests (nat_eq o q) (nat_le (o + n) q) (nat_le (q + n) o) refl refl refl h
  where
    below : (i j : ℕ) → nat_le i j ≡ true → i ≤ j
    below i j h = grind (arith, nat_tests)

    by_tests : (s t u : Bool) → nat_eq o q ≡ s → nat_le (o + n) q ≡ t → nat_le (q + n) o ≡ u → s || (t || u) ≡ true → AreApart n o q
    by_tests true t u a b c h = inl (eqb-true o q a)
    by_tests false true u a b c h = inr (inl (below (o + n) q b))
    by_tests false false true a b c h = inr (inr (below (q + n) o c))
    by_tests false false false a b c h = cc

-- what is apart or the same in blocks is so by addresses
clear_addresses : (e : Entries) (p : Bases) (m : Memory) (f : Spots) (n a o b q x y : ℕ) (source old : List Cell) → ShowsMemory e p m f → (s : Stands p a o x source) → (t : Stands p b q y old)
    → block_at m a ≡ Some source → block_at m b ≡ Some old → 0 < n → o + n ≤ length source → q + n ≤ length old → cells_apart n a o b q ≡ true → AreApart n x y
clear_addresses e p m f n a o b q x y source old memory s t from to some within within2 test = by_test (nat_eq a b) refl test
  where
    shifted : s.base ≡ t.base → AreApart n o q → AreApart n x y
    shifted same (inl h) = inl (s.at ∙ (ap (λ c. c + o) same ∙ (ap (λ c. t.base + c) h ∙ sym t.at)))
    shifted same (inr (inl h)) = inr (inl (let u : x ≡ s.base + o = s.at in let v : y ≡ t.base + q = t.at in omega arith))
    shifted same (inr (inr h)) = inr (inr (let u : x ≡ s.base + o = s.at in let v : y ≡ t.base + q = t.at in omega arith))

    sides : (i j : ℕ) → o + n ≤ i → q + n ≤ j → (s.base + i ≤ t.base) ⊎ (t.base + j ≤ s.base) → AreApart n x y
    sides i j h k (inl z) = inr (inl (let u : x ≡ s.base + o = s.at in let v : y ≡ t.base + q = t.at in omega arith))
    sides i j h k (inr z) = inr (inr (let u : x ≡ s.base + o = s.at in let v : y ≡ t.base + q = t.at in omega arith))

    by_test : (r : Bool) → nat_eq a b ≡ r → not r || (nat_eq o q || (nat_le (o + n) q || nat_le (q + n) o)) ≡ true → AreApart n x y
    by_test true e2 h =
        shifted (same_Some s.base t.base (sym s.is ∙ (ap p (eqb-true a b e2) ∙ t.is))) (clear_offsets n o q h)
    by_test false e2 h =
        sides (length source) (length old) within within2 (memory.apart a b s.base t.base source old (eqb-false a b e2) from to s.is t.is (omega arith) (omega arith))

-- ---- the bytes after it

copy_inside : (f : Spots) (n from to k : ℕ) → k < n → with_copy f n from to (to + k) ≡ f (from + k)
copy_inside f n from to k h =
    ap (λ (t : Bool). if t then f (from + (to + k - to)) else f (to + k)) (in_range to n (to + k) (omega arith) (omega arith))
    ∙ ap (λ i. f (from + i)) (back to k)
  where
    back : (a k : ℕ) → a + k - a ≡ k
    back a k = omega arith

copy_outside : (f : Spots) (n from to x : ℕ) → (x < to) ⊎ (to + n ≤ x) → with_copy f n from to x ≡ f x
copy_outside f n from to x h = ap (λ (t : Bool). if t then f (from + (x - to)) else f x) (out_of_range to n x h)

copy_bytes : (f : Spots) → ((x i : ℕ) → f x ≡ ThisByte i → i < 256) → (n from to x i : ℕ) → with_copy f n from to x ≡ ThisByte i → i < 256
copy_bytes f bytes n from to x i h = by_test (is_in to n x) h
  where
    by_test : (t : Bool) → (if t then f (from + (x - to)) else f x) ≡ ThisByte i → i < 256
    by_test true h = bytes (from + (x - to)) i h
    by_test false h = bytes x i h

-- ---- a copy

part_copied : (e : Entries) (p : Bases) (m : Memory) (f : Spots) → ShowsMemory e p m f → (n a o b q x y : ℕ) → 0 < n → Shows e p (Pointer a o) x → Shows e p (Pointer b q) y → cells_apart n a o b q ≡ true
    → (part : List Cell) → IsSpan m a o n part → (now : Memory) → IsWritten m b q part now
    → (apart_or_same n x y ≡ true) × (all_there f x n ≡ true) × (all_there f y n ≡ true) × Changed e p m f now (with_copy f n x y)
part_copied e p m f memory n a o b q x y some h k test part s now w =
    let within : q + n ≤ length w.old = subst (λ i. q + i ≤ length w.old) s.long w.within in
    let bound : o + n ≤ length s.cells = s.within in
    let from : Stands p a o x s.cells = stands e p m f a o x s.cells memory s.live (omega arith) h in
    let to : Stands p b q y w.old = stands e p m f b q y w.old memory w.live (omega arith) k in
    let covers : IsCovered e p f (with_copy f n x y) y part =
    record {
      inside = λ i c is.
          let lt : i < n = subst (λ l. i < l) s.long (slice_get_within part i c is) in
          subst (λ (z : Spot). ShowsCell e p c z) (sym (copy_inside f n x y i lt))
          (subst (λ z. ShowsCell e p c (f (z + i))) (sym from.at) (span_shown e p m f a o n from.base part memory s from.is i c is));
      outside = λ z out. copy_outside f n x y z (subst (λ l. (z < y) ⊎ (y + l ≤ z)) s.long out);
      bytes = copy_bytes f memory.bytes n x y;
    }
    in (
      tested n x y (clear_addresses e p m f n a o b q x y s.cells w.old memory from to s.live w.live some bound within test),
      ap (λ z. all_there f z n) from.at ∙ written_there e p m f a o from.base n s.cells memory s.live bound from.is,
      ap (λ z. all_there f z n) to.at ∙ written_there e p m f b q to.base n w.old memory w.live within to.is,
      written_shown e p m f (with_copy f n x y) b q to.base part now memory w to.is (subst (λ z. IsCovered e p f (with_copy f n x y) z part) to.at covers),
    )

copied_if : (f : Spots) (n x y : ℕ) (r s t : Bool) → r ≡ true → s ≡ true → t ≡ true → (if r && (s && t) then Some (with_copy f n x y) else None) ≡ Some (with_copy f n x y)
copied_if f n x y r s t a b c =
    ap (λ (u : Bool). if u && (s && t) then Some (with_copy f n x y) else None) a
    ∙ (ap (λ (u : Bool). if u && t then Some (with_copy f n x y) else None) b ∙ ap (λ (u : Bool). if u then Some (with_copy f n x y) else None) c)

pub copied_follows : (e : Entries) (p : Bases) (m : Memory) (f : Spots) → ShowsMemory e p m f → (n : ℕ) (u v : Value) (x y : ℕ) → Shows e p u x → Shows e p v y
    → MemoryFollows e p m f (copy m n u v) (copied f n x y)
unfolding copy copied
copied_follows e p m f memory zero u v x y h k = λ now is.
    (f, refl, subst (λ (n : Memory). Changed e p m f n f) (same_Some m now is) (record { memory = memory; sizes = λ b. refl; reach = λ z away. away }))
copied_follows e p m f memory (suc n) (Pointer a o) (Pointer b q) x y h k = λ now is. by_test now (cells_apart (suc n) a o b q) refl is
  where
    by_span : (now : Memory) → cells_apart (suc n) a o b q ≡ true → (part : Option (List Cell)) → cells_at m a o (suc n) ≡ part → option_and_then (write_at m b q) part ≡ Some now
        → (g : Spots) × ((if apart_or_same (suc n) x y && (all_there f x (suc n) && all_there f y (suc n)) then Some (with_copy f (suc n) x y) else None) ≡ Some g) × Changed e p m f now g
    by_span now test None cells is = absurd (none-some now is)
    by_span now test (Some part) cells is =
        let all = part_copied e p m f memory (suc n) a o b q x y (omega arith) h k test part (is_span m a o (suc n) part cells) now (is_written m b q part now is) in
        (with_copy f (suc n) x y, copied_if f (suc n) x y (apart_or_same (suc n) x y) (all_there f x (suc n)) (all_there f y (suc n)) all.0 all.1 all.2, all.3)

    by_test : (now : Memory) (t : Bool) → cells_apart (suc n) a o b q ≡ t → (if t then option_and_then (write_at m b q) (cells_at m a o (suc n)) else None) ≡ Some now
        → (g : Spots) × ((if apart_or_same (suc n) x y && (all_there f x (suc n) && all_there f y (suc n)) then Some (with_copy f (suc n) x y) else None) ≡ Some g) × Changed e p m f now g
    by_test now false test is = absurd (none-some now is)
    by_test now true test is = by_span now test (cells_at m a o (suc n)) refl is
copied_follows e p m f memory (suc n) (Pointer a o) (Integer j) x y h k = λ now is. absurd (none-some now is)
copied_follows e p m f memory (suc n) (Pointer a o) (Function g) x y h k = λ now is. absurd (none-some now is)
copied_follows e p m f memory (suc n) (Integer i) v x y h k = λ now is. absurd (none-some now is)
copied_follows e p m f memory (suc n) (Function i) v x y h k = λ now is. absurd (none-some now is)
