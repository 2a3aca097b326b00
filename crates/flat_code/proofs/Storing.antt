-- A store on bytes shows the store on blocks.
use Rattle.std.proofs.Common.{◌≡◌, ℕ, zero, suc, ◌+◌, ◌-◌, ◌*◌, ◌/◌, ◌%◌, ◌^◌, ◌<◌, ◌≤◌, ◌⊎◌, Bool, true, false, if◌then◌else◌, List, [], map, length, slice_get, Option, Some, None, refl, sym, ◌∙◌, ap, subst, arith, nat_eq, option_and_then, eqb-true}
use Rattle.std.specs.Int.{byte_at}
use Rattle.std.proofs.Math.Nat.{pow-suc, div-div-eq-div-mul}
use Rattle.std.proofs.lemmas.Option.{slice_get_past, slice_get_within, same_Some, none-some}
use Rattle.il_ast.specs.declared.value.Value.{Value}
use Rattle.il_ast.specs.declared.value.Value.TheVariants.{Integer, Pointer, Function}
use Rattle.il_ast.specs.declared.value.Cell.{Cell}
use Rattle.il_ast.specs.declared.value.Cell.TheVariants.{Plain, Part}
use Rattle.il_ast.specs.Prelude.{bytes_of, Memory, parts, cells_for, write_at, store}
use Rattle.flat_code.specs.Flat.{Spot, ThisByte, Spots, Bases, Entries, Shows, ShowsCell, ShowsMemory, AreEntries}
use Rattle.flat_code.specs.Step.{is_in, all_there, with_number, stored}
use Rattle.flat_code.proofs.Standing.{Stands, stands}
use Rattle.flat_code.proofs.Changing.{Changed, MemoryFollows, IsWritten, is_written, IsCovered, written_shown, written_there, in_range, out_of_range}

-- ---- the cells of a value are shown by the bytes of its number

pub byte_later : (j n : ℕ) → byte_at j (n / 256) ≡ byte_at (suc j) n
byte_later zero n = refl
byte_later (suc i) n =
    let power : 256 * 256 ^ suc i ≡ 256 ^ suc (suc i) = (let e : 256 ^ suc (suc i) ≡ 256 ^ suc i * 256 = pow-suc 256 (suc i) in omega arith) in
    ap (λ d. d % 256) (div-div-eq-div-mul n 256 (256 ^ suc i) ∙ ap (λ d. n / d) power)

bytes_get : (n i k : ℕ) (c : Cell) → slice_get (map Plain (bytes_of n i)) k ≡ Some c → Plain (byte_at k i) ≡ c
bytes_get zero i k c h = absurd (none-some c (sym (slice_get_past [] k (omega arith)) ∙ h))
bytes_get (suc n) i zero c h = same_Some (Plain (i % 256)) c h
bytes_get (suc n) i (suc k) c h = ap Plain (sym (byte_later k i)) ∙ bytes_get n (i / 256) k c h

bytes_length : (n i : ℕ) → length (map Plain (bytes_of n i)) ≡ n
bytes_length zero i = refl
bytes_length (suc n) i = ap suc (bytes_length n (i / 256))

parts_get : (v : Value) (k : ℕ) (c : Cell) → slice_get (parts v) k ≡ Some c → Part v k ≡ c
parts_get v zero c h = same_Some (Part v 0) c h
parts_get v (suc zero) c h = same_Some (Part v 1) c h
parts_get v (suc (suc zero)) c h = same_Some (Part v 2) c h
parts_get v (suc (suc (suc zero))) c h = same_Some (Part v 3) c h
parts_get v (suc (suc (suc (suc zero)))) c h = same_Some (Part v 4) c h
parts_get v (suc (suc (suc (suc (suc zero))))) c h = same_Some (Part v 5) c h
parts_get v (suc (suc (suc (suc (suc (suc zero)))))) c h = same_Some (Part v 6) c h
parts_get v (suc (suc (suc (suc (suc (suc (suc zero))))))) c h = same_Some (Part v 7) c h
parts_get v (suc (suc (suc (suc (suc (suc (suc (suc k)))))))) c h = absurd (none-some c (sym (slice_get_past [] k (omega arith)) ∙ h))

-- n new cells, which the bytes of the number show
record AreCells (e : Entries) (p : Bases) (n z : ℕ) (new : List Cell) : Type 0 where
  long : length new ≡ n
  shown : (k : ℕ) (c : Cell) → slice_get new k ≡ Some c → ShowsCell e p c (ThisByte (byte_at k z))

parts_shown : (e : Entries) (p : Bases) (n z : ℕ) (v : Value) (new : List Cell) → Shows e p v z → z < 2 ^ 64 → (t : Bool) → nat_eq n 8 ≡ t → (if t then Some (parts v) else None) ≡ Some new → AreCells e p n z new
parts_shown e p n z v new h small false test is = absurd (none-some new is)
parts_shown e p n z v new h small true test is =
    let same : parts v ≡ new = same_Some (parts v) new is in
    record {
      long = ap length (sym same) ∙ sym (eqb-true n 8 test);
      shown = λ k c got. subst (λ (d : Cell). ShowsCell e p d (ThisByte (byte_at k z))) (parts_get v k c (ap (λ (xs : List Cell). slice_get xs k) same ∙ got)) (z, h, small, refl);
    }

address_small : (a o z : ℕ) → z ≡ (a + o) % 2 ^ 64 → z < 2 ^ 64
address_small a o z h = omega arith

cells_shown : (e : Entries) (p : Bases) → AreEntries e → (n z : ℕ) (v : Value) (new : List Cell) → Shows e p v z → cells_for n v ≡ Some new → AreCells e p n z new
cells_shown e p entries n z (Integer i) new h is =
    let same : map Plain (bytes_of n i) ≡ new = same_Some (map Plain (bytes_of n i)) new is in
    record {
      long = ap length (sym same) ∙ bytes_length n i;
      shown = λ k c got.
          subst (λ (d : Cell). ShowsCell e p d (ThisByte (byte_at k z))) (bytes_get n i k c (ap (λ (xs : List Cell). slice_get xs k) same ∙ got)) (ap (λ m. ThisByte (byte_at k m)) h);
    }
cells_shown e p entries n z (Pointer b o) new h is = parts_shown e p n z (Pointer b o) new h (address_small h.0 o z h.2) (nat_eq n 8) refl is
cells_shown e p entries n z (Function f) new h is = parts_shown e p n z (Function f) new h (entries.small f z h) (nat_eq n 8) refl is

-- ---- the bytes after it

byte_below : (k z : ℕ) → byte_at k z < 256
byte_below zero z = omega arith
byte_below (suc k) z = small (z / 256 ^ suc k)
  where
    small : (d : ℕ) → d % 256 < 256
    small d = omega arith

number_inside : (f : Spots) (at n z k : ℕ) → k < n → with_number f at n z (at + k) ≡ ThisByte (byte_at k z)
number_inside f at n z k h =
    ap (λ (t : Bool). if t then ThisByte (byte_at (at + k - at) z) else f (at + k)) (in_range at n (at + k) (omega arith) (omega arith))
    ∙ ap (λ i. ThisByte (byte_at i z)) (back at k)
  where
    back : (a k : ℕ) → a + k - a ≡ k
    back a k = omega arith

number_outside : (f : Spots) (at n z x : ℕ) → (x < at) ⊎ (at + n ≤ x) → with_number f at n z x ≡ f x
number_outside f at n z x h = ap (λ (t : Bool). if t then ThisByte (byte_at (x - at) z) else f x) (out_of_range at n x h)

pub known_is : (a b : ℕ) → ThisByte a ≡ ThisByte b → a ≡ b
known_is a b h = cc

number_bytes : (f : Spots) → ((x i : ℕ) → f x ≡ ThisByte i → i < 256) → (at n z x i : ℕ) → with_number f at n z x ≡ ThisByte i → i < 256
number_bytes f bytes at n z x i h = by_test (is_in at n x) h
  where
    by_test : (t : Bool) → (if t then ThisByte (byte_at (x - at) z) else f x) ≡ ThisByte i → i < 256
    by_test true h = subst (λ b. b < 256) (known_is (byte_at (x - at) z) i h) (byte_below (x - at) z)
    by_test false h = bytes x i h

number_covers : (e : Entries) (p : Bases) (f : Spots) → ((x i : ℕ) → f x ≡ ThisByte i → i < 256) → (at n z : ℕ) (new : List Cell) → AreCells e p n z new → IsCovered e p f (with_number f at n z) at new
number_covers e p f bytes at n z new are =
    record {
      inside = λ k c is.
          let lt : k < n = subst (λ m. k < m) are.long (slice_get_within new k c is) in
          subst (λ (s : Spot). ShowsCell e p c s) (sym (number_inside f at n z k lt)) (are.shown k c is);
      outside = λ x out. number_outside f at n z x (subst (λ m. (x < at) ⊎ (at + m ≤ x)) are.long out);
      bytes = number_bytes f bytes at n z;
    }

-- ---- a store

value_stored : (e : Entries) (p : Bases) (m : Memory) (f : Spots) → AreEntries e → ShowsMemory e p m f → (n b o x z : ℕ) (v : Value) → Shows e p (Pointer b o) x → Shows e p v z → (new : Option (List Cell)) → cells_for n v ≡ new
    → (now : Memory) → option_and_then (write_at m b o) new ≡ Some now → (g : Spots) × (stored f x n z ≡ Some g) × Changed e p m f now g
value_stored e p m f entries memory n b o x z v h k None cells now is = absurd (none-some now is)
value_stored e p m f entries memory n b o x z v h k (Some new) cells now is =
    let are : AreCells e p n z new = cells_shown e p entries n z v new k cells in
    let w : IsWritten m b o new now = is_written m b o new now is in
    let within : o + n ≤ length w.old = subst (λ i. o + i ≤ length w.old) are.long w.within in
    let at : Stands p b o x w.old = stands e p m f b o x w.old memory w.live (omega arith) h in
    let there : all_there f x n ≡ true = ap (λ a. all_there f a n) at.at ∙ written_there e p m f b o at.base n w.old memory w.live within at.is in
    let covers : IsCovered e p f (with_number f x n z) (at.base + o) new = subst (λ a. IsCovered e p f (with_number f x n z) a new) at.at (number_covers e p f memory.bytes x n z new are) in (
      with_number f x n z,
      ap (λ (t : Bool). if t then Some (with_number f x n z) else None) there,
      written_shown e p m f (with_number f x n z) b o at.base new now memory w at.is covers,
    )

pub stored_follows : (e : Entries) (p : Bases) (m : Memory) (f : Spots) → AreEntries e → ShowsMemory e p m f → (n : ℕ) (u v : Value) (x z : ℕ) → Shows e p u x → Shows e p v z
    → MemoryFollows e p m f (store m n u v) (stored f x n z)
unfolding store
stored_follows e p m f entries memory n (Integer i) v x z h k = λ now is. absurd (none-some now is)
stored_follows e p m f entries memory n (Function g) v x z h k = λ now is. absurd (none-some now is)
stored_follows e p m f entries memory n (Pointer b o) v x z h k = λ now is. value_stored e p m f entries memory n b o x z v h k (cells_for n v) refl now is
