-- Bytes that the program may access change, and the frame stays: its slots and saved registers, and what lies above it, may not be accessed.
use Rattle.std.proofs.Common.{◌≡◌, ◌≢◌, ℕ, zero, suc, ◌+◌, ◌*◌, ◌<◌, ◌≤◌, ◌⊎◌, Bool, true, false, inl, inr, refl, sym, ◌∙◌, ap, arith, lit<, eq-or-lt_of_le, length, ◌&&◌, nat_le, nat_lt, Some}
use Rattle.abi_frames.proofs.Shared.{State, Location, InRegister, Slot, and_parts, slice_get_within, nat_tests, number_at, is_place}
use Rattle.rv_isa.specs.Prelude.{Ground}
use Rattle.rv_isa.proofs.MemoryLemmas.{number_same}
use Rattle.flat_code.specs.Flat.{Spot, NoAccess, ThisByte, Spots}
use Rattle.flat_code.specs.Step.{Numbers, is_there, all_there, is_in}
use Rattle.abi_frames.specs.Performs.{HoldsSpots}
use Rattle.abi_frames.proofs.Activations.{Setting, IsSetting, bottom, value_at, place_is, slot_is, Framed, held_below}
use Rattle.abi_frames.proofs.StackAccesses.{UsableFrom}

-- from s to u, scratch registers and bytes that may be accessed have changed, so that the bytes `now` are known
pub record Changed (memory now : Spots) (s u : State) : Type 0 where
  pub registers : (n : ℕ) → n < 28 → u.registers n ≡ s.registers n
  pub output : u.output ≡ s.output
  pub spared : (x : ℕ) → memory x ≡ NoAccess → u.bytes x ≡ s.bytes x
  pub known : (x n : ℕ) → now x ≡ ThisByte n → u.bytes x ≡ n
  pub stays : (x : ℕ) → memory x ≡ NoAccess → now x ≡ NoAccess

-- eight bytes of the frame below the area
frame_bytes : (c : Setting) → IsSetting c → (numbers : Numbers) (memory now : Spots) (s u : State) → Framed c numbers memory s → Changed memory now s u
    → (o : ℕ) → o + 8 ≤ c.layout.slots + 8 * c.slots → number_at u.bytes (bottom c + o) 8 ≡ number_at s.bytes (bottom c + o) 8
frame_bytes c is numbers memory now s u framed h o inside =
    let fits = is.fits in
    let above = is.above in
    number_same u.bytes s.bytes (bottom c + o) 8
    (λ x lo hi. h.spared x (framed.clear x (omega (arith, lo, above)) (omega (arith, hi, inside, fits, above))))

place_same : (c : Setting) → IsSetting c → (numbers : Numbers) (memory now : Spots) (s u : State) → Framed c numbers memory s → Changed memory now s u
    → (p : Location) (v : ℕ) → is_place c.slots p ≡ true → numbers p ≡ Some v → value_at c u p ≡ v
place_same c is numbers memory now s u framed h (InRegister r) v good known =
    let hi = (place_is c.slots r good).to_27 in
    h.registers r (omega (arith, hi)) ∙ framed.places (InRegister r) v good known
place_same c is numbers memory now s u framed h (Slot i) v good known =
    let few = slot_is c.slots i good in
    frame_bytes c is numbers memory now s u framed h (c.layout.slots + 8 * i) (omega (arith, few)) ∙ framed.places (Slot i) v good known

pub changed : (c : Setting) → IsSetting c → (numbers : Numbers) (memory now : Spots) (s u : State) → Framed c numbers memory s → Changed memory now s u
    → Framed c numbers now u
changed c is numbers memory now s u framed h =
    let saves = is.saves_fit in
    record {
      pointer = h.registers 2 (lit< tt) ∙ framed.pointer;
      places = place_same c is numbers memory now s u framed h;
      spots = record { known = h.known; usable = λ x there. framed.spots.usable x (λ e. there (h.stays x e)) };
      clear = λ x lo hi. h.stays x (framed.clear x lo hi);
      reach = λ x hi away. h.stays x (framed.reach x hi away);
      saved = λ k r e.
          let few : k < length c.saved = slice_get_within c.saved k r e in
          frame_bytes c is numbers memory now s u framed h (c.layout.saves + 8 * k) (omega (arith, few, saves)) ∙ framed.saved k r e;
      thread = λ n kept other out. h.registers n (held_below n kept) ∙ framed.thread n kept other out;
      others = λ x hi away. h.spared x (framed.reach x hi away) ∙ framed.others x hi away;
      unset = framed.unset;
    }

-- ---- bytes that may be accessed

not_there : (m : Spot) → is_there m ≡ true → m ≢ NoAccess
not_there m h e = absurd (let no : ⊥ = cc in no)

pub there_at : (f : Spots) (a n x : ℕ) → all_there f a n ≡ true → a ≤ x → x < a + n → f x ≢ NoAccess
unfolding all_there
there_at f a zero x h lo hi = absurd (omega (arith, lo, hi))
there_at f a (suc n) x h lo hi =
    let parts = and_parts (is_there (f a)) (all_there f (a + 1) n) h in
    elim (eq-or-lt_of_le lo) [
      | inl here ↦ not_there (f x) (ap (λ y. is_there (f y)) (sym here) ∙ parts.0)
      | inr above ↦ there_at f (a + 1) n x parts.1 (omega (arith, above)) (omega (arith, hi))
    ]

pub usable_from : (g : Ground) (f : Spots) (s : State) (a n : ℕ) → HoldsSpots g f s → all_there f a n ≡ true → UsableFrom g a n
usable_from g f s a n holds h x lo hi = holds.usable x (there_at f a n x h lo hi)

-- where an address is, of n from `a` upward
pub inside_is : (a n x : ℕ) → is_in a n x ≡ true → (a ≤ x) × (x < a + n)
inside_is a n x h =
    let parts = and_parts (nat_le a x) (nat_lt x (a + n)) h in
    let lo = parts.0 in
    let hi = parts.1 in
    (grind (arith, nat_tests), grind (arith, nat_tests))

pub outside_is : (a n x : ℕ) → is_in a n x ≡ false → (x < a) ⊎ (a + n ≤ x)
outside_is a n x h = by_test (nat_le a x) refl (nat_lt x (a + n)) refl h
  where
    by_test : (b : Bool) → nat_le a x ≡ b → (d : Bool) → nat_lt x (a + n) ≡ d → (b && d) ≡ false → (x < a) ⊎ (a + n ≤ x)
    by_test false e d k h = inl (grind (arith, nat_tests))
    by_test true e false k h = inr (grind (arith, nat_tests))
    by_test true e true k h = absurd (let no : ⊥ = cc in no)
