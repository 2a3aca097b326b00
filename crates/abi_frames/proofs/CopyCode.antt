-- What the code that copies bytes does: between two ranges that have no address in common, or are the same.
use Rattle.std.proofs.Common.{inl, inr, ◌≡◌, ◌≢◌, ℕ, zero, suc, ◌+◌, ◌-◌, ◌*◌, ◌/◌, ◌%◌, ◌^◌, ◌<◌, ◌≤◌, ◌⊎◌, Bool, true, false, List, [], ◌∷◌, ◌++◌, refl, sym, ◌∙◌, ap, subst, arith, lit<, append_assoc, nat_lt, if◌then◌else◌}
use Rattle.std.specs.Int.{byte_at}
use Rattle.abi_frames.proofs.Shared.{State, LoadOp, StoreOp, Item, Location, InRegister, Slot, Operand, At, Number, Name, nat_tests, number_at, stored, moved, is_place, operand_keeps, low}
use Rattle.rv_isa.specs.Prelude.{load, load_size, load_value, store_size, Ground, Fixed}
use Rattle.rv_isa.specs.declared.instruction.LoadOp.TheVariants.{Ld, Lwu, Lhu, Lbu}
use Rattle.rv_isa.specs.declared.instruction.StoreOp.TheVariants.{Sb, Sh, Sw, Sd}
use Rattle.rv_isa.proofs.MemoryLemmas.{stored_below, stored_above}
use Rattle.operation_code.specs.Constants.{add_low}
use Rattle.abi_frames.specs.Emission.{into, fetch, source, copy_at, copy_pair, copy_pairs, copy_rest, copy_bytes, copy_part, copy_parts, near_blit, far_blit, blit_items}
use Rattle.operation_code.proofs.ConstantNumbers.{near_moves}
use Rattle.operation_code.proofs.Leading.{Site, Leads, leads_nowhere, Sets, IsReg, register_reg, in_register, in_register_small, same_in_register}
use Rattle.abi_frames.proofs.Leads.{leads_on, leads_as}
use Rattle.abi_frames.proofs.StackAccesses.{leads_load_at, UsableFrom, is_28, is_29}
use Rattle.operation_code.proofs.Instructions.{leads_add_low}
use Rattle.abi_frames.proofs.Activations.{Setting, IsSetting, site, bottom, operand_in, place_is}
use Rattle.abi_frames.proofs.LineCode.{Scratched, leads_into, leads_fetch, fetched_scratched, source_number, source_small, source_not_29, operand_same}
use Rattle.abi_frames.proofs.Accesses.{leads_store_any_in, stored_byte}
use Rattle.flat_code.proofs.Storing.{byte_later}

-- ---- bytes that were copied

pub record CopiedBytes (f g : ℕ → ℕ) (n from to : ℕ) : Type 0 where
  pub inside : (k : ℕ) → k < n → g (to + k) ≡ f (from + k)
  pub outside : (x : ℕ) → (x < to) ⊎ (to + n ≤ x) → g x ≡ f x

-- n addresses from one and from the other: the same, or none in common
abbrev pub Apart : (n from to : ℕ) → Type 0
Apart n from to = (from ≡ to) ⊎ ((from + n ≤ to) ⊎ (to + n ≤ from))

no_bytes : (f : ℕ → ℕ) (from to : ℕ) → CopiedBytes f f 0 from to
no_bytes f from to = record { inside = λ k h. absurd (omega (arith, h)); outside = λ x h. refl }

-- what the second copy reads is as it was
unread : (f g : ℕ → ℕ) (n m from to j : ℕ) → Apart (n + m) from to → j < m → CopiedBytes f g n from to → g (from + n + j) ≡ f (from + n + j)
unread f g n m from to j (inl same) h one = one.outside (from + n + j) (inr (omega (arith, same)))
unread f g n m from to j (inr (inl below)) h one = one.outside (from + n + j) (inl (omega (arith, below, h)))
unread f g n m from to j (inr (inr above)) h one = one.outside (from + n + j) (inr (omega (arith, above)))

copied_then : (f g h : ℕ → ℕ) (n m from to : ℕ) → Apart (n + m) from to → CopiedBytes f g n from to → CopiedBytes g h m (from + n) (to + n)
    → CopiedBytes f h (n + m) from to
copied_then f g h n m from to apart one two = record {
  inside = λ k few. by_test k few (nat_lt k n) refl;
  outside = λ x out. elim out [
    | inl below ↦ two.outside x (inl (omega (arith, below))) ∙ one.outside x (inl below)
    | inr above ↦ two.outside x (inr (omega (arith, above))) ∙ one.outside x (inr (omega (arith, above)))
  ];
}
  where
    by_test : (k : ℕ) → k < n + m → (b : Bool) → nat_lt k n ≡ b → h (to + k) ≡ f (from + k)
    by_test k few true e =
        let lo : k < n = grind (arith, nat_tests) in
        two.outside (to + k) (inl (omega (arith, lo))) ∙ one.inside k lo
    by_test k few false e =
        let hi : n ≤ k = grind (arith, nat_tests) in
        let j : ℕ = k - n in
        let less : j < m = omega (arith, few, hi) in
        let at : to + k ≡ to + n + j = omega (arith, hi) in
        let there : from + n + j ≡ from + k = omega (arith, hi) in
        ap h at ∙ (two.inside j less ∙ (unread f g n m from to j apart less one ∙ ap f there))

-- ---- a number's bytes are those that it was read from

pub read_byte : (f : ℕ → ℕ) (a n k : ℕ) → ((x : ℕ) → f x < 256) → k < n → byte_at k (number_at f a n) ≡ f (a + k)
unfolding number_at
read_byte f a zero k small h = absurd (omega (arith, h))
read_byte f a (suc n) zero small h =
    let byte = small a in
    let rest : ℕ = number_at f (a + 1) n in
    let here : a ≡ a + zero = omega arith in
    let low_part : (f a + 256 * rest) % 256 ≡ f a = omega (arith, byte) in
    low_part ∙ ap f here
read_byte f a (suc n) (suc k) small h =
    let byte = small a in
    let rest : ℕ = number_at f (a + 1) n in
    let next : a + 1 + k ≡ a + suc k = omega arith in
    let high_part : (f a + 256 * rest) / 256 ≡ rest = omega (arith, byte) in
    sym (byte_later k (f a + 256 * rest)) ∙ (ap (byte_at k) high_part ∙ (read_byte f (a + 1) n k small (omega (arith, h)) ∙ ap f next))

-- n bytes were copied; of the registers only x30 and x31 may have changed
pub record Piece (s : State) (n from to : ℕ) (u : State) : Type 0 where
  pub bytes : CopiedBytes s.bytes u.bytes n from to
  pub registers : (m : ℕ) → m < 30 → u.registers m ≡ s.registers m
  pub output : u.output ≡ s.output

is_30 : IsReg 30
is_30 = record { some = lit< tt; small = lit< tt }

is_31 : IsReg 31
is_31 = record { some = lit< tt; small = lit< tt }

-- a register below x30 isn't one of these two
not_through : (m d : ℕ) → 30 ≤ d → m < 30 → m ≢ d
not_through m d h lo e = absurd (omega (arith, h, lo, e))

-- a load and a store of one size, of which the load is read without a sign
pub record Alike (load : LoadOp) (store : StoreOp) (n : ℕ) : Type 0 where
  pub loads : load_size load ≡ n
  pub stores : store_size store ≡ n
  pub plain : (v : ℕ) → load_value load v ≡ v
  pub some : 0 < n

written_copied : (s t u : State) (n from to v : ℕ) → ((x : ℕ) → s.bytes x < 256) → v ≡ number_at s.bytes from n → t.bytes ≡ s.bytes
    → u.bytes ≡ stored t.bytes to n v → CopiedBytes s.bytes u.bytes n from to
written_copied s t u n from to v small value same is = record {
  inside = λ k h. at (to + k) ∙ (stored_byte t.bytes to n v k h ∙ (ap (byte_at k) value ∙ read_byte s.bytes from n k small h));
  outside = λ x out. at x ∙ (elsewhere x out ∙ ap (λ (m : ℕ → ℕ). m x) same);
}
  where
    at : (x : ℕ) → u.bytes x ≡ stored t.bytes to n v x
    at x = ap (λ (m : ℕ → ℕ). m x) is

    elsewhere : (x : ℕ) → (x < to) ⊎ (to + n ≤ x) → stored t.bytes to n v x ≡ t.bytes x
    elsewhere x (inl below) = stored_below t.bytes to n v x below
    elsewhere x (inr above) = stored_above t.bytes to n v x above

-- m bytes more were written, that stood behind those that were copied
written_behind : (f g h : ℕ → ℕ) (n m from to v : ℕ) → ((x : ℕ) → f x < 256) → CopiedBytes f g n from to → v ≡ number_at f (from + n) m → h ≡ stored g (to + n) m v
    → CopiedBytes f h (n + m) from to
written_behind f g h n m from to v small one value is = record {
  inside = λ k few. by_test k few (nat_lt k n) refl;
  outside = λ x out. elim out [
    | inl below ↦ at x ∙ (stored_below g (to + n) m v x (omega (arith, below)) ∙ one.outside x (inl below))
    | inr above ↦ at x ∙ (stored_above g (to + n) m v x (omega (arith, above)) ∙ one.outside x (inr (omega (arith, above))))
  ];
}
  where
    at : (x : ℕ) → h x ≡ stored g (to + n) m v x
    at x = ap (λ (b : ℕ → ℕ). b x) is

    by_test : (k : ℕ) → k < n + m → (b : Bool) → nat_lt k n ≡ b → h (to + k) ≡ f (from + k)
    by_test k few true e =
        let lo : k < n = grind (arith, nat_tests) in
        at (to + k) ∙ (stored_below g (to + n) m v (to + k) (omega (arith, lo)) ∙ one.inside k lo)
    by_test k few false e =
        let hi : n ≤ k = grind (arith, nat_tests) in
        let j : ℕ = k - n in
        let less : j < m = omega (arith, few, hi) in
        let there : to + k ≡ to + n + j = omega (arith, hi) in
        let here : from + n + j ≡ from + k = omega (arith, hi) in
        ap h there ∙ (at (to + n + j) ∙ (stored_byte g (to + n) m v j less ∙ (ap (byte_at j) value ∙ (read_byte f (from + n) m j small less ∙ ap f here))))

-- the addresses to copy from and to are in two registers, and not in those that the bytes go through
record Bases (s : State) (a b from to : ℕ) : Type 0 where
  from_low : a < 30
  from_at : in_register s a ≡ from % 2 ^ 64
  to_low : b < 30
  to_at : in_register s b ≡ to % 2 ^ 64

below_32 : (a : ℕ) → a < 30 → a < 32
below_32 a h = omega (arith, h)

bases_stay : (s u : State) (a b from to : ℕ) → ((m : ℕ) → m < 30 → u.registers m ≡ s.registers m) → Bases s a b from to → Bases u a b from to
bases_stay s u a b from to same h = record {
  from_low = h.from_low;
  from_at = same_in_register s u a (below_32 a h.from_low) (same a h.from_low) ∙ h.from_at;
  to_low = h.to_low;
  to_at = same_in_register s u b (below_32 b h.to_low) (same b h.to_low) ∙ h.to_at;
}

offset_address : (x a o b : ℕ) → x ≡ a % 2 ^ 64 → o < 2048 → b ≡ a + o → b < 2 ^ 64 → moved x (low o).value ≡ b
offset_address x a o b e h is small = near_moves x o h ∙ omega (arith, e, is, small)

leads_copy_at : (c : Site) (s : State) (load : LoadOp) (store : StoreOp) (a b n o from to p q : ℕ) → Alike load store n → Fixed c.ground s → Bases s a b from to
    → o < 2048 → p ≡ from + o → q ≡ to + o → UsableFrom c.ground p n → UsableFrom c.ground q n → Leads c (copy_at load store a b o) s (Piece s n p q)
leads_copy_at c s load store a b n o from to p q alike fixed bases near is_p is_q usable_p usable_q =
    let m : ℕ = load_size load in
    let v : ℕ = load_value load (number_at s.bytes p m) in
    let value : v ≡ number_at s.bytes p n = alike.plain (number_at s.bytes p m) ∙ ap (number_at s.bytes p) alike.loads in
    let more = alike.some in
    let small_p = (usable_p p (omega arith) (omega (arith, more))).small in
    let small_q = (usable_q q (omega arith) (omega (arith, more))).small in
    leads_on (leads_load_at c s load 30 a (low o) p is_30 fixed (offset_address (in_register s a) from o p bases.from_at near is_p small_p)
    (subst (UsableFrom c.ground p) (sym alike.loads) usable_p))
    (λ t f one.
    let moved_on = bases_stay s t a b from to (λ m lo. one.others m (not_through m 30 (omega arith) lo)) bases in
    leads_as (leads_store_any_in c t store 30 b (low o) q f (offset_address (in_register t b) to o q moved_on.to_at near is_q small_q)
    (subst (UsableFrom c.ground q) (sym alike.stores) usable_q))
    (λ u g two. record {
      bytes = written_copied s t u n p q (in_register t 30) fixed.small (register_reg t 30 is_30 ∙ (one.value ∙ value)) one.bytes
          (two.bytes ∙ ap (λ x. stored t.bytes q x (in_register t 30)) alike.stores);
      registers = λ m lo. two.registers m ∙ one.others m (not_through m 30 (omega arith) lo);
      output = two.output ∙ one.output;
    }))

longs : Alike Ld Sd 8
longs = record { loads = refl; stores = refl; plain = λ v. refl; some = lit< tt }

words : Alike Lwu Sw 4
words = record { loads = refl; stores = refl; plain = λ v. refl; some = lit< tt }

halves : Alike Lhu Sh 2
halves = record { loads = refl; stores = refl; plain = λ v. refl; some = lit< tt }

single : Alike Lbu Sb 1
single = record { loads = refl; stores = refl; plain = λ v. refl; some = lit< tt }

-- ---- pieces, one behind the other

apart_before : (n m from to : ℕ) → Apart (n + m) from to → Apart n from to
apart_before n m from to (inl same) = inl same
apart_before n m from to (inr (inl below)) = inr (inl (omega (arith, below)))
apart_before n m from to (inr (inr above)) = inr (inr (omega (arith, above)))

apart_after : (n m from to : ℕ) → Apart (n + m) from to → Apart m (from + n) (to + n)
apart_after n m from to (inl same) = inl (ap (λ x. x + n) same)
apart_after n m from to (inr (inl below)) = inr (inl (omega (arith, below)))
apart_after n m from to (inr (inr above)) = inr (inr (omega (arith, above)))

usable_part : (g : Ground) (a n b m : ℕ) → UsableFrom g a n → a ≤ b → b + m ≤ a + n → UsableFrom g b m
usable_part g a n b m usable behind before x lo hi = usable x (omega (arith, lo, behind)) (omega (arith, hi, before))

piece_on : (s u w : State) (n m from to : ℕ) → Apart (n + m) from to → Piece s n from to u → Piece u m (from + n) (to + n) w → Piece s (n + m) from to w
piece_on s u w n m from to apart one two = record {
  bytes = copied_then s.bytes u.bytes w.bytes n m from to apart one.bytes two.bytes;
  registers = λ m lo. two.registers m lo ∙ one.registers m lo;
  output = two.output ∙ one.output;
}

no_piece : (s : State) (n from to : ℕ) → n ≡ 0 → Piece s n from to s
no_piece s n from to none = record {
  bytes = subst (λ k. CopiedBytes s.bytes s.bytes k from to) (sym none) (no_bytes s.bytes from to);
  registers = λ q h. refl;
  output = refl;
}

leads_pair : (c : Site) (s : State) (a b o from to p q : ℕ) → Fixed c.ground s → Bases s a b from to → o + 16 ≤ 2048 → p ≡ from + o → q ≡ to + o
    → UsableFrom c.ground p 16 → UsableFrom c.ground q 16 → Leads c (copy_pair a b o) s (Piece s 16 p q)
leads_pair c s a b o from to p q fixed bases near is_p is_q usable_p usable_q =
    let small_p = (usable_p (p + 8) (omega arith) (omega arith)).small in
    let small_q = (usable_q (q + 8) (omega arith) (omega arith)).small in
    leads_on (leads_load_at c s Ld 30 a (low o) p is_30 fixed (offset_address (in_register s a) from o p bases.from_at (omega (arith, near)) is_p (omega (arith, small_p)))
    (usable_part c.ground p 16 p 8 usable_p (omega arith) (omega arith)))
    (λ t f one.
    let at_t = bases_stay s t a b from to (λ m lo. one.others m (not_through m 30 (omega arith) lo)) bases in
    leads_on (leads_load_at c t Ld 31 a (low (o + 8)) (p + 8) is_31 f
    (offset_address (in_register t a) from (o + 8) (p + 8) at_t.from_at (omega (arith, near)) (omega (arith, is_p)) small_p)
    (usable_part c.ground p 16 (p + 8) 8 usable_p (omega arith) (omega arith)))
    (λ u g two.
    let at_u = bases_stay t u a b from to (λ m lo. two.others m (not_through m 31 (omega arith) lo)) at_t in
    leads_on (leads_store_any_in c u Sd 30 b (low o) q g (offset_address (in_register u b) to o q at_u.to_at (omega (arith, near)) is_q (omega (arith, small_q)))
    (usable_part c.ground q 16 q 8 usable_q (omega arith) (omega arith)))
    (λ v h three.
    let at_v = bases_stay u v a b from to (λ m lo. three.registers m) at_u in
    leads_as (leads_store_any_in c v Sd 31 b (low (o + 8)) (q + 8) h
    (offset_address (in_register v b) to (o + 8) (q + 8) at_v.to_at (omega (arith, near)) (omega (arith, is_q)) small_q)
    (usable_part c.ground q 16 (q + 8) 8 usable_q (omega arith) (omega arith)))
    (λ w k four.
    let first : in_register u 30 ≡ number_at s.bytes p 8 =
    register_reg u 30 is_30 ∙ (two.others 30 (λ e. absurd (omega (arith, e))) ∙ (one.value ∙ longs.plain (number_at s.bytes p 8))) in
    let second : in_register v 31 ≡ number_at s.bytes (p + 8) 8 =
    register_reg v 31 is_31
    ∙ (three.registers 31 ∙ (two.value ∙ (longs.plain (number_at t.bytes (p + 8) 8) ∙ ap (λ (m : ℕ → ℕ). number_at m (p + 8) 8) one.bytes))) in
    record {
      bytes = written_behind s.bytes v.bytes w.bytes 8 8 p q (in_register v 31) fixed.small
          (written_copied s u v 8 p q (in_register u 30) fixed.small first (two.bytes ∙ one.bytes) three.bytes) second four.bytes;
      registers = λ m lo.
          four.registers m ∙ (three.registers m ∙ (two.others m (not_through m 31 (omega arith) lo) ∙ one.others m (not_through m 30 (omega arith) lo)));
      output = four.output ∙ (three.output ∙ (two.output ∙ one.output));
    }))))

leads_pairs : (c : Site) (s : State) (a b o k n from to p q : ℕ) → n ≡ 16 * k → o + n ≤ 2048 → p ≡ from + o → q ≡ to + o → Apart n p q → Fixed c.ground s
    → Bases s a b from to → UsableFrom c.ground p n → UsableFrom c.ground q n → Leads c (copy_pairs a b o k) s (Piece s n p q)
leads_pairs c s a b o zero n from to p q is near is_p is_q apart fixed bases usable_p usable_q =
    leads_nowhere c s (Piece s n p q) (no_piece s n p q (omega (arith, is)))
leads_pairs c s a b o (suc k) n from to p q is near is_p is_q apart fixed bases usable_p usable_q =
    let whole : n ≡ 16 + 16 * k = omega (arith, is) in
    let apart_n : Apart (16 + 16 * k) p q = subst (λ n. Apart n p q) whole apart in
    leads_on (leads_pair c s a b o from to p q fixed bases (omega (arith, near, whole)) is_p is_q
    (usable_part c.ground p n p 16 usable_p (omega arith) (omega (arith, whole))) (usable_part c.ground q n q 16 usable_q (omega arith) (omega (arith, whole))))
    (λ u f one.
    leads_as (leads_pairs c u a b (o + 16) k (16 * k) from to (p + 16) (q + 16) refl (omega (arith, near, whole)) (omega (arith, is_p)) (omega (arith, is_q))
    (apart_after 16 (16 * k) p q apart_n) f (bases_stay s u a b from to one.registers bases)
    (usable_part c.ground p n (p + 16) (16 * k) usable_p (omega arith) (omega (arith, whole))) (usable_part c.ground q n (q + 16) (16 * k) usable_q (omega arith) (omega (arith, whole))))
    (λ w g two. subst (λ n. Piece s n p q w) (sym whole) (piece_on s u w 16 (16 * k) p q apart_n one two)))

-- ---- fewer than eight bytes

leads_piece : (c : Site) (s : State) (load : LoadOp) (store : StoreOp) (a b n o from to p q m : ℕ) (t : Bool) → Alike load store n → (t ≡ true → m ≡ 0)
    → (t ≡ false → m ≡ n) → Fixed c.ground s → Bases s a b from to → o + m ≤ 2048 → p ≡ from + o → q ≡ to + o
    → UsableFrom c.ground p m → UsableFrom c.ground q m → Leads c (if t then [] else copy_at load store a b o) s (Piece s m p q)
leads_piece c s load store a b n o from to p q m true alike none some fixed bases near is_p is_q usable_p usable_q =
    leads_nowhere c s (Piece s m p q) (no_piece s m p q (none refl))
leads_piece c s load store a b n o from to p q m false alike none some fixed bases near is_p is_q usable_p usable_q =
    let is = some refl in
    let more = alike.some in
    subst (λ k. Leads c (copy_at load store a b o) s (Piece s k p q)) (sym is)
    (leads_copy_at c s load store a b n o from to p q alike fixed bases (omega (arith, near, is, more)) is_p is_q
    (subst (UsableFrom c.ground p) is usable_p) (subst (UsableFrom c.ground q) is usable_q))

-- the bits of a number below eight
four_of : (n : ℕ) → n < 8 → (nat_lt n 4 ≡ true → n / 4 * 4 ≡ 0) × (nat_lt n 4 ≡ false → n / 4 * 4 ≡ 4)
four_of n h = (λ e. grind (arith, nat_tests), λ e. grind (arith, nat_tests))

two_of : (n : ℕ) → (nat_lt (n % 4) 2 ≡ true → n % 4 / 2 * 2 ≡ 0) × (nat_lt (n % 4) 2 ≡ false → n % 4 / 2 * 2 ≡ 2)
two_of n = (λ e. grind (arith, nat_tests), λ e. grind (arith, nat_tests))

one_of : (n : ℕ) → (nat_lt (n % 2) 1 ≡ true → n % 2 ≡ 0) × (nat_lt (n % 2) 1 ≡ false → n % 2 ≡ 1)
one_of n = (λ e. grind (arith, nat_tests), λ e. grind (arith, nat_tests))

eight_of : (n : ℕ) → (nat_lt (n % 16) 8 ≡ true → n % 16 / 8 * 8 ≡ 0) × (nat_lt (n % 16) 8 ≡ false → n % 16 / 8 * 8 ≡ 8)
eight_of n = (λ e. grind (arith, nat_tests), λ e. grind (arith, nat_tests))

leads_rest : (c : Site) (s : State) (a b o n from to p q : ℕ) → n < 8 → o + n ≤ 2048 → p ≡ from + o → q ≡ to + o → Apart n p q → Fixed c.ground s
    → Bases s a b from to → UsableFrom c.ground p n → UsableFrom c.ground q n → Leads c (copy_rest a b o n) s (Piece s n p q)
leads_rest c s a b o n from to p q few near is_p is_q apart fixed bases usable_p usable_q =
    let k : ℕ = n / 4 * 4 in
    let m : ℕ = n % 4 / 2 * 2 in
    let r : ℕ = n % 2 in
    let whole : n ≡ k + (m + r) = omega arith in
    let both : k + m ≡ n / 2 * 2 = omega arith in
    let fours = four_of n few in
    let twos = two_of n in
    let ones = one_of n in
    let apart_n : Apart (k + (m + r)) p q = subst (λ x. Apart x p q) whole apart in
    let later = apart_after k (m + r) p q apart_n in
    leads_on (leads_piece c s Lwu Sw a b 4 o from to p q k (nat_lt n 4) words fours.0 fours.1 fixed bases (omega (arith, near, whole)) is_p is_q
    (usable_part c.ground p n p k usable_p (omega arith) (omega (arith, whole))) (usable_part c.ground q n q k usable_q (omega arith) (omega (arith, whole))))
    (λ u f one.
    let in_u = bases_stay s u a b from to one.registers bases in
    leads_on (leads_piece c u Lhu Sh a b 2 (o + k) from to (p + k) (q + k) m (nat_lt (n % 4) 2) halves twos.0 twos.1 f in_u (omega (arith, near, whole)) (omega (arith, is_p)) (omega (arith, is_q))
    (usable_part c.ground p n (p + k) m usable_p (omega arith) (omega (arith, whole))) (usable_part c.ground q n (q + k) m usable_q (omega arith) (omega (arith, whole))))
    (λ v g two.
    leads_as (leads_piece c v Lbu Sb a b 1 (o + n / 2 * 2) from to (p + k + m) (q + k + m) r (nat_lt (n % 2) 1) single ones.0 ones.1 g (bases_stay u v a b from to two.registers in_u)
    (omega (arith, near, whole, both)) (omega (arith, is_p, both)) (omega (arith, is_q, both))
    (usable_part c.ground p n (p + k + m) r usable_p (omega arith) (omega (arith, whole))) (usable_part c.ground q n (q + k + m) r usable_q (omega arith) (omega (arith, whole))))
    (λ w h three. subst (λ x. Piece s x p q w) (sym whole)
    (piece_on s u w k (m + r) p q apart_n one (piece_on u v w m r (p + k) (q + k) later two three)))))

-- ---- so few bytes that the offsets fit the instructions

leads_bytes : (c : Site) (s : State) (a b n from to : ℕ) → n < 2048 → Apart n from to → Fixed c.ground s → Bases s a b from to
    → UsableFrom c.ground from n → UsableFrom c.ground to n → Leads c (copy_bytes a b n) s (Piece s n from to)
leads_bytes c s a b n from to near apart fixed bases usable_from usable_to =
    let k : ℕ = 16 * (n / 16) in
    let m : ℕ = n % 16 / 8 * 8 in
    let r : ℕ = n % 8 in
    let whole : n ≡ k + (m + r) = omega arith in
    let both : k + m ≡ n / 8 * 8 = omega arith in
    let eights = eight_of n in
    let apart_n : Apart (k + (m + r)) from to = subst (λ x. Apart x from to) whole apart in
    let later = apart_after k (m + r) from to apart_n in
    leads_on (leads_pairs c s a b 0 (n / 16) k from to from to refl (omega (arith, near, whole)) (omega arith) (omega arith) (apart_before k (m + r) from to apart_n) fixed bases
    (usable_part c.ground from n from k usable_from (omega arith) (omega (arith, whole))) (usable_part c.ground to n to k usable_to (omega arith) (omega (arith, whole))))
    (λ u f one.
    let in_u = bases_stay s u a b from to one.registers bases in
    leads_on (leads_piece c u Ld Sd a b 8 (n / 16 * 16) from to (from + k) (to + k) m (nat_lt (n % 16) 8) longs eights.0 eights.1 f in_u (omega (arith, near, whole)) (omega arith) (omega arith)
    (usable_part c.ground from n (from + k) m usable_from (omega arith) (omega (arith, whole))) (usable_part c.ground to n (to + k) m usable_to (omega arith) (omega (arith, whole))))
    (λ v g two.
    leads_as (leads_rest c v a b (n / 8 * 8) r from to (from + k + m) (to + k + m) (omega arith) (omega (arith, near)) (omega (arith, both)) (omega (arith, both)) (apart_after m r (from + k) (to + k) later) g
    (bases_stay u v a b from to two.registers in_u)
    (usable_part c.ground from n (from + k + m) r usable_from (omega arith) (omega (arith, whole))) (usable_part c.ground to n (to + k + m) r usable_to (omega arith) (omega (arith, whole))))
    (λ w h three. subst (λ x. Piece s x from to w) (sym whole)
    (piece_on s u w k (m + r) from to apart_n one (piece_on u v w m r (from + k) (to + k) later two three)))))

-- ---- many bytes

-- n bytes were copied; of the registers only scratch may have changed
pub record Copied (s : State) (n from to : ℕ) (u : State) : Type 0 where
  pub bytes : CopiedBytes s.bytes u.bytes n from to
  pub registers : (m : ℕ) → m < 28 → u.registers m ≡ s.registers m
  pub output : u.output ≡ s.output

-- and the next addresses are in x28 and x29
record Onward (s : State) (n from to : ℕ) (u : State) : Type 0 where
  copied : Copied s n from to u
  from_at : u.registers 28 ≡ (from + n) % 2 ^ 64
  to_at : u.registers 29 ≡ (to + n) % 2 ^ 64

not_scratch : (m d : ℕ) → 28 ≤ d → m < 28 → m ≢ d
not_scratch m d h lo e = absurd (omega (arith, h, lo, e))

piece_copied : (s u : State) (n from to : ℕ) → Piece s n from to u → Copied s n from to u
piece_copied s u n from to h = record { bytes = h.bytes; registers = λ m lo. h.registers m (omega (arith, lo)); output = h.output }

copied_on : (s u w : State) (n m from to : ℕ) → Apart (n + m) from to → Copied s n from to u → Copied u m (from + n) (to + n) w → Copied s (n + m) from to w
copied_on s u w n m from to apart one two = record {
  bytes = copied_then s.bytes u.bytes w.bytes n m from to apart one.bytes two.bytes;
  registers = λ q lo. two.registers q lo ∙ one.registers q lo;
  output = two.output ∙ one.output;
}

in_scratch : (s : State) (from to : ℕ) → s.registers 28 ≡ from % 2 ^ 64 → s.registers 29 ≡ to % 2 ^ 64 → Bases s 28 29 from to
in_scratch s from to at_from at_to = record {
  from_low = lit< tt;
  from_at = register_reg s 28 is_28 ∙ at_from;
  to_low = lit< tt;
  to_at = register_reg s 29 is_29 ∙ at_to;
}

next_address : (x a o : ℕ) → x ≡ a % 2 ^ 64 → o < 2048 → moved x (low o).value ≡ (a + o) % 2 ^ 64
next_address x a o e h = near_moves x o h ∙ omega (arith, e)

-- the addresses move on
leads_next : (c : Site) (s t : State) (n from to : ℕ) → n < 2048 → Fixed c.ground t → s.registers 28 ≡ from % 2 ^ 64 → s.registers 29 ≡ to % 2 ^ 64 → Piece s n from to t
    → Leads c (add_low 28 28 n ∷ add_low 29 29 n ∷ []) t (Onward s n from to)
leads_next c s t n from to near f at_from at_to one =
    leads_on (leads_add_low c t 28 28 n (t.registers 28) ((from + n) % 2 ^ 64) is_28 (register_reg t 28 is_28)
    (next_address (t.registers 28) from n (one.registers 28 (lit< tt) ∙ at_from) near))
    (λ u g two.
    leads_as (leads_add_low c u 29 29 n (u.registers 29) ((to + n) % 2 ^ 64) is_29 (register_reg u 29 is_29)
    (next_address (u.registers 29) to n
    (two.others 29 (λ e. absurd (omega (arith, e))) ∙ (one.registers 29 (lit< tt) ∙ at_to)) near))
    (λ w h three. record {
      copied = record {
        bytes = subst (λ (b : ℕ → ℕ). CopiedBytes s.bytes b n from to) (sym (three.bytes ∙ two.bytes)) one.bytes;
        registers = λ m lo.
            three.others m (not_scratch m 29 (omega arith) lo)
            ∙ (two.others m (not_scratch m 28 (omega arith) lo) ∙ one.registers m (omega (arith, lo)));
        output = three.output ∙ (two.output ∙ one.output);
      };
      from_at = three.others 28 (λ e. absurd (omega (arith, e))) ∙ two.value;
      to_at = three.value;
    }))

leads_part : (c : Site) (s : State) (from to : ℕ) → Apart 2040 from to → Fixed c.ground s → s.registers 28 ≡ from % 2 ^ 64 → s.registers 29 ≡ to % 2 ^ 64
    → UsableFrom c.ground from 2040 → UsableFrom c.ground to 2040 → Leads c copy_part s (Onward s 2040 from to)
leads_part c s from to apart fixed at_from at_to usable_from usable_to =
    leads_on (leads_bytes c s 28 29 2040 from to (lit< tt) apart fixed (in_scratch s from to at_from at_to) usable_from usable_to)
    (λ t f one. leads_next c s t 2040 from to (lit< tt) f at_from at_to one)

further : (x a n m : ℕ) → x ≡ (a + n + m) % 2 ^ 64 → x ≡ (a + (n + m)) % 2 ^ 64
further x a n m e = omega (arith, e)

onward_on : (s u w : State) (n m from to : ℕ) → Apart (n + m) from to → Onward s n from to u → Onward u m (from + n) (to + n) w → Onward s (n + m) from to w
onward_on s u w n m from to apart one two = record {
  copied = copied_on s u w n m from to apart one.copied two.copied;
  from_at = further (w.registers 28) from n m two.from_at;
  to_at = further (w.registers 29) to n m two.to_at;
}

leads_parts : (c : Site) (s : State) (k n from to : ℕ) → n ≡ 2040 * k → Apart n from to → Fixed c.ground s → s.registers 28 ≡ from % 2 ^ 64 → s.registers 29 ≡ to % 2 ^ 64
    → UsableFrom c.ground from n → UsableFrom c.ground to n → Leads c (copy_parts k) s (Onward s n from to)
leads_parts c s zero n from to is apart fixed at_from at_to usable_from usable_to =
    let none : n ≡ 0 = omega (arith, is) in
    leads_nowhere c s (Onward s n from to)
    (record {
      copied = piece_copied s s n from to (no_piece s n from to none);
      from_at = omega (arith, at_from, none);
      to_at = omega (arith, at_to, none);
    })
leads_parts c s (suc k) n from to is apart fixed at_from at_to usable_from usable_to =
    let m : ℕ = 2040 * k in
    let whole : n ≡ 2040 + m = omega (arith, is) in
    let apart_n : Apart (2040 + m) from to = subst (λ n. Apart n from to) whole apart in
    leads_on (leads_part c s from to (apart_before 2040 m from to apart_n) fixed at_from at_to
    (usable_part c.ground from n from 2040 usable_from (omega arith) (omega (arith, whole))) (usable_part c.ground to n to 2040 usable_to (omega arith) (omega (arith, whole))))
    (λ u f one.
    leads_as (leads_parts c u k m (from + 2040) (to + 2040) refl (apart_after 2040 m from to apart_n) f one.from_at one.to_at
    (usable_part c.ground from n (from + 2040) m usable_from (omega arith) (omega (arith, whole))) (usable_part c.ground to n (to + 2040) m usable_to (omega arith) (omega (arith, whole))))
    (λ w g two. subst (λ n. Onward s n from to w) (sym whole) (onward_on s u w 2040 m from to apart_n one two)))

leads_all : (c : Site) (s : State) (n from to : ℕ) → Apart n from to → Fixed c.ground s → s.registers 28 ≡ from % 2 ^ 64 → s.registers 29 ≡ to % 2 ^ 64
    → UsableFrom c.ground from n → UsableFrom c.ground to n → Leads c (copy_parts (n / 2040) ++ copy_bytes 28 29 (n % 2040)) s (Copied s n from to)
leads_all c s n from to apart fixed at_from at_to usable_from usable_to =
    let k : ℕ = 2040 * (n / 2040) in
    let r : ℕ = n % 2040 in
    let whole : n ≡ k + r = omega arith in
    let apart_n : Apart (k + r) from to = subst (λ x. Apart x from to) whole apart in
    leads_on (leads_parts c s (n / 2040) k from to refl (apart_before k r from to apart_n) fixed at_from at_to
    (usable_part c.ground from n from k usable_from (omega arith) (omega (arith, whole))) (usable_part c.ground to n to k usable_to (omega arith) (omega (arith, whole))))
    (λ u f one.
    leads_as (leads_bytes c u 28 29 r (from + k) (to + k) (omega arith) (apart_after k r from to apart_n) f (in_scratch u (from + k) (to + k) one.from_at one.to_at)
    (usable_part c.ground from n (from + k) r usable_from (omega arith) (omega (arith, whole))) (usable_part c.ground to n (to + k) r usable_to (omega arith) (omega (arith, whole))))
    (λ w g two. subst (λ x. Copied s x from to w) (sym whole)
    (copied_on s u w k r from to apart_n one.copied (piece_copied u w r (from + k) (to + k) two))))

-- ---- the line

copied_later : (s u w : State) (n from to : ℕ) → Scratched s u → Copied u n from to w → Copied s n from to w
copied_later s u w n from to same h = record {
  bytes = subst (λ (b : ℕ → ℕ). CopiedBytes b w.bytes n from to) same.bytes h.bytes;
  registers = λ m lo. h.registers m lo ∙ same.registers m lo;
  output = h.output ∙ same.output;
}

-- the addresses are in x28 and x29, or in registers of their own
record Addressed (s : State) (a b from to : ℕ) (u : State) : Type 0 where
  from_at : in_register u a ≡ from
  to_at : in_register u b ≡ to
  same : Scratched s u

scratched_on : (s u w : State) → Scratched s u → Scratched u w → Scratched s w
scratched_on s u w one two = record {
  registers = λ m lo. two.registers m lo ∙ one.registers m lo;
  bytes = two.bytes ∙ one.bytes;
  output = two.output ∙ one.output;
}

set_scratched : (s : State) (d v : ℕ) (u : State) → 28 ≤ d → Sets s d v u → Scratched s u
set_scratched s d v u h set = record { registers = λ m lo. set.others m (not_scratch m d h lo); bytes = set.bytes; output = set.output }

leads_addresses : (c : Setting) → IsSetting c → (s : State) (from to : Operand Location) → s.registers 2 ≡ bottom c
    → operand_keeps (is_place c.slots) from ≡ true → operand_keeps (is_place c.slots) to ≡ true
    → Leads (site c) (into c.layout 28 from ++ into c.layout 29 to) s (Addressed s 28 29 (operand_in c s from) (operand_in c s to))
leads_addresses c is s from to pointer known_from known_to =
    leads_on (leads_into c is s 28 from is_28 (λ e. absurd (omega (arith, e))) pointer known_from)
    (λ u f one.
    let same = set_scratched s 28 (operand_in c s from) u (omega arith) one in
    leads_as (leads_into c is u 29 to is_29 (λ e. absurd (omega (arith, e))) (same.registers 2 (lit< tt) ∙ pointer) known_to)
    (λ w g two. record {
      from_at = register_reg w 28 is_28 ∙ (two.others 28 (λ e. absurd (omega (arith, e))) ∙ one.value);
      to_at = register_reg w 29 is_29 ∙ (two.value ∙ operand_same c s u to known_to same);
      same = scratched_on s u w same (set_scratched u 29 (operand_in c u to) w (omega arith) two);
    }))

leads_sources : (c : Setting) → IsSetting c → (s : State) (from to : Operand Location) → s.registers 2 ≡ bottom c
    → operand_keeps (is_place c.slots) from ≡ true → operand_keeps (is_place c.slots) to ≡ true
    → Leads (site c) (fetch c.layout 28 from ++ fetch c.layout 29 to) s (Addressed s (source 28 from) (source 29 to) (operand_in c s from) (operand_in c s to))
leads_sources c is s from to pointer known_from known_to =
    leads_on (leads_fetch c is s 28 from is_28 (λ e. absurd (omega (arith, e))) pointer known_from)
    (λ u f one.
    let same = fetched_scratched c s 28 from u (omega arith) one in
    leads_as (leads_fetch c is u 29 to is_29 (λ e. absurd (omega (arith, e))) (same.registers 2 (lit< tt) ∙ pointer) known_to)
    (λ w g two. record {
      from_at = same_in_register u w (source 28 from) (source_small c.slots 28 from (lit< tt) known_from)
          (two.others (source 28 from) (source_not_29 c.slots from known_from)) ∙ one.value;
      to_at = two.value ∙ operand_same c s u to known_to same;
      same = scratched_on s u w same (fetched_scratched c u 29 to w (omega arith) two);
    }))

source_low : (slots d : ℕ) (a : Operand Location) → d < 30 → operand_keeps (is_place slots) a ≡ true → source d a < 30
source_low slots d (At (InRegister r)) low good = let hi = (place_is slots r good).to_27 in omega (arith, hi)
source_low slots d (At (Slot i)) low good = low
source_low slots d (Number n) low good = source_number d n (λ x. x < 30) (lit< tt) low
source_low slots d (Name g) low good = low

whole_address : (x : ℕ) (y : ℕ) → y < 2 ^ 64 → y ≡ x → y ≡ x % 2 ^ 64
whole_address x y small e = omega (arith, small, e)

leads_near_blit : (c : Setting) → IsSetting c → (s : State) (from to : Operand Location) (count : ℕ) → count < 2048 → s.registers 2 ≡ bottom c
    → operand_keeps (is_place c.slots) from ≡ true → operand_keeps (is_place c.slots) to ≡ true
    → Apart count (operand_in c s from) (operand_in c s to)
    → UsableFrom c.world.memory_map (operand_in c s from) count → UsableFrom c.world.memory_map (operand_in c s to) count
    → Leads (site c) (near_blit c.layout from to count) s (Copied s count (operand_in c s from) (operand_in c s to))
leads_near_blit c is s from to count near pointer known_from known_to apart usable_from usable_to =
    let p : ℕ = operand_in c s from in
    let q : ℕ = operand_in c s to in
    let a : ℕ = source 28 from in
    let b : ℕ = source 29 to in
    subst (λ l. Leads (site c) l s (Copied s count p q)) (append_assoc (fetch c.layout 28 from) (fetch c.layout 29 to) (copy_bytes a b count))
    (leads_on (leads_sources c is s from to pointer known_from known_to)
    (λ u f one.
    leads_as (leads_bytes (site c) u a b count p q near apart f
    (record {
      from_low = source_low c.slots 28 from (lit< tt) known_from;
      from_at = whole_address p (in_register u a) (in_register_small (site c).ground u a f) one.from_at;
      to_low = source_low c.slots 29 to (lit< tt) known_to;
      to_at = whole_address q (in_register u b) (in_register_small (site c).ground u b f) one.to_at;
    })
    usable_from usable_to)
    (λ w g two. copied_later s u w count p q one.same (piece_copied u w count p q two))))

leads_far_blit : (c : Setting) → IsSetting c → (s : State) (from to : Operand Location) (count : ℕ) → s.registers 2 ≡ bottom c
    → operand_keeps (is_place c.slots) from ≡ true → operand_keeps (is_place c.slots) to ≡ true
    → Apart count (operand_in c s from) (operand_in c s to)
    → UsableFrom c.world.memory_map (operand_in c s from) count → UsableFrom c.world.memory_map (operand_in c s to) count
    → Leads (site c) (far_blit c.layout from to count) s (Copied s count (operand_in c s from) (operand_in c s to))
leads_far_blit c is s from to count pointer known_from known_to apart usable_from usable_to =
    let p : ℕ = operand_in c s from in
    let q : ℕ = operand_in c s to in
    let bytes : List Item = copy_parts (count / 2040) ++ copy_bytes 28 29 (count % 2040) in
    subst (λ l. Leads (site c) l s (Copied s count p q)) (append_assoc (into c.layout 28 from) (into c.layout 29 to) bytes)
    (leads_on (leads_addresses c is s from to pointer known_from known_to)
    (λ u f one.
    leads_as (leads_all (site c) u count p q apart f
    (whole_address p (u.registers 28) (f.words 28) (sym (register_reg u 28 is_28) ∙ one.from_at))
    (whole_address q (u.registers 29) (f.words 29) (sym (register_reg u 29 is_29) ∙ one.to_at)) usable_from usable_to)
    (λ w g two. copied_later s u w count p q one.same two)))

pub leads_blit_line : (c : Setting) → IsSetting c → (s : State) (from to : Operand Location) (count : ℕ) → s.registers 2 ≡ bottom c
    → operand_keeps (is_place c.slots) from ≡ true → operand_keeps (is_place c.slots) to ≡ true
    → Apart count (operand_in c s from) (operand_in c s to)
    → UsableFrom c.world.memory_map (operand_in c s from) count → UsableFrom c.world.memory_map (operand_in c s to) count
    → Leads (site c) (blit_items c.layout from to count) s (Copied s count (operand_in c s from) (operand_in c s to))
leads_blit_line c is s from to count pointer known_from known_to apart usable_from usable_to = by_test (nat_lt count 2048) refl
  where
    by_test : (t : Bool) → nat_lt count 2048 ≡ t
        → Leads (site c) (if t then near_blit c.layout from to count else far_blit c.layout from to count) s (Copied s count (operand_in c s from) (operand_in c s to))
    by_test true e = leads_near_blit c is s from to count (grind (arith, nat_tests)) pointer known_from known_to apart usable_from usable_to
    by_test false e = leads_far_blit c is s from to count pointer known_from known_to apart usable_from usable_to
