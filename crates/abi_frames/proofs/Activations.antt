-- An activation of a function: where its places are, and what holds in each state of its run.
use Rattle.std.proofs.Common.{zero, suc, ◌≡◌, ◌≢◌, ℕ, ◌+◌, ◌-◌, ◌*◌, ◌%◌, ◌^◌, ◌<◌, ◌≤◌, Bool, true, false, List, [], ◌∷◌, refl, sym, ◌∙◌, ap, arith, lit<, ◌&&◌, ◌||◌, not, length, nat_eq, nat_lt, nat_le, if◌then◌else◌, slice_get, Option, Some, None}
use Rattle.abi_frames.proofs.Shared.{State, Location, InRegister, Slot, Operand, At, Number, Name, Layout, list_all, and_parts, eqb-true, eqb-false, slice_get_within, same_Some, not_both, nat_tests, number_at, stored, is_place, operand_keeps}
use Rattle.rv_isa.specs.Prelude.{Ground}
use Rattle.rv_isa.proofs.MemoryLemmas.{stored_below, stored_above, read_below, read_above, read_back}
use Rattle.flat_code.specs.Flat.{Spot, NoAccess, ThisByte, Spots}
use Rattle.flat_code.specs.Step.{Numbers, put, number_of}
use Rattle.abi_frames.specs.Performs.{World, IsWorld, HoldsSpots, is_kept}
use Rattle.abi_frames.specs.Emission.{slot_offset}
use Rattle.operation_code.proofs.Leading.{Site, IsReg}
use Rattle.abi_frames.proofs.StackAccesses.{UsableFrom}

pub no_more : (n : ℕ) → n ≡ n + zero
no_more n = omega arith

pub next_index : (n i : ℕ) → n + 1 + i ≡ n + suc i
next_index n i = omega arith

-- registers that a frame can save
abbrev pub can_save : ℕ → Bool
can_save r = (nat_lt 0 r && nat_lt r 28) && (not (nat_eq r 2) && not (nat_eq r 10))

abbrev pub is_among : ℕ → List ℕ → Bool
is_among n [] = false
is_among n (r ∷ rs) = nat_eq n r || is_among n rs

-- what stays during an activation
pub record Setting : Type 0 where
  pub world : World
  pub label : ℕ → ℕ
  pub global : ℕ → ℕ
  pub addresses : List ℕ
  pub layout : Layout
  pub saved : List ℕ
  pub slots : ℕ
  pub area : ℕ
  pub sp : ℕ
  pub before : Spots
  pub start : State
  -- the stack pointer at the begin of the calls that are made
  pub floor : ℕ
  -- so many instructions are left for what comes behind the last jump
  pub reserve : ℕ
  -- the blocks that jumps may lead to
  pub reached : ℕ → Bool

abbrev pub site : Setting → Site
site c = record { ground = c.world.memory_map; label = c.label; global = c.global }

-- the stack pointer of the activation
abbrev pub bottom : Setting → ℕ
bottom c = c.sp - c.layout.size

abbrev pub slot_at : Setting → ℕ → ℕ
slot_at c i = bottom c + slot_offset c.layout i

abbrev pub save_at : Setting → ℕ → ℕ
save_at c k = bottom c + (c.layout.saves + 8 * k)

-- what is asked of it: of where things are alone, so that it holds whatever the rest is
pub record Fits (w : World) (global : ℕ → ℕ) (addresses : List ℕ) (y : Layout) (saved : List ℕ) (slots area sp reserve : ℕ) : Type 0 where
  pub world : IsWorld w
  pub globals : (n a : ℕ) → slice_get addresses n ≡ Some a → global n ≡ a
  pub near : (n : ℕ) → global n < 2 ^ 30
  pub above : w.bottom + y.size ≤ sp
  pub below : sp ≤ w.top
  pub fits : y.slots + 8 * slots + area ≤ y.size
  pub blocks : y.area + area ≡ y.size
  pub saves_fit : y.saves + 8 * length saved ≤ y.slots
  pub saves_near : y.saves < 1024
  pub slots_near : y.slots < 1024
  pub savable : list_all can_save saved ≡ true
  pub small : y.size < 2 ^ 21
  pub enough : 24 ≤ reserve

abbrev pub IsSetting : Setting → Type 0
IsSetting c = Fits c.world c.global c.addresses c.layout c.saved c.slots c.area c.sp c.reserve

-- ---- places

abbrev pub value_in : (sp : ℕ) → Layout → State → Location → ℕ
value_in sp y u (InRegister r) = u.registers r
value_in sp y u (Slot i) = number_at u.bytes (sp - y.size + slot_offset y i) 8

abbrev pub value_at : Setting → State → Location → ℕ
value_at c u p = value_in c.sp c.layout u p

abbrev pub operand_in : Setting → State → Operand Location → ℕ
operand_in c u (At p) = value_at c u p
operand_in c u (Number n) = n % 2 ^ 64
operand_in c u (Name g) = c.global g

-- registers that are places
pub record IsPlace (r : ℕ) : Type 0 where
  pub from_5 : 5 ≤ r
  pub to_27 : r ≤ 27

pub place_is : (slots r : ℕ) → is_place slots (InRegister r) ≡ true → IsPlace r
place_is slots r h =
    let parts = and_parts (nat_le 5 r) (nat_le r 27) h in
    let lo = parts.0 in
    let hi = parts.1 in
    record { from_5 = grind (arith, nat_tests); to_27 = grind (arith, nat_tests) }

pub place_reg : (r : ℕ) → IsPlace r → IsReg r
place_reg r is = let lo = is.from_5 in let hi = is.to_27 in record { some = omega (arith, lo); small = omega (arith, hi) }

pub slot_is : (slots i : ℕ) → is_place slots (Slot i) ≡ true → i < slots
slot_is slots i h = grind (arith, nat_tests)

-- ---- addresses in the frame

pub record InFrame (c : Setting) (o : ℕ) : Type 0 where
  pub near : o < 2 ^ 21
  pub small : bottom c + o < 2 ^ 63
  pub usable : UsableFrom c.world.memory_map (bottom c + o) 8

pub in_frame : (c : Setting) → IsSetting c → (o : ℕ) → o + 8 ≤ c.layout.size → InFrame c o
in_frame c is o h =
    let above = is.above in
    let below = is.below in
    let small = is.small in
    let top = is.world.small in
    record {
      near = omega (arith, h, small);
      small = omega (arith, h, above, below, top);
      usable = λ x lo hi. is.world.usable x (omega (arith, lo, above)) (omega (arith, hi, above, below, h));
    }

pub slot_in_frame : (c : Setting) → IsSetting c → (i : ℕ) → i < c.slots → InFrame c (slot_offset c.layout i)
slot_in_frame c is i h = let fits = is.fits in in_frame c is (slot_offset c.layout i) (omega (arith, h, fits))

-- ---- what holds in a state

-- the registers that hold the same at a function's end as at its begin: those that a callee keeps, and the return address
abbrev pub is_held : ℕ → Bool
is_held n = is_kept n || nat_eq n 1

pub record Holds (w : World) (y : Layout) (rs : List ℕ) (slots area sp : ℕ) (before : Spots) (start : State) (numbers : Numbers) (memory : Spots) (u : State) : Type 0 where
  pub pointer : u.registers 2 ≡ sp - y.size
  pub places : (p : Location) (v : ℕ) → is_place slots p ≡ true → numbers p ≡ Some v → value_in sp y u p ≡ v
  pub spots : HoldsSpots w.memory_map memory u
  pub clear : (x : ℕ) → w.bottom ≤ x → x < sp - area → memory x ≡ NoAccess
  pub reach : (x : ℕ) → sp ≤ x → before x ≡ NoAccess → memory x ≡ NoAccess
  pub saved : (k r : ℕ) → slice_get rs k ≡ Some r → number_at u.bytes (sp - y.size + (y.saves + 8 * k)) 8 ≡ start.registers r
  pub thread : (n : ℕ) → is_held n ≡ true → n ≢ 2 → is_among n rs ≡ false → u.registers n ≡ start.registers n
  pub others : (x : ℕ) → sp ≤ x → before x ≡ NoAccess → u.bytes x ≡ start.bytes x
  pub unset : (i : ℕ) → slots ≤ i → numbers (Slot i) ≡ None

abbrev pub Framed : Setting → Numbers → Spots → State → Type 0
Framed c numbers memory u = Holds c.world c.layout c.saved c.slots c.area c.sp c.before c.start numbers memory u

pub operand_known : (c : Setting) (numbers : Numbers) (memory : Spots) (u : State) (a : Operand Location) (v : ℕ) → IsSetting c
    → Framed c numbers memory u → operand_keeps (is_place c.slots) a ≡ true → number_of c.addresses numbers a ≡ Some v → operand_in c u a ≡ v
operand_known c numbers memory u (At p) v is framed good known = framed.places p v good known
operand_known c numbers memory u (Number n) v is framed good known = same_Some (n % 2 ^ 64) v known
operand_known c numbers memory u (Name g) v is framed good known = is.globals g v known

-- ---- a place takes a value; of the other registers only scratch may have changed

pub record InPlace (s : State) (r v : ℕ) (u : State) : Type 0 where
  pub value : u.registers r ≡ v
  pub others : (n : ℕ) → n < 28 → n ≢ r → u.registers n ≡ s.registers n
  pub bytes : u.bytes ≡ s.bytes
  pub output : u.output ≡ s.output

pub record OnStack (s : State) (a v : ℕ) (u : State) : Type 0 where
  pub small : v < 2 ^ 64
  pub bytes : u.bytes ≡ stored s.bytes a 8 v
  pub registers : (n : ℕ) → n < 28 → u.registers n ≡ s.registers n
  pub output : u.output ≡ s.output

abbrev pub Assigned : Setting → State → Location → ℕ → State → Type 0
Assigned c s (InRegister r) v u = InPlace s r v u
Assigned c s (Slot i) v u = OnStack s (slot_at c i) v u

pub assigned_output : (c : Setting) (s : State) (p : Location) (v : ℕ) (u : State) → Assigned c s p v u → u.output ≡ s.output
assigned_output c s (InRegister r) v u h = h.output
assigned_output c s (Slot i) v u h = h.output

-- ---- the registers that a callee keeps

pub held_below : (n : ℕ) → is_held n ≡ true → n < 28
held_below n h = grind (arith, nat_tests)

pub held_not_10 : (n : ℕ) → is_held n ≡ true → n ≢ 10
held_not_10 n h e = absurd (let no : ⊥ = grind (arith, nat_tests) in no)

held_kept : (n : ℕ) → 5 ≤ n → is_held n ≡ true → is_kept n ≡ true
held_kept n h k = grind (arith, nat_tests)

-- a place that may be written where these registers are saved
abbrev pub MayWrite : List ℕ → Location → Type 0
MayWrite rs (InRegister r) = is_kept r ≡ true → is_among r rs ≡ true
MayWrite rs (Slot i) = Unit {0}

not_written : (rs : List ℕ) (n r : ℕ) → 5 ≤ r → is_held n ≡ true → is_among n rs ≡ false → MayWrite rs (InRegister r) → n ≢ r
not_written rs n r from kept out may e =
    not_both (is_among n rs) (ap (λ m. is_among m rs) e ∙ may (held_kept r from (ap is_held (sym e) ∙ kept))) out

-- a register is written
register_place : (c : Setting) (numbers : Numbers) (memory : Spots) (s u : State) (r v : ℕ) (o : Option ℕ) → Framed c numbers memory s
    → InPlace s r v u → ((x : ℕ) → o ≡ Some x → v ≡ x)
    → (q : Location) (x : ℕ) → is_place c.slots q ≡ true → put (InRegister r) o numbers q ≡ Some x → value_at c u q ≡ x
register_place c numbers memory s u r v o framed h value (InRegister n) x good known = by_test (nat_eq n r) refl known
  where
    by_test : (t : Bool) → nat_eq n r ≡ t → (if t then o else numbers (InRegister n)) ≡ Some x → u.registers n ≡ x
    by_test true e k = ap u.registers (eqb-true n r e) ∙ (h.value ∙ value x k)
    by_test false e k =
        let hi = (place_is c.slots n good).to_27 in
        h.others n (omega (arith, hi)) (eqb-false n r e) ∙ framed.places (InRegister n) x good k
register_place c numbers memory s u r v o framed h value (Slot i) x good known =
    ap (λ (m : ℕ → ℕ). number_at m (slot_at c i) 8) h.bytes ∙ framed.places (Slot i) x good known

pub spots_same : (g : Ground) (f : Spots) (s u : State) → u.bytes ≡ s.bytes → HoldsSpots g f s → HoldsSpots g f u
spots_same g f s u e h = record { known = λ x n k. ap (λ (m : ℕ → ℕ). m x) e ∙ h.known x n k; usable = h.usable }

register_assigned : (c : Setting) (numbers : Numbers) (memory : Spots) (s u : State) (r v : ℕ) (o : Option ℕ) → Framed c numbers memory s → IsPlace r → MayWrite c.saved (InRegister r)
    → InPlace s r v u → ((x : ℕ) → o ≡ Some x → v ≡ x) → Framed c (put (InRegister r) o numbers) memory u
register_assigned c numbers memory s u r v o framed is may h value =
    let lo = is.from_5 in
    record {
      pointer = h.others 2 (lit< tt) (λ e. absurd (omega (arith, e, lo))) ∙ framed.pointer;
      places = register_place c numbers memory s u r v o framed h value;
      spots = spots_same c.world.memory_map memory s u h.bytes framed.spots;
      clear = framed.clear;
      reach = framed.reach;
      saved = λ k q e. ap (λ (m : ℕ → ℕ). number_at m (save_at c k) 8) h.bytes ∙ framed.saved k q e;
      thread = λ n kept other out. h.others n (held_below n kept) (not_written c.saved n r lo kept out may) ∙ framed.thread n kept other out;
      others = λ x above away. ap (λ (m : ℕ → ℕ). m x) h.bytes ∙ framed.others x above away;
      unset = λ i far. framed.unset i far;
    }

-- a slot is written

pub byte_has_access : (m : Spot) (n : ℕ) → m ≡ ThisByte n → m ≡ NoAccess → ⊥
byte_has_access m n e f = let no : ⊥ = cc in no

slot_spots : (c : Setting) → IsSetting c → (numbers : Numbers) (memory : Spots) (s u : State) (i v : ℕ) → i < c.slots → Framed c numbers memory s
    → OnStack s (slot_at c i) v u → (x n : ℕ) → memory x ≡ ThisByte n → u.bytes x ≡ n
slot_spots c is numbers memory s u i v few framed h x n known = by_test (nat_lt x (slot_at c i)) refl (nat_le (slot_at c i + 8) x) refl
  where
    at_x : u.bytes x ≡ stored s.bytes (slot_at c i) 8 v x
    at_x = ap (λ (m : ℕ → ℕ). m x) h.bytes

    by_test : (t : Bool) → nat_lt x (slot_at c i) ≡ t → (d : Bool) → nat_le (slot_at c i + 8) x ≡ d → u.bytes x ≡ n
    by_test true e d f = at_x ∙ (stored_below s.bytes (slot_at c i) 8 v x (grind (arith, nat_tests)) ∙ framed.spots.known x n known)
    by_test false e true f = at_x ∙ (stored_above s.bytes (slot_at c i) 8 v x (grind (arith, nat_tests)) ∙ framed.spots.known x n known)
    by_test false e false f =
        let from : slot_at c i ≤ x = grind (arith, nat_tests) in
        let to : x < slot_at c i + 8 = grind (arith, nat_tests) in
        let fits = is.fits in
        let above = is.above in
        absurd (byte_has_access (memory x) n known (framed.clear x (omega (arith, from, above)) (omega (arith, to, fits, above, few))))

slot_place : (c : Setting) (numbers : Numbers) (memory : Spots) (s u : State) (i v : ℕ) (o : Option ℕ) → v < 2 ^ 64 → Framed c numbers memory s
    → OnStack s (slot_at c i) v u → ((x : ℕ) → o ≡ Some x → v ≡ x)
    → (q : Location) (x : ℕ) → is_place c.slots q ≡ true → put (Slot i) o numbers q ≡ Some x → value_at c u q ≡ x
slot_place c numbers memory s u i v o small framed h value (InRegister n) x good known =
    let hi = (place_is c.slots n good).to_27 in
    h.registers n (omega (arith, hi)) ∙ framed.places (InRegister n) x good known
slot_place c numbers memory s u i v o small framed h value (Slot k) x good known = by_test (nat_eq k i) refl (nat_lt k i) refl known
  where
    at_k : number_at u.bytes (slot_at c k) 8 ≡ number_at (stored s.bytes (slot_at c i) 8 v) (slot_at c k) 8
    at_k = ap (λ (m : ℕ → ℕ). number_at m (slot_at c k) 8) h.bytes

    by_test : (t : Bool) → nat_eq k i ≡ t → (d : Bool) → nat_lt k i ≡ d → (if t then o else numbers (Slot k)) ≡ Some x
        → number_at u.bytes (slot_at c k) 8 ≡ x
    by_test true e d f is =
        at_k ∙ (ap (λ j. number_at (stored s.bytes (slot_at c i) 8 v) (slot_at c j) 8) (eqb-true k i e)
        ∙ (read_back s.bytes (slot_at c i) 8 v small ∙ value x is))
    by_test false e true f is =
        let less : k < i = grind (arith, nat_tests) in
        at_k ∙ (read_below s.bytes (slot_at c i) 8 v (slot_at c k) 8 (omega (arith, less)) ∙ framed.places (Slot k) x good is)
    by_test false e false f is =
        let differs = eqb-false k i e in
        let le : i ≤ k = grind (arith, nat_tests) in
        let less : i < k = omega (arith, le, differs) in
        at_k ∙ (read_above s.bytes (slot_at c i) 8 v (slot_at c k) 8 (omega (arith, less)) ∙ framed.places (Slot k) x good is)

-- a slot beyond those that there are stays unset
pub beyond : (slots i k : ℕ) (o : Option ℕ) (numbers : Numbers) → i < slots → slots ≤ k → numbers (Slot k) ≡ None → put (Slot i) o numbers (Slot k) ≡ None
beyond slots i k o numbers few far e = by_test (nat_eq k i) refl
  where
    by_test : (t : Bool) → nat_eq k i ≡ t → (if t then o else numbers (Slot k)) ≡ None
    by_test true d = let same = eqb-true k i d in absurd (let no : ⊥ = omega (arith, same, few, far) in no)
    by_test false d = e

slot_assigned : (c : Setting) → IsSetting c → (numbers : Numbers) (memory : Spots) (s u : State) (i v : ℕ) (o : Option ℕ) → v < 2 ^ 64 → i < c.slots
    → Framed c numbers memory s → OnStack s (slot_at c i) v u → ((x : ℕ) → o ≡ Some x → v ≡ x) → Framed c (put (Slot i) o numbers) memory u
slot_assigned c is numbers memory s u i v o small few framed h value =
    let fits = is.fits in
    let above = is.above in
    let saves = is.saves_fit in
    record {
      pointer = h.registers 2 (lit< tt) ∙ framed.pointer;
      places = slot_place c numbers memory s u i v o small framed h value;
      spots = record { known = slot_spots c is numbers memory s u i v few framed h; usable = framed.spots.usable };
      clear = framed.clear;
      reach = framed.reach;
      saved = λ k q e.
          let few_saves : k < length c.saved = slice_get_within c.saved k q e in
          ap (λ (m : ℕ → ℕ). number_at m (save_at c k) 8) h.bytes
          ∙ (read_below s.bytes (slot_at c i) 8 v (save_at c k) 8 (omega (arith, few_saves, saves)) ∙ framed.saved k q e);
      thread = λ n kept other out. h.registers n (held_below n kept) ∙ framed.thread n kept other out;
      others = λ x high away.
          ap (λ (m : ℕ → ℕ). m x) h.bytes
          ∙ (stored_above s.bytes (slot_at c i) 8 v x (omega (arith, high, fits, above, few)) ∙ framed.others x high away);
      unset = λ k far. beyond c.slots i k o numbers few far (framed.unset k far);
    }

pub assigned : (c : Setting) → IsSetting c → (numbers : Numbers) (memory : Spots) (s u : State) (p : Location) (v : ℕ) (o : Option ℕ)
    → is_place c.slots p ≡ true → MayWrite c.saved p → Framed c numbers memory s → Assigned c s p v u → ((x : ℕ) → o ≡ Some x → v ≡ x)
    → Framed c (put p o numbers) memory u
assigned c is numbers memory s u (InRegister r) v o good may framed h value =
    register_assigned c numbers memory s u r v o framed (place_is c.slots r good) may h value
assigned c is numbers memory s u (Slot i) v o good may framed h value =
    slot_assigned c is numbers memory s u i v o h.small (slot_is c.slots i good) framed h value
