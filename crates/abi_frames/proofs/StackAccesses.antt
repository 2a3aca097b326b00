-- What loads and stores do, of eight bytes of the stack above all.
use Rattle.std.proofs.Common.{◌≡◌, ◌≢◌, ℕ, ◌+◌, ◌-◌, ◌%◌, ◌^◌, ◌<◌, ◌≤◌, Bool, true, false, [], ◌∷◌, refl, sym, ◌∙◌, ap, subst, arith, lit<, nat_le, nat_lt, if◌then◌else◌, Ok}
use Rattle.abi_frames.proofs.Shared.{State, Immediate, LoadOp, Plain, and_from, nat_tests, number_at, stored, moved, low}
use Rattle.rv_isa.specs.Prelude.{register, put, each_of, allowed, can_read, can_write, upper_value, act, load, load_size, load_value, store, Ground, Fixed}
use Rattle.rv_isa.specs.declared.permission.Permission.{Permission}
use Rattle.rv_isa.specs.declared.instruction.Instr.TheVariants.{Lui, Load, Store}
use Rattle.rv_isa.specs.declared.instruction.LoadOp.TheVariants.{Lb, Lh, Lw, Ld, Lbu, Lhu, Lwu}
use Rattle.rv_isa.specs.declared.instruction.StoreOp.TheVariants.{Sd}
use Rattle.rv_isa.proofs.MemoryLemmas.{each_from, stored_avoids}
use Rattle.abi_frames.specs.Performs.{IsUsable}
use Rattle.operation_code.specs.Constants.{reg, high, sum_to, load_8, store_8}
use Rattle.abi_frames.specs.Emission.{far_load, load_slot, far_store, store_slot}
use Rattle.operation_code.proofs.ConstantNumbers.{near_moves, far_moves}
use Rattle.operation_code.proofs.Instructions.{leads_lui, leads_sum}
use Rattle.operation_code.proofs.Leading.{Site, Leads, leads_by, leads_set, leads_again, Sets, IsReg, register_reg, in_register, same_in_register}
use Rattle.abi_frames.proofs.Leads.{leads_on, leads_as}

-- ---- memory

-- n addresses whose bytes can be read and written
abbrev pub UsableFrom : Ground → (a n : ℕ) → Type 0
UsableFrom g a n = (x : ℕ) → a ≤ x → x < a + n → IsUsable g x

all_readable : (g : Ground) (a : ℕ) → UsableFrom g a 8 → allowed (λ x. (g.allows x).readable) a 8 ≡ true
all_readable g a usable =
    let last = (usable (a + 7) (omega arith) (omega arith)).small in
    and_from (nat_le (a + 8) (2 ^ 64)) (each_of (λ x. (g.allows x).readable) a 8) (grind (arith, nat_tests))
    (each_from (λ x. (g.allows x).readable) a 8 (λ x lo hi. (usable x lo hi).readable))

all_writable : (g : Ground) (a : ℕ) → UsableFrom g a 8 → allowed (λ x. (g.allows x).writable) a 8 ≡ true
all_writable g a usable =
    let last = (usable (a + 7) (omega arith) (omega arith)).small in
    and_from (nat_le (a + 8) (2 ^ 64)) (each_of (λ x. (g.allows x).writable) a 8) (grind (arith, nat_tests))
    (each_from (λ x. (g.allows x).writable) a 8 (λ x lo hi. (usable x lo hi).writable))

pub leads_load : (c : Site) (s : State) (d base o a : ℕ) → IsReg d → IsReg base → Fixed c.ground s → moved (s.registers base) (low o).value ≡ a
    → UsableFrom c.ground a 8 → Leads c (load_8 d base o ∷ []) s (Sets s d (number_at s.bytes a 8))
leads_load c s d base o a is is_base fixed there usable =
    let P : (ℕ → Permission) → Type 0 = λ p. allowed (λ x. (p x).readable) a 8 ≡ true in
    let readable : can_read s a 8 ≡ true = subst P (sym fixed.permissions) (all_readable c.ground a usable) in
    let at : moved (register s (reg base)) (low o).value ≡ a = ap (λ x. moved x (low o).value) (register_reg s base is_base) ∙ there in
    let acts : act (Load Ld (reg d) (reg base) (low o)) s ≡ Ok (put s (reg d) (number_at s.bytes a 8)) =
    ap (load s Ld (reg d)) at ∙ (rw readable refl) in
    leads_set c s (Load Ld (reg d) (reg base) (low o)) d (number_at s.bytes a 8) (number_at s.bytes a 8) is acts refl

pub some_bytes : (op : LoadOp) → 0 < load_size op
some_bytes Lb = lit< tt
some_bytes Lh = lit< tt
some_bytes Lw = lit< tt
some_bytes Ld = lit< tt
some_bytes Lbu = lit< tt
some_bytes Lhu = lit< tt
some_bytes Lwu = lit< tt

pub n_readable : (g : Ground) (a n : ℕ) → 0 < n → UsableFrom g a n → allowed (λ x. (g.allows x).readable) a n ≡ true
n_readable g a n some usable =
    let last = (usable (a + (n - 1)) (omega arith) (omega (arith, some))).small in
    let whole : a + n ≤ 2 ^ 64 = omega (arith, last, some) in
    and_from (nat_le (a + n) (2 ^ 64)) (each_of (λ x. (g.allows x).readable) a n) (grind (arith, nat_tests))
    (each_from (λ x. (g.allows x).readable) a n (λ x lo hi. (usable x lo hi).readable))

pub same_address : (a : ℕ) → a < 2 ^ 64 → moved a (low 0).value ≡ a
same_address a h = near_moves a 0 (lit< tt) ∙ omega (arith, h)

-- a load of any size, at an offset from a register
pub leads_load_at : (c : Site) (s : State) (op : LoadOp) (d base : ℕ) (offset : Immediate) (a : ℕ) → IsReg d → Fixed c.ground s
    → moved (in_register s base) offset.value ≡ a → UsableFrom c.ground a (load_size op)
    → Leads c (Plain (Load op (reg d) (reg base) offset) ∷ []) s (Sets s d (load_value op (number_at s.bytes a (load_size op))))
leads_load_at c s op d base offset a is fixed there usable =
    let n : ℕ = load_size op in
    let v : ℕ = load_value op (number_at s.bytes a n) in
    let P : (ℕ → Permission) → Type 0 = λ p. allowed (λ x. (p x).readable) a n ≡ true in
    let readable : can_read s a n ≡ true = subst P (sym fixed.permissions) (n_readable c.ground a n (some_bytes op) usable) in
    let acts : act (Load op (reg d) (reg base) offset) s ≡ Ok (put s (reg d) v) = ap (load s op (reg d)) there ∙ (rw readable refl) in
    leads_set c s (Load op (reg d) (reg base) offset) d v v is acts refl

-- eight bytes at `a` are those of v; of the registers only x29 may have changed
pub record Writes (s : State) (a v : ℕ) (u : State) : Type 0 where
  pub bytes : u.bytes ≡ stored s.bytes a 8 v
  pub registers : (n : ℕ) → n ≢ 29 → u.registers n ≡ s.registers n
  pub output : u.output ≡ s.output

pub leads_store_in : (c : Site) (s : State) (v base o a : ℕ) → IsReg base → Fixed c.ground s → moved (s.registers base) (low o).value ≡ a
    → UsableFrom c.ground a 8 → Leads c (store_8 v base o ∷ []) s (Writes s a (in_register s v))
leads_store_in c s v base o a is_base fixed there usable =
    let x : ℕ = in_register s v in
    let P : (ℕ → Permission) → Type 0 = λ p. allowed (λ x. (p x).writable) a 8 ≡ true in
    let writable : can_write s a 8 ≡ true = subst P (sym fixed.permissions) (all_writable c.ground a usable) in
    let at : moved (register s (reg base)) (low o).value ≡ a = ap (λ x. moved x (low o).value) (register_reg s base is_base) ∙ there in
    let t : State = record s { pc = (s.pc + 4) % 2 ^ 64; bytes = stored s.bytes a 8 x } in
    let acts : act (Store Sd (reg base) (reg v) (low o)) s ≡ Ok t = ap (store s Sd x) at ∙ (rw writable refl) in
    let p : ℕ → Bool = λ x. (c.ground.allows x).writable in
    let each : each_of p a 8 ≡ true = each_from p a 8 (λ x lo hi. (usable x lo hi).writable) in
    leads_by c s t (Store Sd (reg base) (reg v) (low o)) (Writes s a x) acts refl refl
    (λ y h. stored_avoids p s.bytes a 8 x y each h)
    (record { bytes = refl; registers = λ n other. refl; output = refl })

pub leads_store : (c : Site) (s : State) (v base o a : ℕ) → IsReg v → IsReg base → Fixed c.ground s → moved (s.registers base) (low o).value ≡ a
    → UsableFrom c.ground a 8 → Leads c (store_8 v base o ∷ []) s (Writes s a (s.registers v))
leads_store c s v base o a is is_base fixed there usable =
    subst (λ x. Leads c (store_8 v base o ∷ []) s (Writes s a x)) (register_reg s v is) (leads_store_in c s v base o a is_base fixed there usable)

-- ---- eight bytes at an offset from the stack pointer

pub is_2 : IsReg 2
is_2 = record { some = lit< tt; small = lit< tt }

pub is_10 : IsReg 10
is_10 = record { some = lit< tt; small = lit< tt }

pub is_28 : IsReg 28
is_28 = record { some = lit< tt; small = lit< tt }

pub is_29 : IsReg 29
is_29 = record { some = lit< tt; small = lit< tt }

pub near_address : (x b o : ℕ) → x ≡ b → o < 2048 → b + o < 2 ^ 63 → moved x (low o).value ≡ b + o
near_address x b o e h small = near_moves x o h ∙ omega (arith, e)

pub far_address : (x b o : ℕ) → x ≡ (upper_value (high o) + b) % 2 ^ 64 → o < 2 ^ 21 → b + o < 2 ^ 63 → moved x (low o).value ≡ b + o
far_address x b o e h small = ap (λ y. moved y (low o).value) e ∙ far_moves b o h (omega arith)

-- the upper part of an offset, and the stack pointer
pub high_part : (c : Site) (s : State) (d b o : ℕ) → IsReg d → d ≢ 2 → s.registers 2 ≡ b
    → Leads c (Plain (Lui (reg d) (high o)) ∷ sum_to d d 2 ∷ []) s (Sets s d ((upper_value (high o) + b) % 2 ^ 64))
high_part c s d b o is other pointer =
    leads_again c (Plain (Lui (reg d) (high o)) ∷ []) (sum_to d d 2 ∷ []) s d (upper_value (high o)) ((upper_value (high o) + b) % 2 ^ 64)
    (leads_lui c s d (high o) is)
    (λ u fixed one.
    leads_as (leads_sum c u d d 2 is is is_2)
    (λ t f two.
    let first = one.value in
    let second : u.registers 2 ≡ b = one.others 2 (λ e. other (sym e)) ∙ pointer in
    let third = two.value in
    record {
      value = third ∙ (ap (λ x. (x + u.registers 2) % 2 ^ 64) first ∙ ap (λ x. (upper_value (high o) + x) % 2 ^ 64) second);
      others = two.others;
      bytes = two.bytes;
      output = two.output;
    }))

pub leads_load_slot : (c : Site) (s : State) (d b o : ℕ) → IsReg d → d ≢ 2 → Fixed c.ground s → s.registers 2 ≡ b → o < 2 ^ 21 → b + o < 2 ^ 63
    → UsableFrom c.ground (b + o) 8 → Leads c (load_slot d o) s (Sets s d (number_at s.bytes (b + o) 8))
leads_load_slot c s d b o is other fixed pointer h small usable = by_test (nat_lt o 2048) refl
  where
    by_test : (t : Bool) → nat_lt o 2048 ≡ t → Leads c (if t then load_8 d 2 o ∷ [] else far_load d o) s (Sets s d (number_at s.bytes (b + o) 8))
    by_test true e =
        leads_load c s d 2 o (b + o) is is_2 fixed (near_address (s.registers 2) b o pointer (grind (arith, nat_tests)) small) usable
    by_test false e =
        leads_again c (Plain (Lui (reg d) (high o)) ∷ sum_to d d 2 ∷ []) (load_8 d d o ∷ []) s d ((upper_value (high o) + b) % 2 ^ 64)
        (number_at s.bytes (b + o) 8) (high_part c s d b o is other pointer)
        (λ u f one.
        leads_as (leads_load c u d d o (b + o) is is f (far_address (u.registers d) b o one.value h small) usable)
        (λ t g two. record {
          value = two.value ∙ ap (λ (m : ℕ → ℕ). number_at m (b + o) 8) one.bytes;
          others = two.others;
          bytes = two.bytes;
          output = two.output;
        }))

pub leads_store_slot_in : (c : Site) (s : State) (v b o : ℕ) → v < 32 → v ≢ 29 → Fixed c.ground s → s.registers 2 ≡ b → o < 2 ^ 21 → b + o < 2 ^ 63
    → UsableFrom c.ground (b + o) 8 → Leads c (store_slot v o) s (Writes s (b + o) (in_register s v))
leads_store_slot_in c s v b o few other fixed pointer h small usable = by_test (nat_lt o 2048) refl
  where
    by_test : (t : Bool) → nat_lt o 2048 ≡ t → Leads c (if t then store_8 v 2 o ∷ [] else far_store v o) s (Writes s (b + o) (in_register s v))
    by_test true e =
        leads_store_in c s v 2 o (b + o) is_2 fixed (near_address (s.registers 2) b o pointer (grind (arith, nat_tests)) small) usable
    by_test false e =
        leads_on (high_part c s 29 b o is_29 (λ e. absurd (omega (arith, e))) pointer)
        (λ u f one.
        leads_as (leads_store_in c u v 29 o (b + o) is_29 f (far_address (u.registers 29) b o one.value h small) usable)
        (λ t g two. record {
          bytes = two.bytes
              ∙ (ap (λ (m : ℕ → ℕ). stored m (b + o) 8 (in_register u v)) one.bytes
              ∙ ap (stored s.bytes (b + o) 8) (same_in_register s u v few (one.others v other)));
          registers = λ n differs. two.registers n differs ∙ one.others n differs;
          output = two.output ∙ one.output;
        }))

pub leads_store_slot : (c : Site) (s : State) (v b o : ℕ) → IsReg v → v ≢ 29 → Fixed c.ground s → s.registers 2 ≡ b → o < 2 ^ 21 → b + o < 2 ^ 63
    → UsableFrom c.ground (b + o) 8 → Leads c (store_slot v o) s (Writes s (b + o) (s.registers v))
leads_store_slot c s v b o is other fixed pointer h small usable =
    subst (λ x. Leads c (store_slot v o) s (Writes s (b + o) x)) (register_reg s v is)
    (leads_store_slot_in c s v b o is.small other fixed pointer h small usable)
