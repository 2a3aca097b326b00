-- What the code of operands and lines does.
use Rattle.std.proofs.Common.{◌≡◌, ◌≢◌, ℕ, ◌%◌, ◌^◌, ◌<◌, ◌≤◌, Bool, true, false, List, [], ◌∷◌, ◌++◌, refl, sym, ◌∙◌, ap, subst, arith, lit<, nat_eq, if◌then◌else◌, Option, Some, None}
use Rattle.abi_frames.proofs.Shared.{W, L, LoadOp, State, Immediate, Item, Location, InRegister, Slot, Operand, At, Number, Name, Operation, option_and_then, eqb-true, nat_tests, number_at, stored, moved, is_place, operand_keeps}
use Rattle.operation_code.proofs.Comparing.{leads_compare}
use Rattle.operation_code.proofs.FormNumbers.{same_word, word_is_small}
use Rattle.operation_code.proofs.Forms.{made, as_read, computed_is, IsFormOf, leads_form, nothing_given, number_form_is, left_form_is}
use Rattle.operation_code.specs.declared.immediate.Form.{Form}
use Rattle.operation_code.specs.Immediates.{swapped, right_form, left_form, form_items, operation_items}
use Rattle.rv_isa.specs.Prelude.{load_size, load_value, lower_part, Fixed}
use Rattle.rv_isa.specs.declared.relocation.Partial.TheVariants.{Load as LoadBy}
use Rattle.vcode.specs.declared.place.Address.{Address}
use Rattle.vcode.specs.declared.line.Operation.TheVariants.{Reg as RegOperation, RegW as RegWOperation, Compare}
use Rattle.flat_code.specs.Step.{computed}
use Rattle.operation_code.specs.Constants.{reg, add_low, extend, word, constant}
use Rattle.abi_frames.specs.Emission.{base_items, load_by, load_items, slot_offset, load_slot, store_slot, into, fetch, source, word_into, target, deliver, set_items, operand_into, operand_source, on_registers, by_form, operate_by, operate_items}
use Rattle.operation_code.proofs.ConstantNumbers.{near_moves, parts_made}
use Rattle.operation_code.proofs.Leading.{Leads, leads_nowhere, Sets, IsReg, register_reg, in_register, same_in_register, in_register_small}
use Rattle.abi_frames.proofs.Leads.{leads_on, leads_as, leads_where}
use Rattle.abi_frames.proofs.StackAccesses.{UsableFrom, leads_load_at, leads_load_slot, leads_store_slot_in, is_28, is_29}
use Rattle.operation_code.proofs.Instructions.{leads_extend, leads_add_low, leads_reg, leads_regw, leads_constant, leads_named, leads_upper, leads_address}
use Rattle.abi_frames.proofs.Addressing.{IsBeyond, IsBased}
use Rattle.abi_frames.proofs.Activations.{Setting, IsSetting, site, bottom, slot_at, operand_in, IsPlace, place_is, place_reg, slot_is, slot_in_frame, InPlace, OnStack, Assigned}
use Rattle.il_ast.proofs.Wrapping.{same_low}

-- ---- operands

-- the operand's value is in the register d, or in its own, or in x0; of the registers only d has changed
pub record Fetched (c : Setting) (s : State) (d : ℕ) (a : Operand Location) (u : State) : Type 0 where
  pub value : in_register u (source d a) ≡ operand_in c s a
  pub others : (n : ℕ) → n ≢ d → u.registers n ≡ s.registers n
  pub bytes : u.bytes ≡ s.bytes
  pub output : u.output ≡ s.output

leads_slot : (c : Setting) → IsSetting c → (s : State) (d i : ℕ) → IsReg d → d ≢ 2 → s.registers 2 ≡ bottom c → is_place c.slots (Slot i) ≡ true
    → Leads (site c) (load_slot d (slot_offset c.layout i)) s (Sets s d (number_at s.bytes (slot_at c i) 8))
leads_slot c is s d i reg other pointer good =
    let inside = slot_in_frame c is i (slot_is c.slots i good) in
    leads_where (λ fixed. leads_load_slot (site c) s d (bottom c) (slot_offset c.layout i) reg other fixed pointer inside.near inside.small inside.usable)

-- it is in the register d
fetched_in : (c : Setting) (s : State) (d v : ℕ) (a : Operand Location) (u : State) → IsReg d → source d a ≡ d → v ≡ operand_in c s a → Sets s d v u
    → Fetched c s d a u
fetched_in c s d v a u reg here is h = record {
  value = ap (in_register u) here ∙ (register_reg u d reg ∙ (h.value ∙ is));
  others = h.others;
  bytes = h.bytes;
  output = h.output;
}

pub leads_fetch : (c : Setting) → IsSetting c → (s : State) (d : ℕ) (a : Operand Location) → IsReg d → d ≢ 2 → s.registers 2 ≡ bottom c
    → operand_keeps (is_place c.slots) a ≡ true → Leads (site c) (fetch c.layout d a) s (Fetched c s d a)
leads_fetch c is s d (At (InRegister r)) reg other pointer good =
    leads_nowhere (site c) s (Fetched c s d (At (InRegister r)))
    (record { value = register_reg s r (place_reg r (place_is c.slots r good)); others = λ n h. refl; bytes = refl; output = refl })
leads_fetch c is s d (At (Slot i)) reg other pointer good =
    leads_as (leads_slot c is s d i reg other pointer good)
    (λ u f h. fetched_in c s d (number_at s.bytes (slot_at c i) 8) (At (Slot i)) u reg refl refl h)
leads_fetch c is s d (Number n) reg other pointer good = by_test (nat_eq n 0) refl
  where
    zero_is : nat_eq n 0 ≡ true → 0 ≡ n % 2 ^ 64
    zero_is e = grind (arith, nat_tests)

    by_test : (b : Bool) → nat_eq n 0 ≡ b → Leads (site c) (if b then [] else constant d n) s (Fetched c s d (Number n))
    by_test true e =
        let there : source d (Number n) ≡ 0 = ap (λ (t : Bool). if t then 0 else d) e in
        leads_nowhere (site c) s (Fetched c s d (Number n))
        (record { value = ap (in_register s) there ∙ zero_is e; others = λ m h. refl; bytes = refl; output = refl })
    by_test false e =
        let there : source d (Number n) ≡ d = ap (λ (t : Bool). if t then 0 else d) e in
        leads_as (leads_constant (site c) s d n reg)
        (λ u f h. fetched_in c s d (n % 2 ^ 64) (Number n) u reg there refl h)
leads_fetch c is s d (Name g) reg other pointer good =
    leads_as (leads_address (site c) s d g reg (is.near g))
    (λ u f h. fetched_in c s d (c.global g) (Name g) u reg refl refl h)

pub leads_into : (c : Setting) → IsSetting c → (s : State) (d : ℕ) (a : Operand Location) → IsReg d → d ≢ 2 → s.registers 2 ≡ bottom c
    → operand_keeps (is_place c.slots) a ≡ true → Leads (site c) (into c.layout d a) s (Sets s d (operand_in c s a))
leads_into c is s d (At (InRegister r)) reg other pointer good = by_test (nat_eq d r) refl
  where
    by_test : (b : Bool) → nat_eq d r ≡ b → Leads (site c) (if b then [] else add_low d r 0 ∷ []) s (Sets s d (s.registers r))
    by_test true e =
        leads_nowhere (site c) s (Sets s d (s.registers r)) (record { value = ap s.registers (eqb-true d r e); others = λ n h. refl; bytes = refl; output = refl })
    by_test false e =
        leads_where (λ fixed.
        leads_add_low (site c) s d r 0 (s.registers r) (s.registers r) reg (register_reg s r (place_reg r (place_is c.slots r good)))
        (near_moves (s.registers r) 0 (lit< tt) ∙ same_low (s.registers r) (fixed.words r)))
leads_into c is s d (At (Slot i)) reg other pointer good = leads_slot c is s d i reg other pointer good
leads_into c is s d (Number n) reg other pointer good = leads_constant (site c) s d n reg
leads_into c is s d (Name g) reg other pointer good = leads_address (site c) s d g reg (is.near g)

-- its low 32 bits, extended, are in the register d
extended_after : (c : Setting) → IsSetting c → (s : State) (d : ℕ) (a : Operand Location) → IsReg d → d ≢ 2 → s.registers 2 ≡ bottom c
    → operand_keeps (is_place c.slots) a ≡ true → Leads (site c) (fetch c.layout d a ++ (extend d (source d a) ∷ [])) s (Sets s d (word (operand_in c s a)))
extended_after c is s d a reg other pointer known =
    leads_on (leads_fetch c is s d a reg other pointer known)
    (λ u f one.
    leads_as (leads_extend (site c) u d (source d a) reg)
    (λ w g two. record {
      value = two.value ∙ ap word one.value;
      others = λ n differs. two.others n differs ∙ one.others n differs;
      bytes = two.bytes ∙ one.bytes;
      output = two.output ∙ one.output;
    }))

pub leads_word_into : (c : Setting) → IsSetting c → (s : State) (d : ℕ) (a : Operand Location) → IsReg d → d ≢ 2 → s.registers 2 ≡ bottom c
    → operand_keeps (is_place c.slots) a ≡ true → Leads (site c) (word_into c.layout d a) s (Sets s d (word (operand_in c s a)))
leads_word_into c is s d (At p) reg other pointer known = extended_after c is s d (At p) reg other pointer known
leads_word_into c is s d (Number n) reg other pointer known =
    subst (λ v. Leads (site c) (constant d (word n)) s (Sets s d v)) (word_is_small n ∙ sym (same_word n)) (leads_constant (site c) s d (word n) reg)
leads_word_into c is s d (Name g) reg other pointer known = extended_after c is s d (Name g) reg other pointer known

-- the register that has the operand
pub source_number : (d n : ℕ) (P : ℕ → Type 0) → P 0 → P d → P (source d (Number n))
source_number d n P none some = by_test (nat_eq n 0)
  where
    by_test : (b : Bool) → P (if b then 0 else d)
    by_test true = none
    by_test false = some

pub source_small : (slots d : ℕ) (a : Operand Location) → d < 32 → operand_keeps (is_place slots) a ≡ true → source d a < 32
source_small slots d (At (InRegister r)) h good = let hi = (place_is slots r good).to_27 in omega (arith, hi)
source_small slots d (At (Slot i)) h good = h
source_small slots d (Number n) h good = source_number d n (λ x. x < 32) (lit< tt) h
source_small slots d (Name g) h good = h

pub source_not_29 : (slots : ℕ) (a : Operand Location) → operand_keeps (is_place slots) a ≡ true → source 28 a ≢ 29
source_not_29 slots (At (InRegister r)) good e = let hi = (place_is slots r good).to_27 in absurd (omega (arith, e, hi))
source_not_29 slots (At (Slot i)) good e = absurd (omega (arith, e))
source_not_29 slots (Number n) good e = source_number 28 n (λ x. x ≢ 29) (λ d. absurd (omega (arith, d))) (λ d. absurd (omega (arith, d))) e
source_not_29 slots (Name g) good e = absurd (omega (arith, e))

-- ---- states that differ in scratch registers alone

pub record Scratched (s u : State) : Type 0 where
  pub registers : (n : ℕ) → n < 28 → u.registers n ≡ s.registers n
  pub bytes : u.bytes ≡ s.bytes
  pub output : u.output ≡ s.output

not_scratch : (d n : ℕ) → 28 ≤ d → n < 28 → n ≢ d
not_scratch d n h lo e = absurd (omega (arith, h, lo, e))

pub fetched_scratched : (c : Setting) (s : State) (d : ℕ) (a : Operand Location) (u : State) → 28 ≤ d → Fetched c s d a u → Scratched s u
fetched_scratched c s d a u h f = record { registers = λ n lo. f.others n (not_scratch d n h lo); bytes = f.bytes; output = f.output }

pub scratched_then : (s u w : State) → Scratched s u → Scratched u w → Scratched s w
scratched_then s u w one two = record {
  registers = λ n lo. two.registers n lo ∙ one.registers n lo;
  bytes = two.bytes ∙ one.bytes;
  output = two.output ∙ one.output;
}

pub operand_same : (c : Setting) (s u : State) (a : Operand Location) → operand_keeps (is_place c.slots) a ≡ true → Scratched s u
    → operand_in c u a ≡ operand_in c s a
operand_same c s u (At (InRegister r)) good h = let hi = (place_is c.slots r good).to_27 in h.registers r (omega (arith, hi))
operand_same c s u (At (Slot i)) good h = ap (λ (m : ℕ → ℕ). number_at m (slot_at c i) 8) h.bytes
operand_same c s u (Number n) good h = refl
operand_same c s u (Name g) good h = refl

assigned_from : (c : Setting) (s w : State) (p : Location) (v : ℕ) (u : State) → Scratched s w → Assigned c w p v u → Assigned c s p v u
assigned_from c s w (InRegister r) v u h a = record {
  value = a.value;
  others = λ n lo other. a.others n lo other ∙ h.registers n lo;
  bytes = a.bytes ∙ h.bytes;
  output = a.output ∙ h.output;
}
assigned_from c s w (Slot i) v u h a = record {
  small = a.small;
  bytes = a.bytes ∙ ap (λ (m : ℕ → ℕ). stored m (slot_at c i) 8 v) h.bytes;
  registers = λ n lo. a.registers n lo ∙ h.registers n lo;
  output = a.output ∙ h.output;
}

assigned_value : (c : Setting) (s : State) (p : Location) (v w : ℕ) (u : State) → v ≡ w → Assigned c s p v u → Assigned c s p w u
assigned_value c s p v w u e a = subst (λ x. Assigned c s p x u) e a

-- ---- a copy

store_from : (c : Setting) → IsSetting c → (s : State) (x i : ℕ) → x < 32 → x ≢ 29 → s.registers 2 ≡ bottom c → is_place c.slots (Slot i) ≡ true
    → Leads (site c) (store_slot x (slot_offset c.layout i)) s (OnStack s (slot_at c i) (in_register s x))
store_from c is s x i few other pointer good =
    let inside = slot_in_frame c is i (slot_is c.slots i good) in
    leads_where (λ fixed.
    leads_as (leads_store_slot_in (site c) s x (bottom c) (slot_offset c.layout i) few other fixed pointer inside.near inside.small inside.usable)
    (λ u f h. record {
      small = in_register_small c.world.memory_map s x fixed;
      bytes = h.bytes;
      registers = λ n lo. h.registers n (not_scratch 29 n (omega arith) lo);
      output = h.output;
    }))

pub set_register : (s : State) (r v : ℕ) (u : State) → Sets s r v u → InPlace s r v u
set_register s r v u h = record { value = h.value; others = λ n lo other. h.others n other; bytes = h.bytes; output = h.output }

pub place_not_2 : (r : ℕ) → IsPlace r → r ≢ 2
place_not_2 r is e = let lo = is.from_5 in absurd (omega (arith, e, lo))

pub leads_set_line : (c : Setting) → IsSetting c → (s : State) (to : Location) (a : Operand Location) → s.registers 2 ≡ bottom c
    → is_place c.slots to ≡ true → operand_keeps (is_place c.slots) a ≡ true
    → Leads (site c) (set_items c.layout to a) s (Assigned c s to (operand_in c s a))
leads_set_line c is s (InRegister r) a pointer good known =
    let place = place_is c.slots r good in
    leads_as (leads_into c is s r a (place_reg r place) (place_not_2 r place) pointer known)
    (λ u f h. set_register s r (operand_in c s a) u h)
leads_set_line c is s (Slot i) a pointer good known =
    leads_on (leads_fetch c is s 28 a is_28 (λ e. absurd (omega (arith, e))) pointer known)
    (λ u f one.
    let same = fetched_scratched c s 28 a u (omega arith) one in
    leads_as (store_from c is u (source 28 a) i (source_small c.slots 28 a (lit< tt) known) (source_not_29 c.slots a known) (same.registers 2 (lit< tt) ∙ pointer) good)
    (λ w g two.
    assigned_value c s (Slot i) (in_register u (source 28 a)) (operand_in c s a) w one.value
    (assigned_from c s u (Slot i) (in_register u (source 28 a)) w same two)))

-- ---- an operation

leads_operation : (c : Setting) (s : State) (op : Operation) (d a b : ℕ) → IsReg d
    → Leads (site c) (operation_items op d a b) s (Sets s d (made op (in_register s a) (in_register s b)))
leads_operation c s (RegOperation op) d a b is = leads_reg (site c) s op d a b is
leads_operation c s (RegWOperation op) d a b is = leads_regw (site c) s op d a b is
leads_operation c s (Compare on k) d a b is = leads_compare (site c) s on d a b is

-- the result in a register is brought to its place
pub leads_made : (c : Setting) → IsSetting c → (s : State) (is_made : ℕ → List Item) (v : ℕ) (to : Location) → s.registers 2 ≡ bottom c
    → is_place c.slots to ≡ true → ((d : ℕ) → IsReg d → d ≢ 2 → Leads (site c) (is_made d) s (InPlace s d v))
    → Leads (site c) (is_made (target to) ++ deliver c.layout to) s (Assigned c s to v)
leads_made c is s is_made v (InRegister r) pointer good made =
    let place = place_is c.slots r good in
    leads_on (made r (place_reg r place) (place_not_2 r place))
    (λ u f h. leads_nowhere (site c) u (InPlace s r v) h)
leads_made c is s is_made v (Slot i) pointer good made =
    leads_on (made 28 is_28 (λ e. absurd (omega (arith, e))))
    (λ u f one.
    let same : Scratched s u = record { registers = λ n lo. one.others n lo (not_scratch 28 n (omega arith) lo); bytes = one.bytes; output = one.output } in
    leads_as (subst (λ x. Leads (site c) (store_slot 28 (slot_offset c.layout i)) u (OnStack u (slot_at c i) x)) (register_reg u 28 is_28)
    (store_from c is u 28 i (lit< tt) (λ e. absurd (omega (arith, e))) (same.registers 2 (lit< tt) ∙ pointer) good))
    (λ w g two. assigned_value c s (Slot i) (u.registers 28) v w one.value (assigned_from c s u (Slot i) (u.registers 28) w same two)))

-- an operand of the operation is read; of the registers only d has changed
pub record ReadFor (c : Setting) (s : State) (op : Operation) (d : ℕ) (a : Operand Location) (u : State) : Type 0 where
  pub value : in_register u (operand_source op d a) ≡ as_read op (operand_in c s a)
  pub others : (n : ℕ) → n ≢ d → u.registers n ≡ s.registers n
  pub bytes : u.bytes ≡ s.bytes
  pub output : u.output ≡ s.output

fetched_for : (c : Setting) (s : State) (op : Operation) (d : ℕ) (a : Operand Location) (u : State) → operand_source op d a ≡ source d a
    → operand_in c s a ≡ as_read op (operand_in c s a) → Fetched c s d a u → ReadFor c s op d a u
fetched_for c s op d a u here same h =
    record { value = ap (in_register u) here ∙ (h.value ∙ same); others = h.others; bytes = h.bytes; output = h.output }

pub leads_read : (c : Setting) → IsSetting c → (s : State) (op : Operation) (d : ℕ) (a : Operand Location) → IsReg d → d ≢ 2 → s.registers 2 ≡ bottom c
    → operand_keeps (is_place c.slots) a ≡ true → Leads (site c) (operand_into c.layout op d a) s (ReadFor c s op d a)
leads_read c is s (RegOperation op) d a reg other pointer known =
    leads_as (leads_fetch c is s d a reg other pointer known)
    (λ u f h. fetched_for c s (RegOperation op) d a u refl refl h)
leads_read c is s (RegWOperation op) d a reg other pointer known =
    leads_as (leads_fetch c is s d a reg other pointer known)
    (λ u f h. fetched_for c s (RegWOperation op) d a u refl refl h)
leads_read c is s (Compare on L) d a reg other pointer known =
    leads_as (leads_fetch c is s d a reg other pointer known)
    (λ u f h. fetched_for c s (Compare on L) d a u refl refl h)
leads_read c is s (Compare on W) d (At p) reg other pointer known =
    leads_as (leads_word_into c is s d (At p) reg other pointer known)
    (λ u f h. record { value = register_reg u d reg ∙ h.value; others = h.others; bytes = h.bytes; output = h.output })
leads_read c is s (Compare on W) d (Number n) reg other pointer known =
    leads_as (leads_fetch c is s d (Number (word n)) reg other pointer refl)
    (λ u f h. record { value = h.value ∙ (word_is_small n ∙ sym (same_word n)); others = h.others; bytes = h.bytes; output = h.output })
leads_read c is s (Compare on W) d (Name g) reg other pointer known =
    leads_as (leads_word_into c is s d (Name g) reg other pointer known)
    (λ u f h. record { value = register_reg u d reg ∙ h.value; others = h.others; bytes = h.bytes; output = h.output })

pub read_scratched : (c : Setting) (s : State) (op : Operation) (d : ℕ) (a : Operand Location) (u : State) → 28 ≤ d → ReadFor c s op d a u → Scratched s u
read_scratched c s op d a u h f = record { registers = λ n lo. f.others n (not_scratch d n h lo); bytes = f.bytes; output = f.output }

pub read_small : (slots : ℕ) (op : Operation) (d : ℕ) (a : Operand Location) → d < 32 → operand_keeps (is_place slots) a ≡ true → operand_source op d a < 32
read_small slots (RegOperation op) d a h good = source_small slots d a h good
read_small slots (RegWOperation op) d a h good = source_small slots d a h good
read_small slots (Compare on L) d a h good = source_small slots d a h good
read_small slots (Compare on W) d (At p) h good = h
read_small slots (Compare on W) d (Number n) h good = source_small slots d (Number (word n)) h refl
read_small slots (Compare on W) d (Name g) h good = h

pub read_not_29 : (slots : ℕ) (op : Operation) (a : Operand Location) → operand_keeps (is_place slots) a ≡ true → operand_source op 28 a ≢ 29
read_not_29 slots (RegOperation op) a good = source_not_29 slots a good
read_not_29 slots (RegWOperation op) a good = source_not_29 slots a good
read_not_29 slots (Compare on L) a good = source_not_29 slots a good
read_not_29 slots (Compare on W) (At p) good = λ e. absurd (omega (arith, e))
read_not_29 slots (Compare on W) (Number n) good = source_not_29 slots (Number (word n)) refl
read_not_29 slots (Compare on W) (Name g) good = λ e. absurd (omega (arith, e))

-- the other operand is in the form
leads_by_form : (c : Setting) → IsSetting c → (s : State) (to : Location) (op : Operation) (a : Operand Location) (form : Form) (g : ℕ → ℕ) (v : ℕ)
    → s.registers 2 ≡ bottom c → is_place c.slots to ≡ true → operand_keeps (is_place c.slots) a ≡ true → IsFormOf g form
    → g (as_read op (operand_in c s a)) ≡ v → Leads (site c) (by_form c.layout to op a form) s (Assigned c s to v)
leads_by_form c is s to op a form g v pointer good known does value =
    let x : ℕ = operand_source op 28 a in
    leads_on (leads_read c is s op 28 a is_28 (λ e. absurd (omega (arith, e))) pointer known)
    (λ u f one.
    let same = read_scratched c s op 28 a u (omega arith) one in
    let w : ℕ = g (in_register u x) in
    leads_as (leads_made c is u (λ d. form_items form d x) w to (same.registers 2 (lit< tt) ∙ pointer) good
    (λ d reg other.
    leads_as (leads_form (site c) u g form d x reg does) (λ t h two. set_register u d w t two)))
    (λ t h two. assigned_value c s to w v t (ap g one.value ∙ value) (assigned_from c s u to w t same two)))

leads_on_registers : (c : Setting) → IsSetting c → (s : State) (to : Location) (op : Operation) (a b : Operand Location) → s.registers 2 ≡ bottom c
    → is_place c.slots to ≡ true → operand_keeps (is_place c.slots) a ≡ true → operand_keeps (is_place c.slots) b ≡ true
    → Leads (site c) (on_registers c.layout to op a b) s (Assigned c s to (computed op (operand_in c s a) (operand_in c s b)))
leads_on_registers c is s to op a b pointer good known_a known_b =
    let x = operand_source op 28 a in
    let y = operand_source op 29 b in
    let v : ℕ = computed op (operand_in c s a) (operand_in c s b) in
    leads_on (leads_read c is s op 28 a is_28 (λ e. absurd (omega (arith, e))) pointer known_a)
    (λ u f one.
    let same = read_scratched c s op 28 a u (omega arith) one in
    let pointer_u = same.registers 2 (lit< tt) ∙ pointer in
    leads_on (leads_read c is u op 29 b is_29 (λ e. absurd (omega (arith, e))) pointer_u known_b)
    (λ w g two.
    let same_w = read_scratched c u op 29 b w (omega arith) two in
    let all = scratched_then s u w same same_w in
    let left : in_register w x ≡ as_read op (operand_in c s a) =
    same_in_register u w x (read_small c.slots op 28 a (lit< tt) known_a) (two.others x (read_not_29 c.slots op a known_a)) ∙ one.value in
    let right : in_register w y ≡ as_read op (operand_in c s b) = two.value ∙ ap (as_read op) (operand_same c s u b known_b same) in
    let n : ℕ = made op (in_register w x) (in_register w y) in
    let is_v : n ≡ v =
    ap (λ m. made op m (in_register w y)) left
    ∙ (ap (made op (as_read op (operand_in c s a))) right ∙ computed_is op (operand_in c s a) (operand_in c s b)) in
    leads_as (leads_made c is w (λ d. operation_items op d x y) n to (same_w.registers 2 (lit< tt) ∙ pointer_u) good
    (λ d reg other.
    leads_as (leads_operation c w op d x y reg) (λ t h three. set_register w d n t three)))
    (λ t h three. assigned_value c s to n v t is_v (assigned_from c s w to n t all three))))

-- an operand that is no number gives no form
left_of_none : {X : Type 0} (op : Operation) (form : Form) (a : Operand Location) → ((o : Operation) → right_form o a ≡ None) → left_form op a ≡ Some form → X
left_of_none {X} op form a none e = by_swapped (swapped op) e
  where
    by_swapped : (o : Option Operation) → option_and_then (λ q. right_form q a) o ≡ Some form → X
    by_swapped None e = nothing_given form e
    by_swapped (Some q) e = nothing_given form (sym (none q) ∙ e)

pub leads_operate_line : (c : Setting) → IsSetting c → (s : State) (to : Location) (op : Operation) (a b : Operand Location) → s.registers 2 ≡ bottom c
    → is_place c.slots to ≡ true → operand_keeps (is_place c.slots) a ≡ true → operand_keeps (is_place c.slots) b ≡ true
    → Leads (site c) (operate_items c.layout to op a b) s (Assigned c s to (computed op (operand_in c s a) (operand_in c s b)))
leads_operate_line c is s to op a b pointer good known_a known_b = by_forms (right_form op b) refl (left_form op a) refl
  where
    v : ℕ
    v = computed op (operand_in c s a) (operand_in c s b)

    by_right : (form : Form) (x : Operand Location) → right_form op x ≡ Some form
        → Leads (site c) (by_form c.layout to op a form) s (Assigned c s to (computed op (operand_in c s a) (operand_in c s x)))
    by_right form (Number n) e =
        leads_by_form c is s to op a form (λ x. made op x (as_read op (n % 2 ^ 64))) (computed op (operand_in c s a) (n % 2 ^ 64)) pointer good known_a
        (number_form_is op n form e) (computed_is op (operand_in c s a) (n % 2 ^ 64))
    by_right form (At p) e = nothing_given form e
    by_right form (Name g) e = nothing_given form e

    by_left : (form : Form) (x : Operand Location) → left_form op x ≡ Some form
        → Leads (site c) (by_form c.layout to op b form) s (Assigned c s to (computed op (operand_in c s x) (operand_in c s b)))
    by_left form (Number n) e =
        leads_by_form c is s to op b form (λ x. made op (as_read op (n % 2 ^ 64)) x) (computed op (n % 2 ^ 64) (operand_in c s b)) pointer good known_b
        (left_form_is op n form e) (computed_is op (n % 2 ^ 64) (operand_in c s b))
    by_left form (At p) e = left_of_none op form (At p) (λ o. refl) e
    by_left form (Name g) e = left_of_none op form (Name g) (λ o. refl) e

    by_forms : (right : Option Form) → right_form op b ≡ right → (left : Option Form) → left_form op a ≡ left
        → Leads (site c) (operate_by c.layout to op a b right left) s (Assigned c s to v)
    by_forms (Some form) e left d = by_right form b e
    by_forms None e (Some form) d = by_left form a d
    by_forms None e None d = leads_on_registers c is s to op a b pointer good known_a known_b

-- ---- the base of an access

-- what is left to add to it
abbrev pub offset_left : Setting → Operand Location → Immediate → Immediate
offset_left c (Name g) o = lower_part (moved (c.global g) o.value)
offset_left c a o = o

-- from the base, in a register, this leads to p
pub record Aimed (c : Setting) (s : State) (d : ℕ) (a : Operand Location) (o : Immediate) (p : ℕ) (u : State) : Type 0 where
  pub there : moved (in_register u (source d a)) (offset_left c a o).value ≡ p
  pub others : (n : ℕ) → n ≢ d → u.registers n ≡ s.registers n
  pub bytes : u.bytes ≡ s.bytes
  pub output : u.output ≡ s.output

pub aimed_scratched : (c : Setting) (s : State) (d : ℕ) (a : Operand Location) (o : Immediate) (p : ℕ) (u : State) → 28 ≤ d → Aimed c s d a o p u → Scratched s u
aimed_scratched c s d a o p u h f = record { registers = λ n lo. f.others n (not_scratch d n h lo); bytes = f.bytes; output = f.output }

fetched_aims : (c : Setting) → IsSetting c → (s : State) (d : ℕ) (a : Operand Location) (o : Immediate) (p : ℕ) → IsReg d → d ≢ 2 → s.registers 2 ≡ bottom c
    → operand_keeps (is_place c.slots) a ≡ true → IsBeyond c s a o p → offset_left c a o ≡ o → Leads (site c) (fetch c.layout d a) s (Aimed c s d a o p)
fetched_aims c is s d a o p is_reg other pointer good based left =
    leads_as (leads_fetch c is s d a is_reg other pointer good)
    (λ u f h. record {
      there = ap (λ (i : Immediate). moved (in_register u (source d a)) i.value) left
          ∙ based (in_register u (source d a)) h.value (in_register_small c.world.memory_map u (source d a) f);
      others = h.others;
      bytes = h.bytes;
      output = h.output;
    })

pub leads_base : (c : Setting) → IsSetting c → (s : State) (d : ℕ) (a : Operand Location) (o : Immediate) (p : ℕ) → IsReg d → d ≢ 2 → s.registers 2 ≡ bottom c
    → operand_keeps (is_place c.slots) a ≡ true → IsBeyond c s a o p → Leads (site c) (base_items c.layout d a o) s (Aimed c s d a o p)
leads_base c is s d (At q) o p is_reg other pointer good based = fetched_aims c is s d (At q) o p is_reg other pointer good based refl
leads_base c is s d (Number n) o p is_reg other pointer good based = fetched_aims c is s d (Number n) o p is_reg other pointer good based refl
leads_base c is s d (Name g) o p is_reg other pointer good based =
    let near = is.near g in
    let n : ℕ = moved (c.global g) o.value in
    leads_as (leads_upper (site c) s d g o is_reg)
    (λ u f h. record {
      there = ap (λ x. moved x (lower_part n).value) (register_reg u d is_reg ∙ h.value)
          ∙ (parts_made (c.global g) o.value o.in_range near ∙ based (c.global g) refl (omega (arith, near)));
      others = h.others;
      bytes = h.bytes;
      output = h.output;
    })

-- ---- a load

leads_load_by : (c : Setting) (u : State) (op : LoadOp) (d : ℕ) (a : Operand Location) (o : Immediate) (x : ℕ) → IsReg d → Fixed c.world.memory_map u
    → moved (in_register u (source 28 a)) (offset_left c a o).value ≡ x → UsableFrom c.world.memory_map x (load_size op)
    → Leads (site c) (load_by op d a o ∷ []) u (Sets u d (load_value op (number_at u.bytes x (load_size op))))
leads_load_by c u op d (At q) o x is_reg f there usable = leads_load_at (site c) u op d (source 28 (At q)) o x is_reg f there usable
leads_load_by c u op d (Number n) o x is_reg f there usable = leads_load_at (site c) u op d (source 28 (Number n)) o x is_reg f there usable
leads_load_by c u op d (Name g) o x is_reg f there usable =
    leads_named (site c) u (record { instruction = LoadBy op (reg d) (reg 28); global = g; offset = o })
    (Sets u d (load_value op (number_at u.bytes x (load_size op))))
    (leads_load_at (site c) u op d 28 (lower_part (moved (c.global g) o.value)) x is_reg f there usable)

pub leads_load_line : (c : Setting) → IsSetting c → (s : State) (to : Location) (op : LoadOp) (at : Address Location) (x : ℕ) → s.registers 2 ≡ bottom c
    → is_place c.slots to ≡ true → operand_keeps (is_place c.slots) at.base ≡ true → IsBased c s at x → UsableFrom c.world.memory_map x (load_size op)
    → Leads (site c) (load_items c.layout to op at) s (Assigned c s to (load_value op (number_at s.bytes x (load_size op))))
leads_load_line c is s to op at x pointer good known based usable =
    let n : ℕ = load_size op in
    let a : Operand Location = at.base in
    let o : Immediate = at.offset in
    let v : ℕ = load_value op (number_at s.bytes x n) in
    leads_on (leads_base c is s 28 a o x is_28 (λ e. absurd (omega (arith, e))) pointer known based)
    (λ u f one.
    let same = aimed_scratched c s 28 a o x u (omega arith) one in
    let w : ℕ = load_value op (number_at u.bytes x n) in
    let value : w ≡ v = ap (λ (m : ℕ → ℕ). load_value op (number_at m x n)) one.bytes in
    leads_as (leads_made c is u (λ d. load_by op d a o ∷ []) w to (same.registers 2 (lit< tt) ∙ pointer) good
    (λ d is_reg other.
    leads_as (leads_load_by c u op d a o x is_reg f one.there usable)
    (λ t h two. set_register u d w t two)))
    (λ t h two. assigned_value c s to w v t value (assigned_from c s u to w t same two)))
