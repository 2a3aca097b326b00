-- What each instruction of a frame's code does, and a few together: sums, constants, eight bytes of the stack.
use Rattle.std.proofs.Common.{◌≡◌, ℕ, zero, suc, ◌+◌, ◌-◌, ◌*◌, ◌/◌, ◌%◌, ◌^◌, ◌<◌, Bool, true, false, [], ◌∷◌, ◌++◌, refl, ◌∙◌, ap, subst, arith, lit<, mod-lt, ◌&&◌, ◌||◌, nat_eq, nat_lt, if◌then◌else◌}
use Rattle.std.proofs.lemmas.Bool.{and_parts, eqb-true}
use Rattle.std.proofs.lemmas.Bool.Decides.{nat_tests}
use Rattle.bits.specs.Words.{sign_extended}
use Rattle.rv_isa.specs.Prelude.{State, register, moved, upper_value, reg_value, regw_value, imm_value, addiw_value, shift_value, shiftw_value, Stand, Stands, upper_part, lower_part as rest_part, relocated, signed}
use Rattle.rv_isa.specs.declared.ranges.Immediate.{Immediate}
use Rattle.rv_isa.specs.declared.ranges.UpperField.{UpperField}
use Rattle.rv_isa.specs.declared.instruction.Instr.TheVariants.{Lui, Imm, Addiw, Shift, ShiftW, Reg, RegW}
use Rattle.rv_isa.specs.declared.instruction.ImmOp.{ImmOp}
use Rattle.rv_isa.specs.declared.instruction.ImmOp.TheVariants.{Addi}
use Rattle.rv_isa.specs.declared.instruction.ShiftOp.{ShiftOp}
use Rattle.rv_isa.specs.declared.instruction.ShiftOp.TheVariants.{Slli, Srli}
use Rattle.rv_isa.specs.declared.instruction.ShiftWOp.{ShiftWOp}
use Rattle.rv_isa.specs.declared.instruction.RegOp.{RegOp}
use Rattle.rv_isa.specs.declared.instruction.RegOp.TheVariants.{Add}
use Rattle.rv_isa.specs.declared.instruction.RegWOp.{RegWOp}
use Rattle.rv_isa.specs.declared.labelled.Item.{Item}
use Rattle.rv_isa.specs.declared.labelled.Item.TheVariants.{Plain, Relocated}
use Rattle.rv_isa.specs.declared.relocation.Partial.TheVariants.{Upper, Add as AddBy}
use Rattle.rv_isa.specs.declared.relocation.Relocation.{Relocation}
use Rattle.vcode.specs.Prelude.{is_immediate, low}
use Rattle.operation_code.specs.Constants.{reg, field, high, amount, word_amount, add_low, extend, sum_to, shift_11, parted_constant, without_low, zeros_of, has_zeros, before_zeros, left_of, is_shifted, is_near_number, near_constant, is_made, added, shifted_by, made_constant, long_constant, word, is_word, lower_part, word_constant, constant, with_name, name_into}
use Rattle.operation_code.proofs.ConstantNumbers.{low_moves, immediate_is, near_moves, top_bits, part_1, part_2, part_3, part_4, word_made, upper_made, parts_made}
use Rattle.operation_code.proofs.Leading.{Site, Leads, leads_nowhere, leads_so, leads_set, leads_again, Sets, IsReg, register_reg, in_register}

-- ---- registers alone

pub leads_lui : (c : Site) (s : State) (d : ℕ) (f : UpperField) → IsReg d → Leads c (Plain (Lui (reg d) f) ∷ []) s (Sets s d (upper_value f))
leads_lui c s d f is = leads_set c s (Lui (reg d) f) d (upper_value f) (upper_value f) is refl refl

-- a sum with the low part of n
pub leads_add_low : (c : Site) (s : State) (d a n x v : ℕ) → IsReg d → register s (reg a) ≡ x → moved x (low n).value ≡ v
    → Leads c (add_low d a n ∷ []) s (Sets s d v)
leads_add_low c s d a n x v is held value =
    leads_set c s (Imm Addi (reg d) (reg a) (low n)) d (moved (register s (reg a)) (low n).value) v is refl
    (ap (λ y. moved y (low n).value) held ∙ value)

pub leads_reg : (c : Site) (s : State) (op : RegOp) (d a b : ℕ) → IsReg d
    → Leads c (Plain (Reg op (reg d) (reg a) (reg b)) ∷ []) s (Sets s d (reg_value op (in_register s a) (in_register s b)))
leads_reg c s op d a b is =
    leads_set c s (Reg op (reg d) (reg a) (reg b)) d (reg_value op (in_register s a) (in_register s b)) (reg_value op (in_register s a) (in_register s b)) is refl refl

pub leads_regw : (c : Site) (s : State) (op : RegWOp) (d a b : ℕ) → IsReg d
    → Leads c (Plain (RegW op (reg d) (reg a) (reg b)) ∷ []) s (Sets s d (regw_value op (in_register s a) (in_register s b)))
leads_regw c s op d a b is =
    leads_set c s (RegW op (reg d) (reg a) (reg b)) d (regw_value op (in_register s a) (in_register s b)) (regw_value op (in_register s a) (in_register s b)) is refl refl

pub leads_imm : (c : Site) (s : State) (op : ImmOp) (d a n : ℕ) → IsReg d
    → Leads c (Plain (Imm op (reg d) (reg a) (low n)) ∷ []) s (Sets s d (imm_value op (in_register s a) (low n).value))
leads_imm c s op d a n is =
    leads_set c s (Imm op (reg d) (reg a) (low n)) d (imm_value op (in_register s a) (low n).value) (imm_value op (in_register s a) (low n).value) is refl refl

pub leads_add_word : (c : Site) (s : State) (d a n : ℕ) → IsReg d
    → Leads c (Plain (Addiw (reg d) (reg a) (low n)) ∷ []) s (Sets s d (addiw_value (in_register s a) (low n).value))
leads_add_word c s d a n is =
    leads_set c s (Addiw (reg d) (reg a) (low n)) d (addiw_value (in_register s a) (low n).value) (addiw_value (in_register s a) (low n).value) is refl refl

pub leads_shift : (c : Site) (s : State) (op : ShiftOp) (d a n : ℕ) → IsReg d
    → Leads c (Plain (Shift op (reg d) (reg a) (amount n)) ∷ []) s (Sets s d (shift_value op (in_register s a) (n % 64)))
leads_shift c s op d a n is =
    leads_set c s (Shift op (reg d) (reg a) (amount n)) d (shift_value op (in_register s a) (n % 64)) (shift_value op (in_register s a) (n % 64)) is refl refl

pub leads_shift_word : (c : Site) (s : State) (op : ShiftWOp) (d a n : ℕ) → IsReg d
    → Leads c (Plain (ShiftW op (reg d) (reg a) (word_amount n)) ∷ []) s (Sets s d (shiftw_value op (in_register s a) (n % 32)))
leads_shift_word c s op d a n is =
    leads_set c s (ShiftW op (reg d) (reg a) (word_amount n)) d (shiftw_value op (in_register s a) (n % 32)) (shiftw_value op (in_register s a) (n % 32)) is refl refl

pub leads_sum : (c : Site) (s : State) (d a b : ℕ) → IsReg d → IsReg a → IsReg b
    → Leads c (sum_to d a b ∷ []) s (Sets s d ((s.registers a + s.registers b) % 2 ^ 64))
leads_sum c s d a b is is_a is_b =
    leads_set c s (Reg Add (reg d) (reg a) (reg b)) d ((in_register s a + in_register s b) % 2 ^ 64) ((s.registers a + s.registers b) % 2 ^ 64) is refl
    (ap (λ x. (x + in_register s b) % 2 ^ 64) (register_reg s a is_a) ∙ ap (λ x. (s.registers a + x) % 2 ^ 64) (register_reg s b is_b))

no_more : (x : ℕ) → (x + 0) % 2 ^ 32 ≡ x % 2 ^ 32
no_more x = omega arith

pub leads_extend : (c : Site) (s : State) (d a : ℕ) → IsReg d → Leads c (extend d a ∷ []) s (Sets s d (sign_extended (in_register s a % 2 ^ 32)))
leads_extend c s d a is =
    leads_set c s (Addiw (reg d) (reg a) (low 0)) d (addiw_value (in_register s a) (low 0).value) (sign_extended (in_register s a % 2 ^ 32)) is refl
    (ap (λ x. sign_extended x) (no_more (in_register s a)))

pub leads_half : (c : Site) (s : State) (d v : ℕ) → IsReg d → s.registers d ≡ v → Leads c (Plain (Shift Srli (reg d) (reg d) (amount 1)) ∷ []) s (Sets s d (v / 2))
leads_half c s d v is held =
    leads_set c s (Shift Srli (reg d) (reg d) (amount 1)) d (register s (reg d) / 2) (v / 2) is refl (ap (λ x. x / 2) (register_reg s d is ∙ held))

pub leads_shift_11 : (c : Site) (s : State) (d v : ℕ) → IsReg d → s.registers d ≡ v → Leads c (shift_11 d ∷ []) s (Sets s d ((v * 2 ^ 11) % 2 ^ 64))
leads_shift_11 c s d v is held =
    leads_set c s (Shift Slli (reg d) (reg d) (amount 11)) d ((register s (reg d) * 2 ^ 11) % 2 ^ 64) ((v * 2 ^ 11) % 2 ^ 64) is refl
    (ap (λ x. (x * 2 ^ 11) % 2 ^ 64) (register_reg s d is ∙ held))

-- ---- constants

leads_part : (c : Site) (s : State) (d n v : ℕ) → IsReg d → n < 2 ^ 11 → s.registers d ≡ v → Leads c (add_low d d n ∷ []) s (Sets s d ((v + n) % 2 ^ 64))
leads_part c s d n v is h held = leads_add_low c s d d n v ((v + n) % 2 ^ 64) is (register_reg s d is ∙ held) (near_moves v n h)

shift_and_part : (c : Site) (s : State) (d n v : ℕ) → IsReg d → n < 2 ^ 11 → s.registers d ≡ v
    → Leads c (shift_11 d ∷ add_low d d n ∷ []) s (Sets s d (((v * 2 ^ 11) % 2 ^ 64 + n) % 2 ^ 64))
shift_and_part c s d n v is h held =
    leads_again c (shift_11 d ∷ []) (add_low d d n ∷ []) s d ((v * 2 ^ 11) % 2 ^ 64) (((v * 2 ^ 11) % 2 ^ 64 + n) % 2 ^ 64)
    (leads_shift_11 c s d v is held) (λ u fixed one. leads_part c u d n ((v * 2 ^ 11) % 2 ^ 64) is h one.value)

leads_parted_constant : (c : Site) (s : State) (d m : ℕ) → IsReg d → m < 2 ^ 64 → Leads c (parted_constant d m) s (Sets s d m)
leads_parted_constant c s d m is h =
    let v0 : ℕ = upper_value (field (m / 2 ^ 44)) in
    let c1 : ℕ = m / 2 ^ 33 % 2 ^ 11 in
    let c2 : ℕ = m / 2 ^ 22 % 2 ^ 11 in
    let c3 : ℕ = m / 2 ^ 11 % 2 ^ 11 in
    let c4 : ℕ = m % 2 ^ 11 in
    let v1 : ℕ = (v0 / 2 + c1) % 2 ^ 64 in
    let v2 : ℕ = ((v1 * 2 ^ 11) % 2 ^ 64 + c2) % 2 ^ 64 in
    let v3 : ℕ = ((v2 * 2 ^ 11) % 2 ^ 64 + c3) % 2 ^ 64 in
    let v4 : ℕ = ((v3 * 2 ^ 11) % 2 ^ 64 + c4) % 2 ^ 64 in
    let whole : v4 ≡ m = part_4 m v3 h (part_3 m v2 h (part_2 m v1 h (part_1 m (v0 / 2) h (top_bits m h)))) in
    let is4 : Item = shift_11 d in
    leads_again c (Plain (Lui (reg d) (field (m / 2 ^ 44))) ∷ [])
    (Plain (Shift Srli (reg d) (reg d) (amount 1)) ∷ add_low d d c1 ∷ shift_11 d ∷ add_low d d c2 ∷ shift_11 d ∷ add_low d d c3 ∷ shift_11 d ∷ add_low d d c4 ∷ [])
    s d v0 m (leads_lui c s d (field (m / 2 ^ 44)) is)
    (λ u0 f0 e0.
    leads_again c (Plain (Shift Srli (reg d) (reg d) (amount 1)) ∷ [])
    (add_low d d c1 ∷ shift_11 d ∷ add_low d d c2 ∷ shift_11 d ∷ add_low d d c3 ∷ shift_11 d ∷ add_low d d c4 ∷ [])
    u0 d (v0 / 2) m (leads_half c u0 d v0 is e0.value)
    (λ u1 f1 e1.
    leads_again c (add_low d d c1 ∷ []) (shift_11 d ∷ add_low d d c2 ∷ shift_11 d ∷ add_low d d c3 ∷ shift_11 d ∷ add_low d d c4 ∷ [])
    u1 d v1 m (leads_part c u1 d c1 (v0 / 2) is (mod-lt _ (lit< tt)) e1.value)
    (λ u2 f2 e2.
    leads_again c (shift_11 d ∷ add_low d d c2 ∷ []) (shift_11 d ∷ add_low d d c3 ∷ shift_11 d ∷ add_low d d c4 ∷ [])
    u2 d v2 m (shift_and_part c u2 d c2 v1 is (mod-lt _ (lit< tt)) e2.value)
    (λ u3 f3 e3.
    leads_again c (shift_11 d ∷ add_low d d c3 ∷ []) (shift_11 d ∷ add_low d d c4 ∷ [])
    u3 d v3 m (shift_and_part c u3 d c3 v2 is (mod-lt _ (lit< tt)) e3.value)
    (λ u4 f4 e4.
    leads_so c (shift_11 d ∷ add_low d d c4 ∷ []) u4 (Sets u4 d v4) (Sets u4 d m)
    (shift_and_part c u4 d c4 v3 is (mod-lt _ (lit< tt)) e4.value)
    (λ t f e. record { value = e.value ∙ whole; others = e.others; bytes = e.bytes; output = e.output }))))))

-- a number of 32 bits
leads_word_constant : (c : Site) (s : State) (d m : ℕ) → IsReg d → m < 2 ^ 32 → Leads c (word_constant d m) s (Sets s d (sign_extended m))
leads_word_constant c s d m is h =
    let up : ℕ = upper_value (high m) in
    leads_again c (Plain (Lui (reg d) (high m)) ∷ []) (lower_part d m) s d up (sign_extended m) (leads_lui c s d (high m) is)
    (λ u f one. by_test u one.value (nat_eq (m % 4096) 0) refl)
  where
    by_test : (u : State) → u.registers d ≡ upper_value (high m) → (b : Bool) → nat_eq (m % 4096) 0 ≡ b
        → Leads c (if b then [] else Plain (Addiw (reg d) (reg d) (low m)) ∷ []) u (Sets u d (sign_extended m))
    by_test u held true e =
        leads_nowhere c u (Sets u d (sign_extended m))
        (record { value = held ∙ upper_made m h (eqb-true (m % 4096) 0 e); others = λ n other. refl; bytes = refl; output = refl })
    by_test u held false e =
        leads_set c u (Addiw (reg d) (reg d) (low m)) d (addiw_value (in_register u d) (low m).value) (sign_extended m) is refl
        (ap (λ x. addiw_value x (low m).value) (register_reg u d is ∙ held) ∙ word_made m h)

-- a number that one or two instructions make
leads_near_constant : (c : Site) (s : State) (d m : ℕ) → IsReg d → is_near_number m ≡ true → Leads c (near_constant d m) s (Sets s d (m % 2 ^ 64))
leads_near_constant c s d m is near = by_test (is_immediate m) refl (is_word m) refl near
  where
    by_test : (b : Bool) → is_immediate m ≡ b → (t : Bool) → is_word m ≡ t → (b || t) ≡ true
        → Leads c (if b then add_low d 0 m ∷ [] else word_constant d (m % 2 ^ 32)) s (Sets s d (m % 2 ^ 64))
    by_test true e t k h = leads_add_low c s d 0 m 0 (m % 2 ^ 64) is refl (immediate_is m e)
    by_test false e true k h =
        subst (λ v. Leads c (word_constant d (m % 2 ^ 32)) s (Sets s d v)) (eqb-true (word m) (m % 2 ^ 64) k)
        (leads_word_constant c s d (m % 2 ^ 32) is (mod-lt m (lit< tt)))
    by_test false e false k h = absurd (let no : ⊥ = cc in no)

left_small : (m : ℕ) → left_of m < 2 ^ 64
left_small m = by_zeros (has_zeros m)
  where
    by_sign : (t : Bool)
        → (if t then without_low m / 2 ^ zeros_of m % 2 ^ 64
        else (without_low m / 2 ^ zeros_of m + (2 ^ 64 - (1 * 2 ^ (64 - zeros_of m)) % 2 ^ 64)) % 2 ^ 64) < 2 ^ 64
    by_sign true = mod-lt (without_low m / 2 ^ zeros_of m) (lit< tt)
    by_sign false = mod-lt (without_low m / 2 ^ zeros_of m + (2 ^ 64 - (1 * 2 ^ (64 - zeros_of m)) % 2 ^ 64)) (lit< tt)

    before_small : before_zeros m < 2 ^ 64
    before_small = by_sign (nat_lt (without_low m) (2 ^ 63))

    by_zeros : (t : Bool) → (if t then before_zeros m else 0) < 2 ^ 64
    by_zeros true = before_small
    by_zeros false = lit< tt

nothing_taken : (m : ℕ) → m < 2 ^ 64 → nat_eq (m % 4096) 0 ≡ true → without_low m ≡ m % 2 ^ 64
nothing_taken m h e = grind (arith, nat_tests)

low_added : (m : ℕ) → m < 2 ^ 64 → moved (without_low m) (signed 12 (m % 4096)) ≡ m % 2 ^ 64
low_added m h = let is = low_moves (without_low m) m in grind (arith, nat_tests)

-- the shift and the low 12 bits, behind what was shifted out
leads_shifted : (c : Site) (s : State) (d m : ℕ) → IsReg d → m < 2 ^ 64 → is_shifted m ≡ true → s.registers d ≡ left_of m % 2 ^ 64
    → Leads c (shifted_by d (zeros_of m) ∷ added d m) s (Sets s d (m % 2 ^ 64))
leads_shifted c s d m is h shifted held =
    leads_again c (shifted_by d (zeros_of m) ∷ []) (added d m) s d (without_low m) (m % 2 ^ 64)
    (leads_set c s (Shift Slli (reg d) (reg d) (amount (zeros_of m))) d (shift_value Slli (register s (reg d)) (zeros_of m % 64)) (without_low m) is refl
    (ap (λ x. shift_value Slli x (zeros_of m % 64)) (register_reg s d is ∙ held) ∙ made))
    (λ u f one. by_test u one.value (nat_eq (m % 4096) 0) refl)
  where
    parts : (has_zeros m ≡ true) × (nat_eq ((left_of m * 2 ^ zeros_of m) % 2 ^ 64) (without_low m) ≡ true)
    parts = and_parts (has_zeros m) (nat_eq ((left_of m * 2 ^ zeros_of m) % 2 ^ 64) (without_low m)) shifted

    few : zeros_of m < 64
    few = let h = (and_parts (nat_lt 0 (zeros_of m)) (nat_lt (zeros_of m) 64) parts.0).1 in grind (arith, nat_tests)

    shift_is : (x y k z : ℕ) → x ≡ y → k ≡ z → (x * 2 ^ k) % 2 ^ 64 ≡ (y * 2 ^ z) % 2 ^ 64
    shift_is x y k z e d = ap (λ q. (q * 2 ^ k) % 2 ^ 64) e ∙ ap (λ q. (y * 2 ^ q) % 2 ^ 64) d

    made : shift_value Slli (left_of m % 2 ^ 64) (zeros_of m % 64) ≡ without_low m
    made =
        shift_is (left_of m % 2 ^ 64) (left_of m) (zeros_of m % 64 % 64) (zeros_of m) (let e : left_of m % 2 ^ 64 ≡ left_of m = (let small = left_small m in omega (arith, small)) in e)
        (let e : zeros_of m % 64 % 64 ≡ zeros_of m = omega (arith, few) in e)
        ∙ eqb-true ((left_of m * 2 ^ zeros_of m) % 2 ^ 64) (without_low m) parts.1

    by_test : (u : State) → u.registers d ≡ without_low m → (b : Bool) → nat_eq (m % 4096) 0 ≡ b
        → Leads c (if b then [] else add_low d d m ∷ []) u (Sets u d (m % 2 ^ 64))
    by_test u at true e =
        leads_nowhere c u (Sets u d (m % 2 ^ 64)) (record { value = at ∙ nothing_taken m h e; others = λ n other. refl; bytes = refl; output = refl })
    by_test u at false e = leads_add_low c u d d m (without_low m) (m % 2 ^ 64) is (register_reg u d is ∙ at) (low_added m h)

leads_made_constant : (c : Site) (s : State) (d k m : ℕ) → IsReg d → m < 2 ^ 64 → is_made k m ≡ true → Leads c (made_constant k d m) s (Sets s d (m % 2 ^ 64))
leads_made_constant c s d zero m is h made = leads_near_constant c s d m is made
leads_made_constant c s d (suc k) m is h made =
    by_test (λ left. leads_made_constant c s d k (left_of m) is (left_small m) left) (is_near_number m) refl made
  where
    by_test : (is_made k (left_of m) ≡ true → Leads c (made_constant k d (left_of m)) s (Sets s d (left_of m % 2 ^ 64)))
        → (b : Bool) → is_near_number m ≡ b → (b || (is_shifted m && is_made k (left_of m))) ≡ true
        → Leads c (if b then near_constant d m else made_constant k d (left_of m) ++ (shifted_by d (zeros_of m) ∷ added d m)) s (Sets s d (m % 2 ^ 64))
    by_test rest true e g = leads_near_constant c s d m is e
    by_test rest false e g =
        let parts = and_parts (is_shifted m) (is_made k (left_of m)) g in
        leads_again c (made_constant k d (left_of m)) (shifted_by d (zeros_of m) ∷ added d m) s d (left_of m % 2 ^ 64) (m % 2 ^ 64) (rest parts.1)
        (λ u f one. leads_shifted c u d m is h parts.0 one.value)

pub leads_long_constant : (c : Site) (s : State) (d m : ℕ) → IsReg d → m < 2 ^ 64 → Leads c (long_constant d m) s (Sets s d m)
unfolding long_constant
leads_long_constant c s d m is h = by_test (is_made 3 m) refl
  where
    by_test : (b : Bool) → is_made 3 m ≡ b → Leads c (if b then made_constant 3 d m else parted_constant d m) s (Sets s d m)
    by_test true e =
        subst (λ v. Leads c (made_constant 3 d m) s (Sets s d v)) (let same : m % 2 ^ 64 ≡ m = omega (arith, h) in same) (leads_made_constant c s d 3 m is h e)
    by_test false e = leads_parted_constant c s d m is h

pub leads_constant : (c : Site) (s : State) (d n : ℕ) → IsReg d → Leads c (constant d n) s (Sets s d (n % 2 ^ 64))
leads_constant c s d n is = by_test (is_immediate n) refl (is_word n) refl
  where
    by_test : (b : Bool) → is_immediate n ≡ b → (t : Bool) → is_word n ≡ t
        → Leads c (if b then add_low d 0 n ∷ [] else if t then word_constant d (n % 2 ^ 32) else long_constant d (n % 2 ^ 64)) s (Sets s d (n % 2 ^ 64))
    by_test true e t k = leads_add_low c s d 0 n 0 (n % 2 ^ 64) is refl (immediate_is n e)
    by_test false e true k =
        subst (λ v. Leads c (word_constant d (n % 2 ^ 32)) s (Sets s d v)) (eqb-true (word n) (n % 2 ^ 64) k)
        (leads_word_constant c s d (n % 2 ^ 32) is (mod-lt n (lit< tt)))
    by_test false e false k = leads_long_constant c s d (n % 2 ^ 64) is (mod-lt n (lit< tt))

-- ---- names

-- an instruction that has a part of an address is one with its number
pub leads_named : (c : Site) (s : State) (r : Relocation) (P : State → Type 0) → Leads c (Plain (relocated r (c.global r.global)) ∷ []) s P
    → Leads c (Relocated r ∷ []) s P
unfolding Stand Stands
leads_named c s r P h = record { from = λ rest stands fixed. h.from rest stands fixed }

pub leads_upper : (c : Site) (s : State) (d g : ℕ) (o : Immediate) → IsReg d
    → Leads c (with_name (Upper (reg d)) g o ∷ []) s (Sets s d (upper_value (upper_part (moved (c.global g) o.value))))
leads_upper c s d g o is =
    let n : ℕ = moved (c.global g) o.value in
    leads_named c s (record { instruction = Upper (reg d); global = g; offset = o }) (Sets s d (upper_value (upper_part n)))
    (leads_lui c s d (upper_part n) is)

pub name_is : (g : ℕ) → g < 2 ^ 30 → moved g (low 0).value ≡ g
name_is g h = near_moves g 0 (lit< tt) ∙ omega (arith, h)

pub leads_address : (c : Site) (s : State) (d g : ℕ) → IsReg d → c.global g < 2 ^ 30 → Leads c (name_into d g) s (Sets s d (c.global g))
leads_address c s d g is near =
    let n : ℕ = moved (c.global g) (low 0).value in
    let up : ℕ = upper_value (upper_part n) in
    leads_again c (with_name (Upper (reg d)) g (low 0) ∷ []) (with_name (AddBy (reg d) (reg d)) g (low 0) ∷ []) s d up (c.global g)
    (leads_upper c s d g (low 0) is)
    (λ u f one.
    leads_named c u (record { instruction = AddBy (reg d) (reg d); global = g; offset = low 0 }) (Sets u d (c.global g))
    (leads_set c u (Imm Addi (reg d) (reg d) (rest_part n)) d (moved (register u (reg d)) (rest_part n).value) (c.global g) is refl
    (ap (λ x. moved x (rest_part n).value) (register_reg u d is ∙ one.value)
    ∙ (parts_made (c.global g) (low 0).value (low 0).in_range near ∙ name_is (c.global g) near))))
