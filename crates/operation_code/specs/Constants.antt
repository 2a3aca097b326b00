-- Numbers in registers.
use Rattle.std.specs.Prelude.{ℕ, ◌+◌, ◌/◌, ◌%◌, ◌^◌, List, [], ◌∷◌, zero, suc, ◌-◌, ◌*◌, Bool, ◌&&◌, ◌||◌, nat_eq, nat_lt, if◌then◌else◌, ◌++◌}
use Rattle.std.proofs.Common.{lit<, mod-lt}
use Rattle.rv_isa.specs.declared.abi.TheConstants.{ZERO}
use Rattle.rv_isa.specs.declared.ranges.Register.{Register}
use Rattle.rv_isa.specs.declared.ranges.UpperField.{UpperField}
use Rattle.rv_isa.specs.declared.ranges.Immediate.{Immediate}
use Rattle.rv_isa.specs.declared.relocation.Partial.{Partial}
use Rattle.rv_isa.specs.declared.relocation.Partial.TheVariants.{Upper, Add as AddBy}
use Rattle.rv_isa.specs.declared.ranges.Amount.{Amount}
use Rattle.rv_isa.specs.declared.ranges.WordAmount.{WordAmount}
use Rattle.rv_isa.specs.declared.instruction.Instr.TheVariants.{Load, Store, Imm, Addiw, Shift, Reg, Lui}
use Rattle.rv_isa.specs.declared.instruction.LoadOp.{LoadOp}
use Rattle.rv_isa.specs.declared.instruction.LoadOp.TheVariants.{Ld}
use Rattle.rv_isa.specs.declared.instruction.StoreOp.{StoreOp}
use Rattle.rv_isa.specs.declared.instruction.StoreOp.TheVariants.{Sd}
use Rattle.rv_isa.specs.declared.instruction.ImmOp.TheVariants.{Addi, Xori, Sltiu}
use Rattle.rv_isa.specs.declared.instruction.ShiftOp.TheVariants.{Slli, Srli}
use Rattle.rv_isa.specs.declared.instruction.RegOp.TheVariants.{Add, Sltu}
use Rattle.rv_isa.specs.declared.labelled.Item.{Item}
use Rattle.rv_isa.specs.declared.labelled.Item.TheVariants.{Plain, Relocated}
use Rattle.vcode.specs.Prelude.{low, is_immediate}
use Rattle.std.specs.Int.{trailing_zeros, w64}
use Rattle.bits.specs.Words.{sign_extended}

-- ---- instructions by numbers of registers
-- ---- fields

abbrev pub reg : ℕ → Register
reg n = record { number = n % 32; in_range = mod-lt n (lit< tt) }

abbrev pub field : ℕ → UpperField
field n = record { value = n % 2 ^ 20; in_range = mod-lt n (lit< tt) }

-- the upper part of a number whose low 12 bits are read with a sign
abbrev pub high : ℕ → UpperField
high n = field ((n + 2048) / 4096)

-- by how many bits a shift goes, of 64 bits and of 32
abbrev pub amount : ℕ → Amount
amount n = record { value = n % 64; in_range = mod-lt n (lit< tt) }

abbrev pub word_amount : ℕ → WordAmount
word_amount n = record { value = n % 32; in_range = mod-lt n (lit< tt) }

-- ---- instructions

abbrev pub add_low : (d a n : ℕ) → Item
add_low d a n = Plain (Imm Addi (reg d) (reg a) (low n))

abbrev pub extend : (d a : ℕ) → Item
extend d a = Plain (Addiw (reg d) (reg a) (low 0))

abbrev pub sum_to : (d a b : ℕ) → Item
sum_to d a b = Plain (Reg Add (reg d) (reg a) (reg b))

abbrev pub load_8 : (d base offset : ℕ) → Item
load_8 d base offset = Plain (Load Ld (reg d) (reg base) (low offset))

abbrev pub store_8 : (v base offset : ℕ) → Item
store_8 v base offset = Plain (Store Sd (reg base) (reg v) (low offset))

abbrev pub shift_11 : ℕ → Item
shift_11 d = Plain (Shift Slli (reg d) (reg d) (amount 11))

-- a truth value in a register is made false or true, and true or false
abbrev pub negate : ℕ → Item
negate d = Plain (Imm Xori (reg d) (reg d) (low 1))

-- whether a register is 0, and whether it is not
abbrev pub is_zero : (d a : ℕ) → Item
is_zero d a = Plain (Imm Sltiu (reg d) (reg a) (low 1))

abbrev pub is_not_zero : (d a : ℕ) → Item
is_not_zero d a = Plain (Reg Sltu (reg d) (reg ZERO) (reg a))

-- a load and a store of this size at an offset from a register
abbrev pub load_to : LoadOp → (d base : ℕ) → Immediate → Item
load_to op d base offset = Plain (Load op (reg d) (reg base) offset)

abbrev pub store_from : StoreOp → (v base : ℕ) → Immediate → Item
store_from op v base offset = Plain (Store op (reg base) (reg v) offset)

abbrev pub store_at : StoreOp → (v base offset : ℕ) → Item
store_at op v base offset = store_from op v base (low offset)

-- ---- names

-- an instruction with its part of the address that lies so far beyond a name's
abbrev pub with_name : Partial → (global : ℕ) → (offset : Immediate) → Item
with_name i g o = Relocated (record { instruction = i; global = g; offset = o })

-- the name's address into the register d
abbrev pub name_into : (d global : ℕ) → List Item
name_into d g = with_name (Upper (reg d)) g (low 0) ∷ with_name (AddBy (reg d) (reg d)) g (low 0) ∷ []

-- ---- numbers of 64 bits, one way: as 20 bits and four times 11, none of which is read with a sign

-- the top 31 bits
abbrev pub top_part : (d m : ℕ) → List Item
top_part d m =
    Plain (Lui (reg d) (field (m / 2 ^ 44))) ∷ Plain (Shift Srli (reg d) (reg d) (amount 1))
    ∷ add_low d d (m / 2 ^ 33 % 2 ^ 11) ∷ []

-- 11 bits more
abbrev pub next_part : (d bits : ℕ) → List Item
next_part d bits = shift_11 d ∷ add_low d d bits ∷ []

abbrev pub parted_constant : (d m : ℕ) → List Item
parted_constant d m =
    top_part d m ++ (next_part d (m / 2 ^ 22 % 2 ^ 11)
    ++ (next_part d (m / 2 ^ 11 % 2 ^ 11) ++ next_part d (m % 2 ^ 11)))

-- ---- numbers of 32 bits

-- the low 32 bits of a number, read with a sign
abbrev pub word : ℕ → ℕ
word n = sign_extended (n % 2 ^ 32)

-- a number that its low 32 bits give so, modulo 2^64
abbrev pub is_word : ℕ → Bool
is_word n = nat_eq (word n) (n % 2 ^ 64)

-- what is added to its upper part
abbrev pub lower_part : (d m : ℕ) → List Item
lower_part d m = if nat_eq (m % 4096) 0 then [] else Plain (Addiw (reg d) (reg d) (low m)) ∷ []

abbrev pub word_constant : (d m : ℕ) → List Item
word_constant d m = Plain (Lui (reg d) (high m)) ∷ lower_part d m

-- ---- numbers of 64 bits, the other way: by a shift, and a sum with their low 12 bits, read with a
-- sign

-- a number that these bits are taken from, modulo 2^64
abbrev pub without_low : ℕ → ℕ
without_low m =
    if nat_lt (m % 4096) 2048 then m - m % 4096 else (m + (4096 - m % 4096)) % 2 ^ 64

-- by how much it is shifted: by the zeros at its end
abbrev pub zeros_of : ℕ → ℕ
zeros_of m = trailing_zeros w64 (without_low m)

abbrev pub has_zeros : ℕ → Bool
has_zeros m = nat_lt 0 (zeros_of m) && nat_lt (zeros_of m) 64

-- what is shifted: what stands before the zeros, read with a sign
abbrev pub before_zeros : ℕ → ℕ
before_zeros m =
    if nat_lt (without_low m) (2 ^ 63) then without_low m / 2 ^ zeros_of m % 2 ^ 64
    else (without_low m / 2 ^ zeros_of m + (2 ^ 64 - (1 * 2 ^ (64 - zeros_of m)) % 2 ^ 64)) % 2 ^ 64

abbrev pub left_of : ℕ → ℕ
left_of m = if has_zeros m then before_zeros m else 0

-- the shift makes it, and it is one
abbrev pub is_shifted : ℕ → Bool
is_shifted m =
    has_zeros m && nat_eq ((left_of m * 2 ^ zeros_of m) % 2 ^ 64) (without_low m)

-- that one or two instructions make
abbrev pub is_near_number : ℕ → Bool
is_near_number m = is_immediate m || is_word m

abbrev pub near_constant : (d m : ℕ) → List Item
near_constant d m =
    if is_immediate m then add_low d ZERO m ∷ [] else word_constant d (m % 2 ^ 32)

-- that so many shifts make
abbrev pub is_made : (shifts m : ℕ) → Bool
is_made zero m = is_near_number m
is_made (suc k) m = is_near_number m || (is_shifted m && is_made k (left_of m))

abbrev pub added : (d m : ℕ) → List Item
added d m = if nat_eq (m % 4096) 0 then [] else add_low d d m ∷ []

abbrev pub shifted_by : (d bits : ℕ) → Item
shifted_by d bits = Plain (Shift Slli (reg d) (reg d) (amount bits))

abbrev pub made_constant : (shifts d m : ℕ) → List Item
made_constant zero d m = near_constant d m
made_constant (suc k) d m =
    if is_near_number m then near_constant d m
    else made_constant k d (left_of m) ++ (shifted_by d (zeros_of m) ∷ added d m)

unfoldable pub long_constant : (d m : ℕ) → List Item
long_constant d m = if is_made 3 m then made_constant 3 d m else parted_constant d m

-- the number into the register d
abbrev pub constant : (d n : ℕ) → List Item
constant d n =
    if is_immediate n then add_low d ZERO n ∷ []
    else if is_word n then word_constant d (n % 2 ^ 32)
    else long_constant d (n % 2 ^ 64)
