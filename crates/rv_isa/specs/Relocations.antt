-- Instructions that wait for the address of a global.
use Rattle.std.proofs.Common.{mod-lt, lit<}
use Rattle.std.specs.Prelude.{ℕ, ◌+◌, ◌-◌, ◌*◌, ◌/◌, ◌%◌, ◌^◌, Bool, true, nat_le, nat_lt, ◌&&◌}
use Rattle.bits.specs.Words.{upper_field, lower_field}
use Rattle.rv_isa.specs.Types.{RETURN_ADDRESS, Immediate, JumpOffset, UpperField, Instr, Lui, Jal, Jalr, Load, Store, Imm, Addi, Partial, Upper, Jump, Relocation, Filling, Part}
use Rattle.rv_isa.specs.Formats.{signed}
use Rattle.rv_isa.specs.Arithmetic.{moved}
use Rattle.rv_isa.specs.Readings.{upper_fits, lower_fits, signed21_at_least, signed21_at_most, signed21_even}
use Rattle.rv_isa.specs.declared.relocation.Partial.TheVariants.{Add, Load as LoadBy, Store as StoreBy}
use Rattle.rv_isa.specs.declared.relocation.Filling.TheVariants.{Call}

-- the part of an address that `lui` takes, and the rest of it, read with a sign
abbrev pub upper_part : ℕ → UpperField
upper_part a = record { value = upper_field a; in_range = upper_fits a }

abbrev pub lower_part : ℕ → Immediate
lower_part a = record { value = lower_field a; in_range = lower_fits a }

-- the instruction with its part of an address
abbrev pub completed : Partial → ℕ → Instr
completed (Upper rd) a = Lui rd (upper_part a)
completed (Add rd rs1) a = Imm Addi rd rs1 (lower_part a)
completed (Jump rd rs1) a = Jalr rd rs1 (lower_part a)
completed (LoadBy op rd rs1) a = Load op rd rs1 (lower_part a)
completed (StoreBy op rs1 rs2) a = Store op rs1 rs2 (lower_part a)

-- with the global at this address
abbrev pub relocated : Relocation → ℕ → Instr
relocated r a = completed r.instruction (moved a r.offset.value)

-- an instruction with its part of the address of the global itself
abbrev pub of_global : Partial → (global : ℕ) → Relocation
of_global i n = record { instruction = i; global = n; offset = lower_part 0 }

-- ---- words that wait for an address

-- the global that they name
abbrev pub named : Filling → ℕ
named (Part r) = r.global
named (Call n) = n

-- half the distance from one address to another, in 20 bits
abbrev pub half_distance : (place address : ℕ) → ℕ
half_distance p a = (a + (2 ^ 64 - p)) % 2 ^ 64 / 2 % 2 ^ 20

-- the distance in the field of `jal`, read with a sign
abbrev pub jump_part : (place address : ℕ) → JumpOffset
jump_part p a = let fits = mod-lt ((a + (2 ^ 64 - p)) % 2 ^ 64 / 2) (lit< tt) in record {
  value = signed 21 (half_distance p a * 2);
  at_least = signed21_at_least (half_distance p a) fits;
  at_most = signed21_at_most (half_distance p a) fits;
  even = signed21_even (half_distance p a) fits;
}

-- the instruction at a place, with the global at this address
abbrev pub filled_in : Filling → (place global : ℕ) → Instr
filled_in (Part r) p a = relocated r a
filled_in (Call n) p a = Jal (record { number = RETURN_ADDRESS; in_range = lit< tt }) (jump_part p a)

-- `jal` reaches from 2^20 bytes back to just below 2^20 ahead, and parts of addresses any address
abbrev pub reaches : Filling → (place address : ℕ) → Bool
reaches (Part r) p a = true
reaches (Call n) p a = nat_le p (a + 2 ^ 20) && nat_lt a (p + 2 ^ 20)
