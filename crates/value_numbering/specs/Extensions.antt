-- Extensions of low bits, as loads extend what they read; and what is extended so already.
use Rattle.std.specs.Prelude.{◌≡◌, ℕ, ◌^◌, Bool, true, false, ◌&&◌, nat_eq, nat_lt, nat_le, if◌then◌else◌, List, Option, Some, None, option_and_then, option_map}
use Rattle.il_ast.specs.declared.value.Value.{Value}
use Rattle.vcode.specs.declared.place.Address.{Address}
use Rattle.vcode.specs.declared.place.Operand.{Operand}
use Rattle.vcode.specs.declared.place.Operand.TheVariants.{At, Number, Name}
use Rattle.vcode.specs.declared.line.Operation.TheVariants.{Reg, RegW}
use Rattle.vcode.specs.Prelude.{distance, is_below, extended}
use Rattle.rv_isa.specs.declared.instruction.RegOp.{RegOp}
use Rattle.rv_isa.specs.declared.instruction.RegOp.TheVariants.{And, Srl, Sra}
use Rattle.rv_isa.specs.declared.instruction.RegWOp.{RegWOp}
use Rattle.rv_isa.specs.declared.instruction.RegWOp.TheVariants.{Addw, Srlw}
use Rattle.rv_isa.specs.declared.instruction.LoadOp.{LoadOp}
use Rattle.rv_isa.specs.declared.instruction.LoadOp.TheVariants.{Lb, Lh, Lw, Ld, Lbu, Lhu, Lwu}
use Rattle.value_numbering.specs.declared.extensions.Extension.{Extension}
use Rattle.value_numbering.specs.declared.fact.Expression.{Expression}
use Rattle.value_numbering.specs.declared.fact.Expression.TheVariants.{Operated, Extended, Loaded}
use Rattle.value_numbering.specs.declared.fact.Fact.{Fact}
use Rattle.value_numbering.specs.Known.{IsIn}

-- ---- extensions

-- the value, if the load read it there
abbrev pub extended_as : LoadOp → Option Value → Option Value
extended_as op o = option_and_then (extended op) o

-- the extension that two shifts by so many bits make
abbrev pub by_shifts : RegOp → (bits : ℕ) → Option LoadOp
by_shifts Srl n =
    if nat_eq n 56 then Some Lbu
    else if nat_eq n 48 then Some Lhu
    else if nat_eq n 32 then Some Lwu
    else None
by_shifts Sra n =
    if nat_eq n 56 then Some Lb
    else if nat_eq n 48 then Some Lh
    else if nat_eq n 32 then Some Lw
    else None
by_shifts op n = None

-- the extension that a mask makes
abbrev pub by_mask : ℕ → Option LoadOp
by_mask n = if nat_eq n 255 then Some Lbu else if nat_eq n 65535 then Some Lhu else None

-- the extension that a sum of words with a number makes
abbrev pub by_sum : ℕ → Option LoadOp
by_sum n = if nat_eq n 0 then Some Lw else None

abbrev pub extension_with : Operand ℕ → Option LoadOp → Option Extension
extension_with a o = option_map (λ op. record { load = op; operand = a }) o

-- the operand of which a value is the extension
abbrev pub extension_in : Expression → Option Extension
extension_in (Operated (Reg And) a (Number n)) = extension_with a (by_mask n)
extension_in (Operated (RegW Addw) a (Number n)) = extension_with a (by_sum n)
extension_in (Extended back a n) = extension_with a (by_shifts back n)
extension_in e = None

-- ---- what is extended already

-- how many bits it extends
abbrev pub width : LoadOp → ℕ
width Lb = 8
width Lbu = 8
width Lh = 16
width Lhu = 16
width Lw = 32
width Lwu = 32
width Ld = 64

-- below two to this power, numbers are their own extensions
abbrev pub room : LoadOp → ℕ
room Lb = 7
room Lbu = 8
room Lh = 15
room Lhu = 16
room Lw = 31
room Lwu = 32
room Ld = 0

abbrev pub loads_zeros : LoadOp → Bool
loads_zeros Lbu = true
loads_zeros Lhu = true
loads_zeros Lwu = true
loads_zeros op = false

abbrev pub loads_signs : LoadOp → Bool
loads_signs Lb = true
loads_signs Lh = true
loads_signs Lw = true
loads_signs op = false

-- what is extended as `from` says stays the same where it is extended as `op` says
abbrev pub covers : (op from : LoadOp) → Bool
covers op from =
    if loads_zeros from then nat_le (width from) (room op)
    else loads_signs op && (loads_signs from && nat_le (width from) (width op))

abbrev pub covers_some : LoadOp → (from : Option LoadOp) → Bool
covers_some op (Some from) = covers op from
covers_some op None = false

-- so does what an operation on words gives
abbrev pub covers_words : LoadOp → RegWOp → Operand ℕ → Bool
covers_words Lw w b = true
covers_words Lwu Srlw (Number n) = nat_lt 0 n && nat_lt n 32
covers_words op w b = false

-- what it gives, if anything, stays the same where it is extended so
abbrev pub is_extended : LoadOp → Expression → Bool
is_extended op (Loaded from a d) = covers op from
is_extended op (Extended back a n) = covers_some op (by_shifts back n)
is_extended op (Operated (Reg And) a (Number n)) = nat_lt n (2 ^ room op)
is_extended op (Operated (RegW w) a b) = covers_words op w b
is_extended op e = false

-- the register is known to hold that
abbrev pub IsExtended : List Fact → LoadOp → ℕ → Type 0
IsExtended facts op r =
    (e : Expression) × (IsIn (record { register = r; value = e }) facts × (is_extended op e ≡ true))

-- the value is an extension of what the register holds, which is that already
abbrev pub IsItself : List Fact → ℕ → Expression → Type 0
IsItself facts r e =
    (op : LoadOp) × ((extension_in e ≡ Some (record { load = op; operand = At r })) × IsExtended facts op r)

-- ---- what was loaded, extended the other way

-- the load of as many bytes that extends the other way
abbrev pub other_way : LoadOp → LoadOp
other_way Lb = Lbu
other_way Lbu = Lb
other_way Lh = Lhu
other_way Lhu = Lh
other_way Lw = Lwu
other_way Lwu = Lw
other_way Ld = Ld

-- a register of the function, or a name
abbrev pub is_base : (registers : ℕ) → Operand ℕ → Bool
is_base n (At r) = is_below n r
is_base n (Number k) = false
is_base n (Name g) = true

-- the value is an extension of a register that is known to be loaded there, extended the other way
pub record IsReloaded (registers : ℕ) (facts : List Fact) (e : Expression) (op : LoadOp) (at : Address ℕ) : Type 0 where
  pub register : ℕ
  pub extension : extension_in e ≡ Some (record { load = op; operand = At register })
  pub loaded : IsIn (record { register = register; value = Loaded (other_way op) at.base (distance at) })
      facts
  pub base : is_base registers at.base ≡ true
