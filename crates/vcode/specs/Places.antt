-- Places: how they are told apart, and which ones a call makes unknown.
use Rattle.std.specs.Prelude.{ℕ, Bool, false, ◌&&◌, ◌||◌, nat_eq, nat_le, if◌then◌else◌, Option, Some, None}
use Rattle.il_ast.specs.declared.value.Value.{Value}
use Rattle.rv_isa.specs.declared.abi.TheConstants.{RETURN_ADDRESS, FIRST_TEMPORARY, LAST_TEMPORARY, FIRST_ARGUMENT, LAST_ARGUMENT, FIRST_SCRATCH, JUMP_SCRATCH}
use Rattle.vcode.specs.declared.place.Location.{Location}
use Rattle.vcode.specs.declared.place.Location.TheVariants.{Register, Slot}

pub record Places (P : Type 0) : Type 0 where
  pub same : P → P → Bool
  pub forgets : P → Bool

-- the value of each place, none where it is unknown
abbrev pub Values : Type 0 → Type 0
Values P = P → Option Value

abbrev pub unknown : {P : Type 0} → Values P
unknown p = None

abbrev pub put : {P : Type 0} → Places P → P → Value → Values P → Values P
put c p v values q = if c.same q p then Some v else values q

-- the place takes what there is, known or not
abbrev pub assign : {P : Type 0} → Places P → P → Option Value → Values P → Values P
assign c p o values q = if c.same q p then o else values q

-- after a call
abbrev pub kept : {P : Type 0} → Places P → Values P → Values P
kept c values p = if c.forgets p then None else values p

-- ---- virtual registers, which calls keep

abbrev pub virtual : Places ℕ
virtual = record { same = nat_eq; forgets = λ p. false }

-- ---- registers and slots

abbrev pub same_location : Location → Location → Bool
same_location (Register a) (Register b) = nat_eq a b
same_location (Slot a) (Slot b) = nat_eq a b
same_location p q = false

-- the caller's registers (RISC-V ELF psABI, "Integer Register Convention"): the return address,
-- temporaries, arguments and scratch
abbrev pub is_callers : Location → Bool
is_callers (Register r) =
    nat_eq r RETURN_ADDRESS
    || ((nat_le FIRST_TEMPORARY r && nat_le r LAST_TEMPORARY)
    || ((nat_le FIRST_ARGUMENT r && nat_le r LAST_ARGUMENT)
    || (nat_le FIRST_SCRATCH r && nat_le r JUMP_SCRATCH)))
is_callers (Slot s) = false

abbrev pub located : Places Location
located = record { same = same_location; forgets = is_callers }
