-- A machine and a program of one function, `main`, that halts: what the theorem asks can be met.
use Rattle.std.specs.Prelude.{ℕ, zero, suc, ◌+◌, ◌-◌, ◌==◌, ◌&&◌, nat_le, nat_lt, true, false, if◌then◌else◌, List, [], ◌∷◌, slice_get, unwrap_or, Option, Some, None}
use Rattle.il_ast.specs.declared.value.Callee.{Callee}
use Rattle.il_ast.specs.declared.value.Callee.TheVariants.{Defined, SystemWrite, SystemExit}
use Rattle.il_ast.specs.declared.value.End.TheVariants.{Halt, Turns}
use Rattle.il_ast.specs.Prelude.{nothing, one_turn, Outcome, Ended, Event, Does, Over, Asked, Given}
use Rattle.rv_isa.specs.declared.permission.Permission.{Permission}
use Rattle.rv_isa.specs.Prelude.{State, stack_top, stack_bottom}
use Rattle.rv_machine.specs.Mapped.{read_and_write}
use Rattle.flat_code.specs.Flat.{Spot, NoAccess, ThisByte, FlatGiven, FlatAsked, FlatOutcome, FlatEnded}
use Rattle.headline.specs.Knot.{Setting}

-- `main` at 0x10000: ebreak; behind its return: addi x17, x0, 93 and ecall
abbrev pub code_bytes : List ℕ
code_bytes = 0x73 ∷ 0 ∷ 0x10 ∷ 0 ∷ 0x93 ∷ 0x08 ∷ 0xd0 ∷ 0x05 ∷ 0x73 ∷ 0 ∷ 0 ∷ 0 ∷ []

abbrev pub byte : ℕ → ℕ
byte a = unwrap_or (slice_get code_bytes (a - 0x10000)) 0

abbrev pub is_code : ℕ → Permission
is_code a =
    if nat_le 0x10000 a && nat_lt a 0x1000c
    then record { readable = false; writable = false; executable = true }
    else (if nat_le stack_bottom a && nat_lt a (stack_top + 40)
    then read_and_write
    else record { readable = false; writable = false; executable = false })

abbrev pub register : ℕ → ℕ
register n = if n == 1 then 0x10004 else (if n == 2 then stack_top else 0)

-- at the call of `main`
abbrev pub state : State
state = record { pc = 0x10000; registers = register; bytes = byte; allows = is_code; output = [] }

abbrev pub entry : Callee → Option ℕ
entry (Defined zero) = Some 0x10000
entry (Defined (suc k)) = None
entry SystemWrite = None
entry SystemExit = None

-- the one block of the start is the argument list, of eight zero bytes
abbrev pub base : ℕ → Option ℕ
base zero = Some (stack_top + 8)
base (suc b) = None

abbrev pub spot : ℕ → Spot
spot a = if nat_le (stack_top + 8) a && nat_lt a (stack_top + 16) then ThisByte 0 else NoAccess

abbrev pub setting : Setting
setting =
    record {
      world = record {
        memory_map = record { allows = is_code; code = byte };
        bottom = stack_bottom;
        top = stack_top;
      };
      entries = entry;
      start = base;
    }

-- a code that halts in its first turn: on blocks, and on bytes
abbrev pub halting : ℕ → Outcome
halting zero = Ended nothing Turns
halting (suc n) = Ended (one_turn 1) Halt

abbrev pub flat_halting : ℕ → FlatOutcome
flat_halting zero = FlatEnded nothing Turns
flat_halting (suc n) = FlatEnded (one_turn 1) Halt

abbrev pub begin : Given → Unit {0}
begin i = tt

abbrev pub step : Given → Unit {0} → Event (Unit {0}) Asked Outcome
step i s = Does (Over (halting i.turns))

abbrev pub flat_begin : ℕ → FlatGiven → Unit {0}
flat_begin b j = tt

abbrev pub flat_step : ℕ → FlatGiven → Unit {0} → Event (Unit {0}) FlatAsked FlatOutcome
flat_step b j s = Does (Over (flat_halting j.turns))
