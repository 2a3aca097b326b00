-- What small codes do on bytes, and a code for which all premises of the law hold together.
use Rattle.std.specs.Prelude.{◌≡◌, ℕ, zero, suc, ◌+◌, ◌-◌, ◌^◌, ◌<◌, true, List, [], ◌∷◌, Option, Some, None}
use Rattle.il_ast.specs.declared.operation.Class.{Class}
use Rattle.il_ast.specs.declared.operation.Class.TheVariants.{W, L}
use Rattle.il_ast.specs.declared.operation.Size.TheVariants.{Byte, Long}
use Rattle.il_ast.specs.declared.value.Value.TheVariants.{Integer}
use Rattle.il_ast.specs.Prelude.{Returned, On, Over, Does, Calls, Logged, Given}
use Rattle.rv_isa.specs.declared.instruction.RegOp.TheVariants.{Add, Sub}
use Rattle.rv_isa.specs.declared.instruction.LoadOp.TheVariants.{Lb, Ld}
use Rattle.vcode.specs.declared.place.Location.{Location}
use Rattle.vcode.specs.declared.place.Location.TheVariants.{Register}
use Rattle.vcode.specs.declared.place.Operand.{Operand}
use Rattle.vcode.specs.declared.place.Operand.TheVariants.{At, Number, Name}
use Rattle.vcode.specs.declared.line.Operation.TheVariants.{Reg}
use Rattle.vcode.specs.Prelude.{at_once, destination, straight, located, IsRegular, area, begin, step}
use Rattle.vcode.specs.declared.line.Line.TheVariants.{Tick, Operate, Load, Store, Alloc, Blit}
use Rattle.vcode.specs.declared.code.Code.{Code}
use Rattle.flat_code.specs.Flat.{NoAccess, Spots, Bases, Entries, AreEntries, AllShow, FlatGiven, FlatReturned, FlatEnded, ShowsGiven}
use Rattle.flat_code.specs.Step.{FlatState, FlatEvent, flat_begin, flat_step}

-- ---- what a code without calls returns

abbrev pub next_number : FlatEvent → (FlatState → Option ℕ) → Option ℕ
next_number (Does (On s)) go = go s
next_number (Does (Over (FlatReturned t x f))) go = x
next_number (Does (Over (FlatEnded t e))) go = None
next_number (Calls j k) go = None

-- the number that is returned within so many steps, none where the run isn't over, or is undefined
abbrev pub number_within : (FlatState → FlatEvent) → ℕ → FlatState → Option ℕ
number_within go zero s = None
number_within go (suc n) s = next_number (go s) (number_within go n)

abbrev pub nowhere : Spots
nowhere x = NoAccess

abbrev pub shown : List ℕ → FlatGiven
shown args = record { turns = 9; room = 4096; args = args; memory = nowhere }

-- with the blocks from 8192 upward; name 0 stands for 500
abbrev pub Returns : Code Location → List ℕ → Option ℕ → Type 0
Returns f args x =
    number_within (flat_step f (500 ∷ []) 8192 (shown args)) 20 (flat_begin f 8192 (shown args)) ≡ x

-- ---- codes

abbrev pub a : Location
a = Register 10

abbrev pub b : Location
b = Register 11

-- a number is stored in a fresh block, and comes back
abbrev pub keeps_number : Code Location
keeps_number =
    straight L [] (Tick true 2 ∷ Alloc (Some a) 8 ∷ Store Long (Number 7) (at_once (At a))
    ∷ Load b Ld (at_once (At a)) ∷ []) (At b)

abbrev pub reads_blank : Code Location
reads_blank = straight L [] (Alloc (Some a) 8 ∷ Load b Ld (at_once (At a)) ∷ []) (At b)

abbrev pub stores_past_the_end : Code Location
stores_past_the_end =
    straight L [] (Alloc (Some a) 7 ∷ Store Long (Number 7) (at_once (At a)) ∷ []) (Number 1)

abbrev pub stores_bytes : Code Location
stores_bytes =
    straight L [] (Alloc (Some a) 1 ∷ Store Byte (Number 511) (at_once (At a))
    ∷ Load b Lb (at_once (At a)) ∷ []) (At b)

abbrev pub blocks_apart : Code Location
blocks_apart =
    straight L [] (Alloc (Some a) 17 ∷ Alloc (Some b) 1 ∷ Operate b (Reg Sub) (At b) (At a) ∷ [])
    (At b)

-- an unknown number and 1; then an operand is returned
abbrev pub adds_to_unknown : Operand Location → Code Location
adds_to_unknown result = straight L [] (Operate b (Reg Add) (At a) (Number 1) ∷ []) result

abbrev pub copies : Code Location
copies =
    straight L []
    (Alloc (Some a) 8 ∷ Alloc (Some b) 8 ∷ Store Long (Number 258) (at_once (At a))
    ∷ Blit (At a) (At b) 8 ∷ Load a Ld (at_once (At b)) ∷ [])
    (At a)

-- the argument, of this class, returned as a value of another
abbrev pub passes : Class → Class → Code Location
passes k result = straight result (destination a k ∷ []) [] (At a)

-- ---- one code for the law

abbrev pub no_entries : Entries
no_entries f = None

abbrev pub no_bases : Bases
no_bases n = None

abbrev pub given : Given
given = record { turns = 9; room = 4096; args = []; memory = [] }

-- the law's premises, where calls have the stack below 8192 and the blocks begin there
pub record PremisesHold : Type 0 where
  pub regular : IsRegular keeps_number
  pub entries : AreEntries no_entries
  pub names : AllShow no_entries no_bases [] []
  pub shows : ShowsGiven no_entries no_bases 0 (8192 + area keeps_number) given (shown [])
  pub below_end : 8192 + area keeps_number < 2 ^ 64
  pub runs : Logged (step located [] keeps_number given) 20 (begin located keeps_number given) []
      (Returned (record { turns = 1; weight = 2; calls = 0; output = [] }) (Some (Integer 7))
      (None ∷ []))

-- ---- all of them

pub record Examples : Type 0 where
  pub number_is_kept : Returns keeps_number [] (Some 7)
  pub blank_is_not_read : Returns reads_blank [] None
  pub nothing_past_the_end : Returns stores_past_the_end [] None
  pub low_byte_with_its_sign : Returns stores_bytes [] (Some (2 ^ 64 - 1))
  pub fresh_blocks_follow : Returns blocks_apart [] (Some 32)
  pub unknown_is_not_asked : Returns (adds_to_unknown (Number 5)) [] (Some 5)
  pub unknown_is_not_returned : Returns (adds_to_unknown (At b)) [] None
  pub bytes_are_copied : Returns copies [] (Some 258)
  pub first_block_at_the_base : Returns (straight L [] (Alloc (Some a) 8 ∷ []) (At a)) []
      (Some 8192)
  pub name_has_an_address : Returns (straight L [] [] (Name 0)) [] (Some 500)
  pub word_is_extended : Returns (passes W L) ((2 ^ 31) ∷ []) (Some (2 ^ 64 - 2 ^ 31))
  pub word_is_cut : Returns (passes L W) ((2 ^ 32 + 5) ∷ []) (Some 5)
  pub premises_hold : PremisesHold
