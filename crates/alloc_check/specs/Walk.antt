-- What the checker does, step by step: as `Certified` has it, but none where a place or a register
-- has no room in its table.
use Rattle.std.specs.Prelude.{◌≡◌, ℕ, ◌+◌, ◌≤◌, ◌<◌, Bool, false, nat_lt, nat_le, if◌then◌else◌, List, length, slice_get, Option, Some, None, zero, suc, true, not, ◌&&◌, ◌||◌, [], ◌∷◌, ◌++◌}
use Rattle.std.specs.Option.{option_map_or, option_and_then}
use Rattle.rv_isa.specs.declared.abi.TheConstants.{LAST_SAVED}
use Rattle.vcode.specs.declared.place.Location.{Location}
use Rattle.vcode.specs.declared.place.Location.TheVariants.{Register, Slot}
use Rattle.vcode.specs.Prelude.{same_location, is_callers}
use Rattle.certificates.specs.declared.certificate.Equality.{Equality}
use Rattle.alloc_check.specs.declared.first.First.{First}
use Rattle.alloc_check.specs.declared.table.Held.{Held}
use Rattle.alloc_check.specs.declared.table.OwnerTable.{OwnerTable}
use Rattle.alloc_check.specs.Certified.{Owners, nobody, known, nowhere, standing, other_than, own_put, own_move, own_also, own_kept, owns, operand_held, args_held, all_hold, are_apart, where_held, moves_at, begins_at, layout_at, transfers, next_point, jump_point, is_param, params_placed, entry_right}
use Rattle.std.specs.List.{list_all}
use Rattle.vcode.specs.declared.place.Destination.{Destination}
use Rattle.vcode.specs.declared.line.Line.{Line}
use Rattle.vcode.specs.declared.line.Line.TheVariants.{Tick, Set, Operate, Load, Store, Alloc, Blit, Call}
use Rattle.vcode.specs.declared.line.Jump.{Jump}
use Rattle.vcode.specs.declared.line.Jump.TheVariants.{Goto, Branch, Return, Halt}
use Rattle.vcode.specs.declared.code.Block.{Block}
use Rattle.vcode.specs.declared.code.Code.{Code}
use Rattle.certificates.specs.declared.certificate.Transfer.{Transfer}
use Rattle.certificates.specs.declared.certificate.Certificate.{Certificate}
use Rattle.cfg_live.specs.Registers.{line_writes}
use Rattle.alloc_check.specs.Placed.{Layout, placed_line}

-- ---- whose value each place holds, as a table has it
abbrev pub item : {X : Type 0} → List (Option X) → ℕ → Option X
item {X} xs k = option_map_or (λ (x : Option X). x) (slice_get xs k) None

-- the place has a cell in a table for so many virtual registers
abbrev pub in_table : (registers : ℕ) → Location → Bool
in_table registers (Register k) = nat_le k LAST_SAVED
in_table registers (Slot s) = nat_lt s registers

-- ---- where blocks begin

-- whose value a place holds
abbrev pub first_at : First → Owners
first_at f (Register k) = item f.machine.items k
first_at f (Slot s) = item f.slots.items s

-- where a register is
abbrev pub stands_at : First → ℕ → Option Location
stands_at f r = item f.places.items r

-- a cell for each place, and one for each of so many virtual registers
pub record HasRoom (registers : ℕ) (f : First) : Type 0 where
  pub machine : length f.machine.items ≡ LAST_SAVED + 1
  pub slots : length f.slots.items ≡ registers
  pub places : length f.places.items ≡ registers

-- what holds at the start of every block
pub record IsFirst (registers : ℕ) (everywhere : List Equality) (f : First) : Type 0 where
  pub machine : length f.machine.items ≤ LAST_SAVED + 1
  pub owners : first_at f ≡ known everywhere nobody
  pub places : stands_at f ≡ standing everywhere nowhere
  pub low : (q : Location) (r : ℕ) → known everywhere nobody q ≡ Some r → r < registers

-- ---- since then

-- what became of a place, if anything did
abbrev pub cell_at : OwnerTable → Location → Option Held
cell_at t (Register k) = item t.machine.items k
cell_at t (Slot s) = item t.slots.items s

-- what is known of a place: what became of it since the block began, or what it held then
abbrev pub latest : (begun : ℕ) → Option Held → Option ℕ → Held
latest begun None first = record { owner = first; since = begun }
latest begun (Some h) first =
    if nat_le begun h.since then h else record { owner = first; since = begun }

-- the register was not written since
abbrev pub counts : List ℕ → ℕ → ℕ → Bool
counts written since r = option_map_or (λ w. nat_le w since) (slice_get written r) false

abbrev pub counted : List ℕ → ℕ → Option ℕ → Option ℕ
counted written since None = None
counted written since (Some r) = if counts written since r then Some r else None

abbrev pub own_by : (written : List ℕ) → Held → Option ℕ
own_by written h = counted written h.since h.owner

abbrev pub own_of : OwnerTable → Owners
own_of t q = own_by t.written.items (latest t.begun (cell_at t q) (first_at t.first q))

-- a table for so many virtual registers, in which nothing is later than this
pub record IsTable (registers : ℕ) (everywhere : List Equality) (time : ℕ) (t : OwnerTable) : Type 0
  where
    pub machine : length t.machine.items ≡ LAST_SAVED + 1
    pub slots : length t.slots.items ≡ registers
    pub written : length t.written.items ≡ registers
    pub begun : t.begun ≤ time
    pub writes : (r w : ℕ) → slice_get t.written.items r ≡ Some w → w ≤ time
    pub cells : (q : Location) (h : Held) → cell_at t q ≡ Some h → h.since ≤ time
    pub first : IsFirst registers everywhere t.first

-- a register of the machine after a call: nothing has been known of a caller's since then
abbrev pub forgets : (time k : ℕ) → Option Held → Option Held
forgets time k x =
    if is_callers (Register k) then Some (record { owner = None; since = time }) else x

-- all of them, as many as there are
abbrev pub Forgotten : (time : ℕ) (new old : List (Option Held)) → Type 0
Forgotten time new old =
    (k : ℕ) → item new k ≡ (if nat_lt k (length old) then forgets time k (item old k)
    else item old k)

-- one cell is written
pub record Rewrites (place : Location) (held : Held) (old new : OwnerTable) : Type 0 where
  pub cells : (q : Location) → cell_at new q ≡ (if same_location q place then Some held
      else cell_at old q)
  pub machine : length new.machine.items ≡ length old.machine.items
  pub slots : length new.slots.items ≡ length old.slots.items
  pub written : new.written.items ≡ old.written.items
  pub begun : new.begun ≡ old.begun
  pub first : new.first ≡ old.first

abbrev pub put_in : ℕ → Location → ℕ → Owners → Option Owners
put_in n d r own = where_held (in_table n d && nat_lt r n) (own_put d r own)

abbrev pub move_in : ℕ → Transfer → Owners → Option Owners
move_in n m own = where_held (in_table n m.to) (own_move m own)

abbrev pub also_in : ℕ → Equality → Owners → Option Owners
also_in n e own = where_held (in_table n e.place && nat_lt e.register n) (own_also e own)

abbrev pub moved_in : ℕ → List Transfer → Owners → Option Owners
moved_in n [] own = Some own
moved_in n (m ∷ ms) own = option_and_then (moved_in n ms) (move_in n m own)

abbrev pub known_in : ℕ → List Equality → Owners → Option Owners
known_in n [] own = Some own
known_in n (e ∷ es) own = option_and_then (known_in n es) (also_in n e own)

-- if it finds what it reads
abbrev pub after_reads : Bool → Option Owners → Option Owners
after_reads true o = o
after_reads false o = None

abbrev pub receives_in : ℕ → Layout → Option (Destination ℕ) → Owners → Option Owners
receives_in n f None own = Some own
receives_in n f (Some d) own = put_in n (f d.place) d.place own

abbrev pub makes_in : ℕ → Layout → Option ℕ → Owners → Option Owners
makes_in n f None own = Some own
makes_in n f (Some r) own = put_in n (f r) r own

abbrev pub line_in : ℕ → Owners → Layout → Line ℕ → Option Owners
line_in n own f (Tick turn w) = Some own
line_in n own f (Set to a) = after_reads (operand_held own f a) (put_in n (f to) to own)
line_in n own f (Operate to op a b) =
    after_reads (operand_held own f a && operand_held own f b) (put_in n (f to) to own)
line_in n own f (Load to op at) = after_reads (operand_held own f at.base) (put_in n (f to) to own)
line_in n own f (Store size a at) =
    where_held (operand_held own f a && operand_held own f at.base) own
line_in n own f (Alloc to size) = makes_in n f to own
line_in n own f (Blit from to count) =
    where_held (operand_held own f from && operand_held own f to) own
line_in n own f (Call to callee args) =
    after_reads (operand_held own f callee && args_held own f args)
    (receives_in n f to (own_kept own))

-- the moves before a line; a tick has none
abbrev pub moves_before : Certificate → ℕ → Line ℕ → List Transfer
moves_before c p (Tick turn w) = []
moves_before c p l = moves_at c p

-- a line with the moves before it; a tick is no point
abbrev pub point_in : ℕ → Certificate → ℕ → Owners → Line ℕ → Option Owners
point_in n c p own (Tick turn w) = Some own
point_in n c p own l =
    option_and_then (λ o. line_in n o (layout_at c p) l) (moved_in n (moves_at c p) own)

abbrev pub lines_in : ℕ → Certificate → ℕ → Owners → List (Line ℕ) → Option Owners
lines_in n c p own [] = Some own
lines_in n c p own (l ∷ lines) =
    option_and_then (λ o. lines_in n c (next_point p l) o lines) (point_in n c p own l)

-- ---- whether all holds at the end of a block that holds at the start of every one: only what the
-- block may have changed is looked at

-- the place has its owner, and the register is in its place
abbrev pub place_stays : List Equality → Owners → Location → Bool
place_stays es own q = option_map_or (λ r. owns own q r) (known es nobody q) true

abbrev pub register_stays : List Equality → Owners → ℕ → Bool
register_stays es own r = option_map_or (λ q. owns own q r) (standing es nowhere r) true

abbrev pub moves_stay : List Equality → Owners → List Transfer → Bool
moves_stay es own ms = list_all (λ (m : Transfer). place_stays es own m.to) ms

abbrev pub starts_stay : List Equality → Owners → List Equality → Bool
starts_stay es own begins = list_all (λ (e : Equality). place_stays es own e.place) begins

abbrev pub write_stays : List Equality → Owners → Layout → Option ℕ → Bool
write_stays es own f None = true
write_stays es own f (Some r) = place_stays es own (f r) && register_stays es own r

abbrev pub line_stays : List Equality → Certificate → ℕ → Owners → Line ℕ → Bool
line_stays es c p own l =
    moves_stay es own (moves_before c p l) && write_stays es own (layout_at c p) (line_writes l)

abbrev pub lines_stay : List Equality → Certificate → ℕ → Owners → List (Line ℕ) → Bool
lines_stay es c p own [] = moves_stay es own (moves_at c p)
lines_stay es c p own (l ∷ lines) =
    line_stays es c p own l && lines_stay es c (next_point p l) own lines

-- the registers of the machine below a bound, as calls may change them
abbrev pub machine_stays : List Equality → Owners → ℕ → Bool
machine_stays es own zero = true
machine_stays es own (suc k) = machine_stays es own k && place_stays es own (Register k)

abbrev pub block_stays : List Equality → Certificate → (p k : ℕ) → Owners → List (Line ℕ) → Bool
block_stays [] c p k own lines = true
block_stays (e ∷ es) c p k own lines =
    machine_stays (e ∷ es) own (LAST_SAVED + 1)
    && (starts_stay (e ∷ es) own (begins_at c k) && lines_stay (e ∷ es) c p own lines)

-- ---- blocks

-- what the jump of a block finds, after the moves before it; `stays` says whether all holds that
-- holds at the start of every block
abbrev pub targets_in : Certificate → Bool → Owners → Layout → Jump ℕ → Bool
targets_in c stays own f (Goto k) = stays && all_hold own (begins_at c k)
targets_in c stays own f (Branch on met otherwise) =
    (operand_held own f on.left && operand_held own f on.right)
    && (stays && (all_hold own (begins_at c met) && all_hold own (begins_at c otherwise)))
targets_in c stays own f (Return None) = true
targets_in c stays own f (Return (Some a)) = operand_held own f a.value
targets_in c stays own f Halt = true

abbrev pub jump_in : ℕ → List Equality → Certificate → (p k : ℕ) → Block ℕ → Owners → Bool
jump_in n es c p k b own =
    option_map_or
    (λ o. targets_in c (block_stays es c p k o b.lines) o (layout_at c (jump_point p b.lines))
    b.jump)
    (moved_in n (moves_at c (jump_point p b.lines)) own)
    false

abbrev pub block_in : ℕ → List Equality → Certificate → (p k : ℕ) → Block ℕ → Bool
block_in n es c p k b =
    option_map_or (jump_in n es c p k b) (option_and_then (λ o. lines_in n c p o b.lines)
    (known_in n (begins_at c k) (known es nobody))) false

abbrev pub blocks_in : ℕ → List Equality → Certificate → (p k : ℕ) → List (Block ℕ) → Bool
blocks_in n es c p k [] = true
blocks_in n es c p k (b ∷ blocks) =
    block_in n es c p k b && blocks_in n es c (jump_point p b.lines + 1) (k + 1) blocks

-- on entry
abbrev pub owner_put : (is_there : Bool) → ℕ → Option ℕ → Option ℕ
owner_put true r o = Some r
owner_put false r o = other_than r o

abbrev pub entry_holds : List (Destination ℕ) → List Equality → Owners → Bool
entry_holds ds es own =
    list_all (λ (e : Equality). owns own e.place e.register || not (is_param ds e.register)) es

abbrev pub entry_in : Code ℕ → Certificate → Bool
entry_in v c = params_placed v.params c.params && entry_right v c

abbrev pub sound_in : ℕ → Code ℕ → Certificate → Bool
sound_in n v c =
    are_apart c.everywhere && (entry_in v c && blocks_in n c.everywhere c 0 0 v.blocks)

-- where that is not beyond the limit
abbrev pub bounded : ℕ → ℕ → Option ℕ
bounded limit p = if nat_le p limit then Some p else None

-- the code for a line, with the moves before it
abbrev pub certified_line : Certificate → ℕ → Line ℕ → List (Line Location)
certified_line c p l = transfers (moves_before c p l) ++ placed_line (layout_at c p) l ∷ []
