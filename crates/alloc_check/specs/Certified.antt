-- What a certificate makes of virtual code, and what makes it right.
use Rattle.std.specs.Prelude.{◌≡◌, ℕ, Bool, true, false, ◌&&◌, nat_eq, if◌then◌else◌, List, [], ◌∷◌, Option, Some, None, ◌+◌, not, ◌||◌, ◌++◌, map, slice_get}
use Rattle.std.specs.List.{list_all, list_any}
use Rattle.std.specs.Option.{option_map_or}
use Rattle.il_ast.specs.declared.value.Value.{Value}
use Rattle.vcode.specs.declared.place.Location.{Location}
use Rattle.vcode.specs.declared.place.Operand.{Operand}
use Rattle.vcode.specs.declared.place.Operand.TheVariants.{At}
use Rattle.vcode.specs.declared.place.Argument.{Argument}
use Rattle.vcode.specs.declared.place.Destination.{Destination}
use Rattle.vcode.specs.declared.line.Line.{Line}
use Rattle.vcode.specs.declared.line.Line.TheVariants.{Tick, Set, Operate, Load, Store, Alloc, Blit, Call}
use Rattle.vcode.specs.Prelude.{Values, same_location, is_callers}
use Rattle.certificates.specs.declared.certificate.Equality.{Equality}
use Rattle.certificates.specs.declared.certificate.Transfer.{Transfer}
use Rattle.alloc_check.specs.Placed.{Layout, placed_line, placed_jump}
use Rattle.vcode.specs.declared.place.Location.TheVariants.{Register}
use Rattle.vcode.specs.declared.line.Jump.{Jump}
use Rattle.vcode.specs.declared.line.Jump.TheVariants.{Goto, Branch, Return, Halt}
use Rattle.vcode.specs.declared.code.Block.{Block}
use Rattle.vcode.specs.declared.code.Code.{Code}
use Rattle.certificates.specs.declared.certificate.Certificate.{Certificate}
pub use Rattle.certificates.specs.Listed.{next_point, jump_point}

-- ---- whose value each place holds, as far as that is known

-- the register whose value a place holds; a register may have several places
abbrev pub Owners : Type 0
Owners = Location → Option ℕ

abbrev pub nobody : Owners
nobody q = None

-- where the owner has a value, its place has that
abbrev pub Agrees : Owners → Values ℕ → Values Location → Type 0
Agrees own ev el =
    (q : Location) (r : ℕ) (v : Value) → own q ≡ Some r → ev r ≡ Some v → el q ≡ Some v

abbrev pub other_than : ℕ → Option ℕ → Option ℕ
other_than r None = None
other_than r (Some k) = if nat_eq k r then None else Some k

-- the register is written there, and is nowhere else
abbrev pub own_put : Location → ℕ → Owners → Owners
own_put d r own q = if same_location q d then Some r else other_than r (own q)

abbrev pub own_move : Transfer → Owners → Owners
own_move m own q = if same_location q m.to then own m.from else own q

-- after a call
abbrev pub own_kept : Owners → Owners
own_kept own q = if is_callers q then None else own q

-- it is there too
abbrev pub own_also : Equality → Owners → Owners
own_also e own q = if same_location q e.place then Some e.register else own q

abbrev pub moved : List Transfer → Owners → Owners
moved [] own = own
moved (m ∷ ms) own = moved ms (own_move m own)

abbrev pub known : List Equality → Owners → Owners
known [] own = own
known (e ∷ es) own = known es (own_also e own)

-- ---- where registers are

abbrev pub nowhere : ℕ → Option Location
nowhere r = None

abbrev pub stand_also : Equality → (ℕ → Option Location) → ℕ → Option Location
stand_also e f r = if nat_eq r e.register then Some e.place else f r

-- each at the place of the last equality that names it
abbrev pub standing : List Equality → (ℕ → Option Location) → ℕ → Option Location
standing [] f = f
standing (e ∷ es) f = standing es (stand_also e f)

-- ---- what is asked

abbrev pub owns : Owners → Location → ℕ → Bool
owns own d r = option_map_or (λ k. nat_eq k r) (own d) false

abbrev pub operand_held : Owners → Layout → Operand ℕ → Bool
operand_held own f (At r) = owns own (f r) r
operand_held own f a = true

abbrev pub args_held : Owners → Layout → List (Argument ℕ) → Bool
args_held own f args = list_all (λ a. operand_held own f a.value) args

abbrev pub all_hold : Owners → List Equality → Bool
all_hold own es = list_all (λ e. owns own e.place e.register) es

abbrev pub is_at : Location → Option Location → Bool
is_at d p = option_map_or (λ q. same_location q d) p false

-- no register has two of the places, and no place two registers: each equality is the one of its
-- place and of its register
abbrev pub are_apart : List Equality → Bool
are_apart es =
    list_all (λ e. owns (known es nobody) e.place e.register
    && is_at e.place (standing es nowhere e.register)) es

-- ---- the owners after a line, if it finds what it reads

abbrev pub where_held : Bool → Owners → Option Owners
where_held true own = Some own
where_held false own = None

abbrev pub received : Layout → Option (Destination ℕ) → Owners → Owners
received f None own = own
received f (Some d) own = own_put (f d.place) d.place own

abbrev pub made : Layout → Option ℕ → Owners → Owners
made f None own = own
made f (Some r) own = own_put (f r) r own

abbrev pub after_line : Owners → Layout → Line ℕ → Option Owners
after_line own f (Tick turn w) = Some own
after_line own f (Set to a) = where_held (operand_held own f a) (own_put (f to) to own)
after_line own f (Operate to op a b) =
    where_held (operand_held own f a && operand_held own f b) (own_put (f to) to own)
after_line own f (Load to op at) = where_held (operand_held own f at.base) (own_put (f to) to own)
after_line own f (Store size a at) =
    where_held (operand_held own f a && operand_held own f at.base) own
after_line own f (Alloc to size) = Some (made f to own)
after_line own f (Blit from to count) =
    where_held (operand_held own f from && operand_held own f to) own
after_line own f (Call to callee args) =
    where_held (operand_held own f callee && args_held own f args) (received f to (own_kept own))

-- ---- what it says of a point or a block; nothing where it is too short

abbrev pub moves_at : Certificate → ℕ → List Transfer
moves_at c p = option_map_or (λ (ms : List Transfer). ms) (slice_get c.moves p) []

abbrev pub begins_at : Certificate → ℕ → List Equality
begins_at c k = option_map_or (λ (es : List Equality). es) (slice_get c.starts k) []

-- what holds where block k begins: what holds at the start of every block, and what is said of this
-- one
abbrev pub starts_at : Certificate → ℕ → List Equality
starts_at c k = c.everywhere ++ begins_at c k

-- the place of the register by the first equality that names it; where none does it is x0, which no
-- code may name
abbrev pub place_by : List Equality → Layout
place_by [] r = Register 0
place_by (e ∷ es) r = if nat_eq e.register r then e.place else place_by es r

abbrev pub places_at : Certificate → ℕ → List Equality
places_at c p = option_map_or (λ (es : List Equality). es) (slice_get c.places p) []

abbrev pub layout_at : Certificate → ℕ → Layout
layout_at c p = place_by (places_at c p)

-- ---- the code

abbrev pub transfers : List Transfer → List (Line Location)
transfers ms = map (λ m. Set m.to (At m.from)) ms

-- lines from point p on, moves before each point; last those before the jump
abbrev pub certified_lines : Certificate → ℕ → List (Line ℕ) → List (Line Location)
certified_lines c p [] = transfers (moves_at c p)
certified_lines c p (Tick turn w ∷ lines) = Tick turn w ∷ certified_lines c p lines
certified_lines c p (l ∷ lines) =
    transfers (moves_at c p) ++ placed_line (layout_at c p) l ∷ certified_lines c (p + 1) lines

abbrev pub certified_block : Certificate → ℕ → Block ℕ → Block Location
certified_block c p b =
    record {
      lines = certified_lines c p b.lines;
      jump = placed_jump (layout_at c (jump_point p b.lines)) b.jump;
    }

abbrev pub certified_blocks : Certificate → ℕ → List (Block ℕ) → List (Block Location)
certified_blocks c p [] = []
certified_blocks c p (b ∷ blocks) =
    certified_block c p b ∷ certified_blocks c (jump_point p b.lines + 1) blocks

-- each parameter at the place that the certificate has for it
abbrev pub certified_params : List (Destination ℕ) → List Location → List (Destination Location)
certified_params [] qs = []
certified_params (d ∷ ds) [] = []
certified_params (d ∷ ds) (q ∷ qs) = record { place = q; class = d.class } ∷ certified_params ds qs

abbrev pub placed_by : Code ℕ → Certificate → Code Location
placed_by v c =
    record {
      result = v.result;
      params = certified_params v.params c.params;
      blocks = certified_blocks c 0 v.blocks;
    }

-- ---- what makes it right

-- a jump finds what it reads, and what its targets ask for
abbrev pub jump_right : Certificate → Owners → Layout → Jump ℕ → Bool
jump_right c own f (Goto k) = all_hold own (starts_at c k)
jump_right c own f (Branch on met otherwise) =
    (operand_held own f on.left && operand_held own f on.right)
    && (all_hold own (starts_at c met) && all_hold own (starts_at c otherwise))
jump_right c own f (Return None) = true
jump_right c own f (Return (Some a)) = operand_held own f a.value
jump_right c own f Halt = true

-- each line from point p on finds what it reads, and so does the jump
abbrev pub lines_right : Certificate → ℕ → Owners → Jump ℕ → List (Line ℕ) → Bool
lines_right c p own j [] = jump_right c (moved (moves_at c p) own) (layout_at c p) j
lines_right c p own j (Tick turn w ∷ lines) = lines_right c p own j lines
lines_right c p own j (l ∷ lines) =
    option_map_or (λ (o : Owners). lines_right c (p + 1) o j lines)
    (after_line (moved (moves_at c p) own) (layout_at c p) l) false

-- block k, from point p, begins with what the certificate says of it
abbrev pub blocks_right : Certificate → (p k : ℕ) → List (Block ℕ) → Bool
blocks_right c p k [] = true
blocks_right c p k (b ∷ blocks) =
    lines_right c p (known (starts_at c k) nobody) b.jump b.lines
    && blocks_right c (jump_point p b.lines + 1) (k + 1) blocks

-- on entry each parameter's place is its own
abbrev pub own_params : List (Destination ℕ) → List Location → Owners → Owners
own_params [] qs own = own
own_params (d ∷ ds) [] own = own
own_params (d ∷ ds) (q ∷ qs) own = own_params ds qs (own_put q d.place own)

abbrev pub is_param : List (Destination ℕ) → ℕ → Bool
is_param ds r = list_any (λ (d : Destination ℕ). nat_eq r d.place) ds

-- what the first block asks for: of parameters that it holds; other registers have no value yet
abbrev pub entry_right : Code ℕ → Certificate → Bool
entry_right v c =
    list_all (λ (e : Equality). owns (own_params v.params c.params nobody) e.place e.register
    || not (is_param v.params e.register)) (starts_at c 0)

-- each parameter has a place
abbrev pub params_placed : List (Destination ℕ) → List Location → Bool
params_placed [] qs = true
params_placed (d ∷ ds) [] = false
params_placed (d ∷ ds) (q ∷ qs) = params_placed ds qs

-- the certificate keeps the code
abbrev pub is_sound : Code ℕ → Certificate → Bool
is_sound v c = params_placed v.params c.params && (entry_right v c && blocks_right c 0 0 v.blocks)
