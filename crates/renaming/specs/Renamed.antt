-- Code whose registers have other names, from line to line. Each register of the new code holds
-- values of one register of the old code, its owner. At a place of the code a register of the old
-- one may have a name: the register of the new one that holds its value there. Plain registers keep
-- their names.
use Rattle.std.specs.Prelude.{◌≡◌, ℕ, ◌+◌, ◌-◌, Bool, true, false, ◌&&◌, nat_eq, nat_lt, if◌then◌else◌, List, [], ◌∷◌, ◌++◌, length, slice_index_or, Option, Some, None, slice_get}
use Rattle.std.specs.List.{list_all}
use Rattle.std.specs.Option.{option_map_or}
use Rattle.vcode.specs.declared.place.Operand.{Operand}
use Rattle.vcode.specs.declared.place.Operand.TheVariants.{At}
use Rattle.vcode.specs.declared.place.Argument.{Argument}
use Rattle.vcode.specs.declared.line.Line.{Line}
use Rattle.vcode.specs.declared.line.Line.TheVariants.{Tick, Set, Operate, Load, Store, Alloc, Blit, Call}
use Rattle.vcode.specs.declared.line.Jump.{Jump}
use Rattle.vcode.specs.declared.line.Jump.TheVariants.{Goto, Branch, Return, Halt}
use Rattle.vcode.specs.declared.code.Block.{Block}
use Rattle.vcode.specs.Prelude.{with_line, with_jump, line_writes}
use Rattle.renaming.specs.declared.plan.Renamed.{Renamed}
use Rattle.renaming.specs.declared.names.Names.{Names as Kept}

-- ---- which names a register may have

-- which registers are plain, and whose values the registers hold that the old code doesn't have
pub record Owners : Type 0 where
  pub plain : List Bool
  pub beyond : List ℕ

abbrev pub is_plain : Owners → ℕ → Bool
is_plain o r = slice_index_or o.plain r false

abbrev pub total : Owners → ℕ
total o = length o.plain + length o.beyond

-- the register whose values this one holds
abbrev pub owner : Owners → ℕ → ℕ
owner o n = if nat_lt n (length o.plain) then n else slice_index_or o.beyond (n - length o.plain) 0

abbrev pub is_name : Owners → (register name : ℕ) → Bool
is_name o r n = nat_lt n (total o) && nat_eq (if is_plain o r then n else owner o n) r

-- ---- the names at a place

abbrev pub Names : Type 0
Names = ℕ → Option ℕ

-- the plain registers alone
abbrev pub plain_names : Owners → Names
plain_names o r = if is_plain o r then Some r else None

-- the register has this name from here on
abbrev pub called : Names → (register name : ℕ) → Names
called names r n q = if nat_eq q r then Some n else names q

abbrev pub all_called : Names → List Renamed → Names
all_called names [] = names
all_called names (x ∷ xs) = all_called (called names x.register x.name) xs

abbrev pub behind : Names → (written : Option ℕ) → (name : ℕ) → Names
behind names None n = names
behind names (Some r) n = called names r n

abbrev pub has_name : Option ℕ → (name : ℕ) → Bool
has_name None n = false
has_name (Some m) n = nat_eq m n

-- ---- what is read

abbrev pub name_or : Option ℕ → ℕ → ℕ
name_or None r = r
name_or (Some n) r = n

abbrev pub read_by : Names → Operand ℕ → Operand ℕ
read_by names (At r) = At (name_or (names r) r)
read_by names a = a

-- the operand is no register without a name
abbrev pub is_named : Names → Operand ℕ → Bool
is_named names (At r) = option_map_or (λ n. true) (names r) false
is_named names a = true

abbrev pub reads_named : Names → Line ℕ → Bool
reads_named names (Tick turn w) = true
reads_named names (Set to a) = is_named names a
reads_named names (Operate to op a b) = is_named names a && is_named names b
reads_named names (Load to op at) = is_named names at.base
reads_named names (Store size a at) = is_named names a && is_named names at.base
reads_named names (Alloc to size) = true
reads_named names (Blit from to count) = is_named names from && is_named names to
reads_named names (Call to callee args) =
    is_named names callee && list_all (λ (a : Argument ℕ). is_named names a.value) args

abbrev pub jump_named : Names → Jump ℕ → Bool
jump_named names (Goto k) = true
jump_named names (Branch on met otherwise) = is_named names on.left && is_named names on.right
jump_named names (Return None) = true
jump_named names (Return (Some a)) = is_named names a.value
jump_named names Halt = true

-- ---- lines

-- the line that writes this register, if it writes any
abbrev pub with_destination : ℕ → Line ℕ → Line ℕ
with_destination n (Set to a) = Set n a
with_destination n (Operate to op a b) = Operate n op a b
with_destination n (Load to op at) = Load n op at
with_destination n (Alloc (Some to) size) = Alloc (Some n) size
with_destination n (Call (Some to) callee args) =
    Call (Some (record { place = n; class = to.class })) callee args
with_destination n l = l

-- the second is the first by these names, behind which those hold
pub record IsRenamed (o : Owners) (names : Names) (l m : Line ℕ) (next : Names) : Type 0 where
  pub named : reads_named names l ≡ true
  pub name : ℕ
  pub fits : option_map_or (λ r. is_name o r name) (line_writes l) true ≡ true
  pub line : m ≡ with_destination name (with_line (read_by names) l)
  pub behind_it : next ≡ behind names (line_writes l) name

pub data AreRenamed (o : Owners) : Names → List (Line ℕ) → List (Line ℕ) → Names → Type 0 where
  NoLines : {names : Names} → AreRenamed o names [] [] names
  OneMore : {names next last : Names} {l m : Line ℕ} {ls ms : List (Line ℕ)} → AreRenamed o names ls ms next → IsRenamed o next l m last → AreRenamed o names (ls ++ l ∷ []) (ms ++ m ∷ []) last

-- ---- blocks

abbrev pub are_names : Owners → List Renamed → Bool
are_names o xs = list_all (λ (x : Renamed). is_name o x.register x.name) xs

abbrev pub are_met : Names → List Renamed → Bool
are_met names xs = list_all (λ (x : Renamed). has_name (names x.register) x.name) xs

abbrev pub start_at : List (List Renamed) → ℕ → List Renamed
start_at starts k = slice_index_or starts k []

abbrev pub names_at : Owners → List (List Renamed) → ℕ → Names
names_at o starts k = all_called (plain_names o) (start_at starts k)

-- where the jump leads to, the names hold with which the block begins
abbrev pub jump_meets : Names → List (List Renamed) → Jump ℕ → Bool
jump_meets names starts (Goto k) = are_met names (start_at starts k)
jump_meets names starts (Branch on met otherwise) =
    are_met names (start_at starts met) && are_met names (start_at starts otherwise)
jump_meets names starts j = true

-- these lines, and the jump by these names, which hold where it leads to
pub record IsEnded (names : Names) (starts : List (List Renamed)) (j : Jump ℕ) (d : Block ℕ) (lines : List (Line ℕ)) : Type 0 where
  pub lines_are : d.lines ≡ lines
  pub named : jump_named names j ≡ true
  pub jump : d.jump ≡ with_jump (read_by names) j
  pub meets : jump_meets names starts j ≡ true

pub record IsRenamedBlock (o : Owners) (starts : List (List Renamed)) (k : ℕ) (b d : Block ℕ) : Type 0 where
  pub begins : are_names o (start_at starts k) ≡ true
  pub names : Names
  pub lines : AreRenamed o (names_at o starts k) b.lines d.lines names
  pub ended : IsEnded names starts b.jump d d.lines

-- each block, numbered from k on
abbrev pub AllRenamed : Owners → List (List Renamed) → ℕ → List (Block ℕ) → List (Block ℕ) → Type 0
AllRenamed o starts k [] [] = Unit {0}
AllRenamed o starts k [] (d ∷ ds) = ⊥
AllRenamed o starts k (b ∷ bs) [] = ⊥
AllRenamed o starts k (b ∷ bs) (d ∷ ds) =
    IsRenamedBlock o starts k b d × AllRenamed o starts (k + 1) bs ds

-- parameters are given under their own names
abbrev pub keep_names : List Renamed → Bool
keep_names xs = list_all (λ (x : Renamed). nat_eq x.register x.name) xs

-- ---- what the code keeps of names, as the definitions have it
abbrev pub owners_of : Kept → Owners
owners_of k = record { plain = k.plain.items; beyond = k.beyond.items }

-- the name that is listed there, if it is the register's
abbrev pub named_in : Option Renamed → ℕ → Option ℕ
named_in None r = None
named_in (Some x) r = if nat_eq x.register r then Some x.name else None

abbrev pub listed : List Renamed → (place : Option ℕ) → ℕ → Option ℕ
listed xs None r = None
listed xs (Some k) r = named_in (slice_get xs k) r

abbrev pub names_of : Kept → Names
names_of k r =
    if is_plain (owners_of k) r then Some r else listed k.named.items (slice_get k.places.items r) r
