-- Code without its dead lines: those that do nothing but write a register that isn't wanted behind
-- them. A block of memory stays, but loses a register that isn't wanted.
use Rattle.std.specs.Prelude.{◌≡◌, ℕ, Bool, true, false, not, ◌&&◌, ◌||◌, nat_eq, if◌then◌else◌, List, [], ◌∷◌, slice_get, Option, Some, None}
use Rattle.std.specs.List.{list_any}
use Rattle.std.specs.Option.{option_map_or}
use Rattle.bitset.specs.Bits.{Bits, is_member}
use Rattle.vcode.specs.declared.place.Operand.{Operand}
use Rattle.vcode.specs.declared.place.Operand.TheVariants.{At}
use Rattle.vcode.specs.declared.place.Argument.{Argument}
use Rattle.vcode.specs.declared.line.Line.{Line}
use Rattle.vcode.specs.declared.line.Line.TheVariants.{Tick, Set, Operate, Load, Store, Alloc, Blit, Call}
use Rattle.vcode.specs.declared.line.Jump.{Jump}
use Rattle.vcode.specs.declared.line.Jump.TheVariants.{Goto, Branch, Return, Halt}
use Rattle.vcode.specs.declared.code.Block.{Block}
use Rattle.vcode.specs.Prelude.{line_writes}

-- the registers whose values are still used
abbrev pub Wanted : Type 0
Wanted = ℕ → Bool

-- the register that a line writes, if it does nothing else
abbrev pub only_writes : Line ℕ → Option ℕ
only_writes (Set to a) = Some to
only_writes (Operate to op a b) = Some to
only_writes (Load to op at) = Some to
only_writes l = None

abbrev pub is_dead : Wanted → Line ℕ → Bool
is_dead wanted l = option_map_or (λ r. not (wanted r)) (only_writes l) false

abbrev pub names_it : Operand ℕ → ℕ → Bool
names_it (At k) r = nat_eq k r
names_it a r = false

abbrev pub reads_it : Line ℕ → ℕ → Bool
reads_it (Tick turn w) r = false
reads_it (Set to a) r = names_it a r
reads_it (Operate to op a b) r = names_it a r || names_it b r
reads_it (Load to op at) r = names_it at.base r
reads_it (Store size a at) r = names_it a r || names_it at.base r
reads_it (Alloc to size) r = false
reads_it (Blit from to count) r = names_it from r || names_it to r
reads_it (Call to callee args) r = names_it callee r || list_any (λ (a : Argument ℕ). names_it a.value r) args

abbrev pub writes_it : Line ℕ → ℕ → Bool
writes_it l r = option_map_or (λ k. nat_eq k r) (line_writes l) false

-- what is wanted right before a line that stays: what it reads, and all that is wanted behind it
-- but what it writes
abbrev pub wanted_above : Wanted → Line ℕ → Wanted
wanted_above wanted l r = (wanted r && not (writes_it l r)) || reads_it l r

-- what is wanted right before lines behind which `out` is: a dead line reads nothing
abbrev pub wanted_at : Wanted → List (Line ℕ) → Wanted
wanted_at out [] = out
wanted_at out (l ∷ lines) =
    if is_dead (wanted_at out lines) l then wanted_at out lines
    else wanted_above (wanted_at out lines) l

-- a block of memory whose address isn't wanted has no register for it
abbrev pub as_wanted : Wanted → Line ℕ → Line ℕ
as_wanted wanted (Alloc (Some to) size) = Alloc (if wanted to then Some to else None) size
as_wanted wanted l = l

abbrev pub kept_lines : Wanted → List (Line ℕ) → List (Line ℕ)
kept_lines out [] = []
kept_lines out (l ∷ lines) =
    if is_dead (wanted_at out lines) l then kept_lines out lines
    else as_wanted (wanted_at out lines) l ∷ kept_lines out lines

-- ---- blocks

-- whether a register is wanted at the beginning of a block, by a set of `registers` for each
abbrev pub held : (registers : ℕ) → List Bits → ℕ → Wanted
held registers starts k r =
    option_map_or (λ (s : Bits). nat_eq s.length registers && is_member s r) (slice_get starts k)
    false

-- what is wanted behind the lines of a block: what its jump reads, and what is wanted where it leads
abbrev pub wanted_behind : ℕ → List Bits → Jump ℕ → Wanted
wanted_behind n starts (Goto k) r = held n starts k r
wanted_behind n starts (Branch on met otherwise) r =
    ((held n starts met r || held n starts otherwise r) || names_it on.left r)
    || names_it on.right r
wanted_behind n starts (Return None) r = false
wanted_behind n starts (Return (Some a)) r = names_it a.value r
wanted_behind n starts Halt r = false

abbrev pub kept_block : ℕ → List Bits → Block ℕ → Block ℕ
kept_block n starts b =
    record { lines = kept_lines (wanted_behind n starts b.jump) b.lines; jump = b.jump }

-- what a block wants at its beginning
abbrev pub wanted_in : ℕ → List Bits → Block ℕ → Wanted
wanted_in n starts b = wanted_at (wanted_behind n starts b.jump) b.lines

-- no block wants more
abbrev pub Closed : ℕ → List Bits → List (Block ℕ) → Type 0
Closed n starts blocks =
    (k : ℕ) (b : Block ℕ) →
    slice_get blocks k ≡ Some b → (r : ℕ) → wanted_in n starts b r ≡ true → held n starts k r ≡ true
