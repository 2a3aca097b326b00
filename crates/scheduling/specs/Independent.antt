-- Which lines may change places with the next one: neither names a place that the other writes, and
-- nothing that happens to memory, that ends the run, or that was spent tells which came first.
use Rattle.std.specs.Prelude.{Bool, true, false, not, ◌&&◌, Option, Some, None, ℕ, zero, suc, ◌+◌, if◌then◌else◌, List, [], ◌∷◌, slice_get}
use Rattle.vcode.specs.declared.place.Location.{Location}
use Rattle.vcode.specs.declared.line.Operation.TheVariants.{Reg, RegW, Compare}
use Rattle.vcode.specs.declared.line.Line.{Line}
use Rattle.vcode.specs.declared.line.Line.TheVariants.{Tick, Set, Operate, Load, Store, Alloc, Blit, Call}
use Rattle.vcode.specs.Prelude.{same_location, line_keeps, line_writes}
use Rattle.scheduling.specs.declared.independent.Kind.{Kind}
use Rattle.scheduling.specs.declared.independent.Kind.TheVariants.{Ticking, Plain, Reading, Writing, Fixed}
use Rattle.vcode.specs.declared.code.Block.{Block}
use Rattle.vcode.specs.declared.code.Code.{Code}

-- what a line has to do with memory and with what was spent
abbrev pub kind_of : Line Location → Kind
kind_of (Tick turn w) = Ticking
kind_of (Set to a) = Plain
kind_of (Operate to (Reg op) a b) = Plain
kind_of (Operate to (RegW op) a b) = Plain
kind_of (Operate to (Compare on k) a b) = Reading
kind_of (Load to op at) = Reading
kind_of (Store size a at) = Writing
kind_of (Alloc to size) = Fixed
kind_of (Blit from to count) = Writing
kind_of (Call to callee args) = Fixed

-- Nothing goes up over a tick but other ticks stay in order: a tick may end the run, so what may
-- fail has to stay behind it, and it pays for what is behind it.
abbrev pub may_swap : Kind → Kind → Bool
may_swap Plain Fixed = false
may_swap Plain k = true
may_swap Reading Ticking = true
may_swap Reading Plain = true
may_swap Reading Reading = true
may_swap Reading k = false
may_swap Writing Ticking = true
may_swap Writing Plain = true
may_swap Writing k = false
may_swap j k = false

-- another place than p
abbrev pub differs : Location → Location → Bool
differs p q = not (same_location q p)

-- the line names no such place
abbrev pub is_unnamed : Option Location → Line Location → Bool
is_unnamed None l = true
is_unnamed (Some p) l = line_keeps (differs p) l

abbrev pub is_independent : Line Location → Line Location → Bool
is_independent l m =
    may_swap (kind_of l) (kind_of m) && (is_unnamed (line_writes l) m && is_unnamed (line_writes m) l)

-- ---- the code by a plan of swaps
abbrev pub are_independent : (first second : Option (Line Location)) → Bool
are_independent (Some l) (Some m) = is_independent l m
are_independent first second = false

-- there are a line and a next one, which may change places
abbrev pub is_swap : ℕ → List (Line Location) → Bool
is_swap at lines = are_independent (slice_get lines at) (slice_get lines (at + 1))

-- the line there and the next one change places, where they may
abbrev pub swapped : ℕ → List (Line Location) → List (Line Location)
swapped at [] = []
swapped zero (l ∷ []) = l ∷ []
swapped zero (l ∷ m ∷ lines) = if is_independent l m then m ∷ l ∷ lines else l ∷ m ∷ lines
swapped (suc at) (l ∷ lines) = l ∷ swapped at lines

-- one swap after another
abbrev pub reordered : List ℕ → List (Line Location) → List (Line Location)
reordered [] lines = lines
reordered (at ∷ swaps) lines = reordered swaps (swapped at lines)

abbrev pub scheduled_block : List ℕ → Block Location → Block Location
scheduled_block swaps b = record { lines = reordered swaps b.lines; jump = b.jump }

abbrev pub swaps_in : Option (List ℕ) → List ℕ
swaps_in None = []
swaps_in (Some swaps) = swaps

-- those of a block; none where the plan names none
abbrev pub swaps_at : List (List ℕ) → ℕ → List ℕ
swaps_at plan number = swaps_in (slice_get plan number)

-- blocks, of which the first has this number
abbrev pub scheduled_blocks : List (List ℕ) → ℕ → List (Block Location) → List (Block Location)
scheduled_blocks plan number [] = []
scheduled_blocks plan number (b ∷ blocks) =
    scheduled_block (swaps_at plan number) b ∷ scheduled_blocks plan (number + 1) blocks

abbrev pub scheduled : List (List ℕ) → Code Location → Code Location
scheduled plan f =
    record { result = f.result; params = f.params; blocks = scheduled_blocks plan 0 f.blocks }
