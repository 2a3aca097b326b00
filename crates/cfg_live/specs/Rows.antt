-- Sets of live registers, one for each point, and what is asked of them.
use Rattle.std.specs.Prelude.{◌≡◌, ℕ, zero, suc, Bool, true, false, nat_eq, slice_get, ◌<◌, not, ◌||◌, ◌&&◌, nat_lt, List, [], ◌∷◌, length, Some, MatchBool, ◌+◌, ◌++◌, Option, None, ◌↔◌}
use Rattle.std.specs.List.{list_any, list_all}
use Rattle.std.specs.Option.{option_map_or}
use Rattle.cfg_live.specs.declared.uses.Uses.{Uses}
use Rattle.cfg_live.specs.declared.graph.Graph.{Graph}
use Rattle.bitset.specs.Bits.{Bits, is_member}
use Rattle.vcode.specs.declared.line.Line.{Line}
use Rattle.vcode.specs.declared.line.Line.TheVariants.{Tick}
use Rattle.vcode.specs.declared.line.Jump.{Jump}
use Rattle.vcode.specs.declared.line.Jump.TheVariants.{Goto, Branch, Return, Halt}
use Rattle.vcode.specs.declared.code.Block.{Block}
use Rattle.vcode.specs.declared.code.Code.{Code}
use Rattle.cfg_live.specs.Registers.{line_reads, line_writes, jump_reads}

-- ---- liveness: right before a point a register is live where some path from there reads it before it
-- is written.

-- whether p reads the register; there may be no such point
abbrev pub reads : Graph → ℕ → ℕ → Bool
reads g p r =
    option_map_or (λ (u : Uses). list_any (λ k. nat_eq k r) u.reads) (slice_get g.uses p) false

abbrev pub writes : Graph → ℕ → ℕ → Bool
writes g p r =
    option_map_or (λ (u : Uses). option_map_or (λ k. nat_eq k r) u.writes false)
    (slice_get g.uses p) false

-- whether q may come right after p
abbrev pub leads : Graph → ℕ → ℕ → Bool
leads g p q = option_map_or (λ ks. list_any (λ k. nat_eq k q) ks) (slice_get g.nexts p) false

-- a path of n points from p, none of which writes the register, leads to one that reads it
abbrev pub LivePath : Graph → (r n p : ℕ) → Type 0
LivePath g r zero p = reads g p r ≡ true
LivePath g r (suc n) p =
    (writes g p r ≡ false) × ((q : ℕ) × (leads g p q ≡ true) × LivePath g r n q)

abbrev pub IsLive : Graph → (p r : ℕ) → Type 0
IsLive g p r = (n : ℕ) × LivePath g r n p

-- whether the set of point p has the register; there may be no such point
abbrev pub holds : List Bits → ℕ → ℕ → Bool
holds rows p r = option_map_or (λ (s : Bits). is_member s r) (slice_get rows p) false

-- each mark has a path
abbrev pub Justified : Graph → List Bits → Type 0
Justified g rows = (p r : ℕ) → holds rows p r ≡ true → IsLive g p r

-- what is read or live behind is marked
pub record Closed (g : Graph) (registers : ℕ) (rows : List Bits) : Type 0 where
  pub read : (p r : ℕ) → r < registers → reads g p r ≡ true → holds rows p r ≡ true
  pub behind : (p q r : ℕ) → r < registers → writes g p r ≡ false → leads g p q ≡ true →
      holds rows q r ≡ true → holds rows p r ≡ true

-- the sets have just the live registers
pub record AreLive (g : Graph) (registers : ℕ) (rows : List Bits) : Type 0 where
  pub marked : (p r : ℕ) → r < registers → IsLive g p r → holds rows p r ≡ true
  pub live : (p r : ℕ) → holds rows p r ≡ true → IsLive g p r
  pub known : (p r : ℕ) → holds rows p r ≡ true → r < registers

-- ---- how the sets come to be closed

-- whether the set of one of the points has the register
abbrev pub any_holds : List Bits → ℕ → List ℕ → Bool
any_holds rows r [] = false
any_holds rows r (p ∷ ps) = holds rows p r || any_holds rows r ps

-- the points that may come right after p
abbrev pub next_of : Graph → ℕ → List ℕ
next_of g p = option_map_or (λ (ks : List ℕ). ks) (slice_get g.nexts p) []

-- what p has to hold by what the sets behind it have
abbrev pub flows : Graph → ℕ → List Bits → ℕ → ℕ → Bool
flows g registers rows p r =
    (nat_lt r registers && reads g p r) || (any_holds rows r (next_of g p) && not (writes g p r))

-- whether only points of higher numbers may come right after p
abbrev pub goes_on : Graph → ℕ → Bool
goes_on g p = option_map_or (λ (ks : List ℕ). list_all (λ q. nat_lt p q) ks) (slice_get g.nexts p) true

-- it holds that
abbrev pub Stable : Graph → ℕ → List Bits → ℕ → Type 0
Stable g registers rows p = (r : ℕ) → flows g registers rows p r ≡ true → holds rows p r ≡ true

-- sets of numbers below one length
pub record AreSized (registers : ℕ) (rows : List Bits) : Type 0 where
  pub lengths : (p : ℕ) (s : Bits) → slice_get rows p ≡ Some s → s.length ≡ registers
  pub known : (p r : ℕ) → holds rows p r ≡ true → r < registers

-- the sets grew, by live registers alone
pub record Went (g : Graph) (registers : ℕ) (old new : List Bits) : Type 0 where
  pub as_many : length new ≡ length old
  pub sized : AreSized registers new
  pub kept : (p r : ℕ) → holds old p r ≡ true → holds new p r ≡ true
  pub justified : Justified g old → Justified g new

-- a mark that came in
pub record NewMark (registers : ℕ) (old new : List Bits) : Type 0 where
  pub point : ℕ
  pub register : ℕ
  pub inside : point < length old
  pub below : register < registers
  pub was_out : holds old point register ≡ false
  pub is_in : holds new point register ≡ true

abbrev pub SameMarks : (old new : List Bits) → Type 0
SameMarks old new = (p r : ℕ) → holds new p r ≡ holds old p r

-- whether a mark came in
abbrev pub Changed : ℕ → (old new : List Bits) → Bool → Type 0
Changed registers old new changed =
    MatchBool changed (NewMark registers old new) (SameMarks old new)

-- empty sets of numbers below one length
pub record AreBlank (registers : ℕ) (rows : List Bits) : Type 0 where
  pub lengths : (p : ℕ) (s : Bits) → slice_get rows p ≡ Some s → s.length ≡ registers
  pub empty : (p r : ℕ) → holds rows p r ≡ false

-- ---- the points of virtual code, numbered from 0 in the order of its text: its lines but for ticks,
-- and its jumps.
-- ---- what each point reads and writes

abbrev pub line_uses : Line ℕ → Uses
line_uses l = record { reads = line_reads l; writes = line_writes l }

abbrev pub jump_uses : Jump ℕ → Uses
jump_uses j = record { reads = jump_reads j; writes = None }

-- a tick is no point
abbrev pub with_line : List Uses → Line ℕ → List Uses
with_line us (Tick turn w) = us
with_line us l = us ++ line_uses l ∷ []

abbrev pub with_lines : List Uses → List (Line ℕ) → List Uses
with_lines us [] = us
with_lines us (l ∷ lines) = with_lines (with_line us l) lines

abbrev pub with_block : List Uses → Block ℕ → List Uses
with_block us b = with_lines us b.lines ++ jump_uses b.jump ∷ []

abbrev pub with_blocks : List Uses → List (Block ℕ) → List Uses
with_blocks us [] = us
with_blocks us (b ∷ blocks) = with_blocks (with_block us b) blocks

abbrev pub uses : List (Block ℕ) → List Uses
uses blocks = with_blocks [] blocks

-- the first point of each block, after so many points
abbrev pub starts_after : List Uses → List (Block ℕ) → List ℕ
starts_after us [] = []
starts_after us (b ∷ blocks) = length us ∷ starts_after (with_block us b) blocks

abbrev pub starts : List (Block ℕ) → List ℕ
starts blocks = starts_after [] blocks

-- ---- which points may come next

-- the first point of block k, if there is one
abbrev pub with_start : List ℕ → Option ℕ → List ℕ
with_start next None = next
with_start next (Some p) = next ++ p ∷ []

abbrev pub jump_next : List ℕ → Jump ℕ → List ℕ
jump_next firsts (Goto k) = with_start [] (slice_get firsts k)
jump_next firsts (Branch on met otherwise) =
    with_start (with_start [] (slice_get firsts met)) (slice_get firsts otherwise)
jump_next firsts (Return a) = []
jump_next firsts Halt = []

abbrev pub after_point : ℕ → List ℕ
after_point p = (p + 1) ∷ []

-- after a line, the point behind it
abbrev pub next_line : List (List ℕ) → Line ℕ → List (List ℕ)
next_line ns (Tick turn w) = ns
next_line ns l = ns ++ after_point (length ns) ∷ []

abbrev pub next_lines : List (List ℕ) → List (Line ℕ) → List (List ℕ)
next_lines ns [] = ns
next_lines ns (l ∷ lines) = next_lines (next_line ns l) lines

abbrev pub next_block : List ℕ → List (List ℕ) → Block ℕ → List (List ℕ)
next_block firsts ns b = next_lines ns b.lines ++ jump_next firsts b.jump ∷ []

abbrev pub next_blocks : List ℕ → List (List ℕ) → List (Block ℕ) → List (List ℕ)
next_blocks firsts ns [] = ns
next_blocks firsts ns (b ∷ blocks) = next_blocks firsts (next_block firsts ns b) blocks

abbrev pub nexts : List (Block ℕ) → List (List ℕ)
nexts blocks = next_blocks (starts blocks) [] blocks

-- ---- both

abbrev pub graph_of : Code ℕ → Graph
graph_of f = record { uses = uses f.blocks; nexts = nexts f.blocks }

-- ---- laws of liveness

-- sets that are justified and closed have just the live registers, however they were found
abbrev pub ClosedIsExact : Type 0
ClosedIsExact =
    (g : Graph) (registers : ℕ) (rows : List Bits)
    → Justified g rows
    → Closed g registers rows
    → (p r : ℕ)
    → r < registers
    → (holds rows p r ≡ true) ↔ IsLive g p r
