-- What holds at each line while the machine follows the code on bytes, and what is to be shown of it.
use Rattle.std.proofs.Common.{◌≡◌, ℕ, suc, ◌+◌, ◌-◌, ◌*◌, ◌%◌, ◌<◌, ◌≤◌, Bool, true, false, refl, List, ◌∷◌, ◌++◌, ◌∙◌, ap, subst, arith, lit<, append_assoc, ◌&&◌, ◌||◌, nat_le, length, slice_get, Some, max}
use Rattle.il_ast.specs.declared.limits.TheConstants.{FUNCTION_WEIGHT}
use Rattle.il_ast.specs.declared.value.End.TheVariants.{Undefined}
use Rattle.il_ast.specs.Prelude.{Spent, one_call, Entry, LoggedEvent, Logged}
use Rattle.abi_frames.proofs.Shared.{State, Item, Location, InRegister, Slot, Line, Jump, Block, Code, Label, list_all, list_any, sum_by, and_parts, leb-true, longest_size, sum_by-cons, Comes, number_at, is_place, line_keeps, jump_keeps}
use Rattle.rv_isa.specs.Prelude.{Fixed}
use Rattle.rv_isa.proofs.RunLemmas.{comes_then}
use Rattle.vcode.specs.Prelude.{area, turns_of, alloc_bytes, is_alloc, leads_inside, line_cost, jump_cost, affords}
use Rattle.flat_code.specs.Flat.{Spots, FlatGiven, FlatAsked, FlatOutcome, FlatEnded, flat_after}
use Rattle.flat_code.specs.Step.{FlatState, FlatEvent, Numbers, flat_step}
use Rattle.abi_frames.specs.Performs.{Performs, AllPerform, args_on_stack, most_in_lines, is_register, writes, is_call, falls_through}
use Rattle.abi_frames.specs.Emission.{line_items, lines_items, jump_items, epilogue, end_items}
use Rattle.abi_frames.proofs.Pacing.{landing, standing}
use Rattle.operation_code.proofs.Leading.{StandAt, Reaches, Leads}
use Rattle.abi_frames.proofs.Activations.{Setting, IsSetting, site, bottom, slot_at, save_at, value_at, place_is, Framed, held_below, is_among, MayWrite, next_index}
use Rattle.frame_ways.specs.Plans.{leads}
use Rattle.abi_frames.proofs.LineCode.{Scratched}
use Rattle.abi_frames.proofs.Sizes.{line_size}

-- ---- what is known of the code

-- the lines of a block stand at this place, and begin with so much paid for
pub record BlockStands (c : Setting) (b : Block Location) (i : ℕ) : Type 0 where
  pub rest : List Item
  pub at : ℕ
  pub credit : ℕ
  pub stands : StandAt (site c) ((lines_items c.layout 0 b.lines ++ end_items c.layout c.saved i b) ++ (Label (i + 1) ∷ rest)) at
  pub known : list_all (line_keeps (is_place c.slots)) b.lines ≡ true
  pub jump_known : jump_keeps (is_place c.slots) b.jump ≡ true
  pub paid : affords credit b.jump b.lines ≡ true
  pub paced : sum_by turns_of b.lines ≤ FUNCTION_WEIGHT
  pub blocks : ℕ
  pub inside : leads_inside blocks b.jump ≡ true
  pub room : sum_by alloc_bytes b.lines ≤ c.area
  pub made_first : 0 < i → list_any is_alloc b.lines ≡ false
  pub passes : 8 * most_in_lines b.lines ≤ c.layout.saves
  pub goes : leads c.reached b.jump ≡ true
  pub may : (q : ℕ) (l : Line Location) → slice_get b.lines q ≡ Some l → (to : Location) → is_place c.slots to ≡ true
      → ((n : ℕ) → is_register n to ≡ writes n l) → MayWrite c.saved to
  pub calls : (q : ℕ) (l : Line Location) → slice_get b.lines q ≡ Some l → is_call l ≡ true → (c.floor ≡ bottom c) × (is_among 1 c.saved ≡ true)

-- at a place that is known, and with so much
pub record BlockAt (c : Setting) (b : Block Location) (i at credit : ℕ) : Type 0 where
  pub block : BlockStands c b i
  pub here : block.at ≡ at
  pub given : block.credit ≡ credit

-- they stand at the block's label, and begin with nothing
abbrev pub OwnBlock : Setting → Block Location → ℕ → Type 0
OwnBlock c b i = BlockAt c b i (c.label i) 0

-- the instructions that are paid for, less those of the frame's end
abbrev pub allowed : FlatState → ℕ
allowed fs = 32 * fs.spent.weight + 256 * (1 + fs.spent.calls)

-- ---- what holds at a line, and at a jump

pub record At (c : Setting) (f : Code Location) (b : Block Location) (lines : List (Line Location)) (fs : FlatState) (k : ℕ) (u : State) : Type 0 where
  pub block : slice_get f.blocks fs.block ≡ Some b
  pub ahead : (i : ℕ) → slice_get b.lines (fs.next + i) ≡ slice_get lines i
  pub rest : List Item
  pub used : ℕ
  pub stands : StandAt (site c) ((lines_items c.layout used lines ++ end_items c.layout c.saved fs.block b) ++ (Label (fs.block + 1) ∷ rest)) u.pc
  pub fixed : Fixed c.world.memory_map u
  pub framed : Framed c fs.numbers fs.memory u
  pub comes : Comes c.start k u
  pub output : u.output ≡ c.start.output ++ fs.spent.output
  pub known : list_all (line_keeps (is_place c.slots)) lines ≡ true
  pub jump_known : jump_keeps (is_place c.slots) b.jump ≡ true
  pub credit : ℕ
  pub paid : affords credit b.jump lines ≡ true
  pub price : k + credit + c.reserve ≤ allowed fs
  pub pace : fs.spent.turns + sum_by turns_of lines ≤ FUNCTION_WEIGHT * k + standing f fs.block
  pub blocks : ℕ
  pub inside : leads_inside blocks b.jump ≡ true
  pub room : used + sum_by alloc_bytes lines ≤ c.area
  pub used_is : list_any is_alloc lines ≡ true → fs.used ≡ used
  pub passes : 8 * most_in_lines lines ≤ c.layout.saves
  pub stood : BlockStands c b fs.block

pub record AtJump (c : Setting) (f : Code Location) (j : Jump Location) (fs : FlatState) (k : ℕ) (u : State) : Type 0 where
  pub rest : List Item
  pub left : ℕ
  pub stands : StandAt (site c) (jump_items c.layout c.saved (fs.block + 1) left j ++ (Label (fs.block + 1) ∷ rest)) u.pc
  pub fixed : Fixed c.world.memory_map u
  pub framed : Framed c fs.numbers fs.memory u
  pub comes : Comes c.start k u
  pub output : u.output ≡ c.start.output ++ fs.spent.output
  pub known : jump_keeps (is_place c.slots) j ≡ true
  pub credit : ℕ
  pub paid : jump_cost j ≤ credit
  pub blocks : ℕ
  pub inside : leads_inside blocks j ≡ true
  pub goes : leads c.reached j ≡ true
  pub price : k + credit + c.reserve ≤ allowed fs
  pub pace : fs.spent.turns ≤ FUNCTION_WEIGHT * k + standing f fs.block

-- the machine is where it goes on after a jump; so many turns may have begun beside those that instructions pay for
pub record Landed (c : Setting) (to extra : ℕ) (fs : FlatState) (k : ℕ) (u : State) : Type 0 where
  pub place : u.pc ≡ to
  pub fixed : Fixed c.world.memory_map u
  pub framed : Framed c fs.numbers fs.memory u
  pub comes : Comes c.start k u
  pub output : u.output ≡ c.start.output ++ fs.spent.output
  pub price : k + c.reserve ≤ allowed fs
  pub pace : fs.spent.turns ≤ FUNCTION_WEIGHT * k + extra

-- ---- what is to be shown

abbrev pub Performed : Setting → Code Location → FlatOutcome → Type 0
Performed c f r = Performs c.world c.sp f.result c.before c.start (flat_after one_call r)

abbrev pub step_of : Setting → Code Location → FlatGiven → FlatState → FlatEvent
step_of c f j = flat_step f c.addresses (c.sp - c.area) j

abbrev pub Log : Type 0
Log = List (Entry FlatAsked FlatOutcome)

-- from each line, where the code goes as r within n steps
abbrev pub Follows : Setting → Code Location → FlatGiven → FlatOutcome → ℕ → Type 0
Follows c f j r n =
    (b : Block Location) (lines : List (Line Location)) (fs : FlatState) (k : ℕ) (u : State) → At c f b lines fs k u → (log : Log)
    → Logged (step_of c f j) n fs log r → AllPerform c.world c.floor log → Performed c f r

-- and after an event
abbrev pub Then : Setting → Code Location → FlatGiven → FlatOutcome → ℕ → Log → FlatEvent → Type 0
Then c f j r n log e = LoggedEvent (λ t rest. Logged (step_of c f j) n t rest r) r e log

-- Where a jump has come to the block i, what is still to be done is done.
abbrev pub Handed : Setting → Code Location → (i : ℕ) → Type 0
Handed c f i =
    (j : FlatGiven) (r : FlatOutcome) (n : ℕ) (fs : FlatState) (k : ℕ) (u : State) → Landed c (c.label i) (landing f i) fs k u → (i ≡ 0 → fs.used ≡ 0)
    → (log : Log) → Logged (step_of c f j) n (record fs { block = i; next = 0 }) log r → AllPerform c.world c.floor log → Performed c f r

-- of the blocks that jumps may lead to, some stand here, and the others are handed over
pub record CodeStands (c : Setting) (f : Code Location) : Type 0 where
  pub setting : IsSetting c
  pub own : ℕ → Bool
  pub blocks : (i : ℕ) (b : Block Location) → slice_get f.blocks i ≡ Some b → c.reached i ≡ true → own i ≡ true → OwnBlock c b i
  pub handed : (i : ℕ) (b : Block Location) → slice_get f.blocks i ≡ Some b → c.reached i ≡ true → own i ≡ false → Handed c f i
  pub result : c.layout.result ≡ f.result
  pub falls : c.layout.falls ≡ falls_through f
  pub rest : List Item
  pub leave : StandAt (site c) (epilogue c.layout c.saved ++ rest) (c.label c.layout.leave)
  pub few_saved : length c.saved ≤ 13
  pub area : c.area ≡ area f
  pub pointer : c.start.registers 2 ≡ c.sp
  pub aligned : c.start.registers 1 % 4 ≡ 0

pub undefined : (c : Setting) (f : Code Location) (t : Spent) (r : FlatOutcome) → FlatEnded t Undefined ≡ r → Performed c f r
undefined c f t r e = subst (λ o. Performed c f o) e tt

-- ---- the destination of a line may be written

pub may_write : (c : Setting) (f : Code Location) → CodeStands c f → (b : Block Location) (l : Line Location) (lines : List (Line Location)) (fs : FlatState)
    (k : ℕ) (u : State) → At c f b (l ∷ lines) fs k u → (to : Location) → is_place c.slots to ≡ true → ((n : ℕ) → is_register n to ≡ writes n l)
    → MayWrite c.saved to
may_write c f is b l lines fs k u a to good writes_it =
    a.stood.may (fs.next + 0) l (a.ahead 0) to good writes_it

-- ---- frames of states that differ in scratch registers

same_places : (c : Setting) (numbers : Numbers) (memory : Spots) (s u : State) → Framed c numbers memory s → Scratched s u
    → (p : Location) (v : ℕ) → is_place c.slots p ≡ true → numbers p ≡ Some v → value_at c u p ≡ v
same_places c numbers memory s u framed h (InRegister r) v good known =
    let hi = (place_is c.slots r good).to_27 in
    h.registers r (omega (arith, hi)) ∙ framed.places (InRegister r) v good known
same_places c numbers memory s u framed h (Slot i) v good known =
    ap (λ (m : ℕ → ℕ). number_at m (slot_at c i) 8) h.bytes ∙ framed.places (Slot i) v good known

pub framed_same : (c : Setting) (numbers : Numbers) (memory : Spots) (s u : State) → Framed c numbers memory s → Scratched s u → Framed c numbers memory u
framed_same c numbers memory s u framed h = record {
  pointer = h.registers 2 (lit< tt) ∙ framed.pointer;
  places = same_places c numbers memory s u framed h;
  spots = record { known = λ x n k. ap (λ (m : ℕ → ℕ). m x) h.bytes ∙ framed.spots.known x n k; usable = framed.spots.usable };
  clear = framed.clear;
  reach = framed.reach;
  saved = λ k r e. ap (λ (m : ℕ → ℕ). number_at m (save_at c k) 8) h.bytes ∙ framed.saved k r e;
  thread = λ n kept other out. h.registers n (held_below n kept) ∙ framed.thread n kept other out;
  others = λ x hi away. ap (λ (m : ℕ → ℕ). m x) h.bytes ∙ framed.others x hi away;
  unset = framed.unset;
}

-- ---- lines

assoc : (a b d e : List Item) → ((a ++ b) ++ d) ++ e ≡ a ++ ((b ++ d) ++ e)
assoc a b d e = ap (λ l. l ++ e) (append_assoc a b d) ∙ append_assoc a (b ++ d) e

-- where the code of the next line and what follows it stands
pub stands_here : (c : Setting) (f : Code Location) (b : Block Location) (l : Line Location) (lines : List (Line Location)) (fs : FlatState) (k : ℕ) (u : State)
    → (a : At c f b (l ∷ lines) fs k u)
    → StandAt (site c)
    (line_items c.layout a.used l ++ ((lines_items c.layout (a.used + alloc_bytes l) lines ++ end_items c.layout c.saved fs.block b) ++ (Label (fs.block + 1) ∷ a.rest))) u.pc
stands_here c f b l lines fs k u a =
    subst (λ is. StandAt (site c) is u.pc)
    (assoc (line_items c.layout a.used l) (lines_items c.layout (a.used + alloc_bytes l) lines) (end_items c.layout c.saved fs.block b) (Label (fs.block + 1) ∷ a.rest)) a.stands

pub reach : (c : Setting) (f : Code Location) (b : Block Location) (l : Line Location) (lines : List (Line Location)) (fs : FlatState) (k : ℕ) (u : State)
    (P : State → Type 0) → (a : At c f b (l ∷ lines) fs k u) → Leads (site c) (line_items c.layout a.used l) u P
    → Reaches (site c) (longest_size (line_items c.layout a.used l))
    ((lines_items c.layout (a.used + alloc_bytes l) lines ++ end_items c.layout c.saved fs.block b) ++ (Label (fs.block + 1) ∷ a.rest)) u P
reach c f b l lines fs k u P a leads =
    leads.from ((lines_items c.layout (a.used + alloc_bytes l) lines ++ end_items c.layout c.saved fs.block b) ++ (Label (fs.block + 1) ∷ a.rest)) (stands_here c f b l lines fs k u a) a.fixed

-- a block of memory is still to be made
later_alloc : (l : Line Location) (lines : List (Line Location)) → list_any is_alloc lines ≡ true → list_any is_alloc (l ∷ lines) ≡ true
later_alloc l lines e = by_test (is_alloc l)
  where
    by_test : (b : Bool) → (b || list_any is_alloc lines) ≡ true
    by_test true = refl
    by_test false = e

-- what fits for a line and those behind it fits for those behind it
pub later_fits : (a m s : ℕ) → 8 * max a m ≤ s → 8 * m ≤ s
later_fits a m s h = omega (arith, h)

pub nothing_taken : (n : ℕ) → n ≡ n + 0
nothing_taken n = omega arith

-- after a line that is no tick, with what it leaves in places
pub advance : (c : Setting) (f : Code Location) (b : Block Location) (l : Line Location) (lines : List (Line Location)) (fs : FlatState) (k : ℕ) (u : State)
    (numbers : Numbers) (memory : Spots) (used : ℕ) → (a : At c f b (l ∷ lines) fs k u) → turns_of l ≡ 0 → used ≡ fs.used + alloc_bytes l
    → (nat_le (line_cost l) a.credit && affords (a.credit - line_cost l) b.jump lines) ≡ true
    → (m : Reaches (site c) (longest_size (line_items c.layout a.used l))
    ((lines_items c.layout (a.used + alloc_bytes l) lines ++ end_items c.layout c.saved fs.block b) ++ (Label (fs.block + 1) ∷ a.rest)) u
    (λ w. Framed c numbers memory w × (w.output ≡ u.output)))
    → At c f b lines (record fs { next = fs.next + 1; numbers = numbers; memory = memory; used = used }) (k + m.steps) m.after
advance c f b l lines fs k u numbers memory used a calm takes pays m =
    let parts = and_parts (nat_le (line_cost l) a.credit) (affords (a.credit - line_cost l) b.jump lines) pays in
    let enough = leb-true (line_cost l) a.credit parts.0 in
    let size = (line_size c.layout a.used l).few in
    let room = a.room in
    let bytes = sum_by-cons alloc_bytes l lines in
    let few = m.few in
    let price = a.price in
    let pace = a.pace in
    let sum = sum_by-cons turns_of l lines in
    record {
      block = a.block;
      ahead = λ i. ap (λ n. slice_get b.lines n) (next_index fs.next i) ∙ a.ahead (suc i);
      rest = a.rest;
      stands = m.stands;
      fixed = m.fixed;
      framed = m.holds.0;
      comes = comes_then a.comes m.comes;
      output = m.holds.1 ∙ a.output;
      known = (and_parts (line_keeps (is_place c.slots) l) (list_all (line_keeps (is_place c.slots)) lines) a.known).1;
      jump_known = a.jump_known;
      credit = a.credit - line_cost l;
      paid = parts.1;
      price = omega (arith, enough, size, few, price);
      pace = omega (arith, pace, sum, calm);
      blocks = a.blocks;
      inside = a.inside;
      used = a.used + alloc_bytes l;
      room = omega (arith, room, bytes);
      used_is = λ e. takes ∙ ap (λ n. n + alloc_bytes l) (a.used_is (later_alloc l lines e));
      passes = later_fits (args_on_stack l) (most_in_lines lines) c.layout.saves a.passes;
      stood = a.stood;
    }
