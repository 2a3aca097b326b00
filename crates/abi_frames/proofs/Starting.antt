-- From the call of a function to its first line: where its code stands, what the begin of its frame leaves, and that it keeps its promise.
use Rattle.il_ast.specs.declared.limits.TheConstants.{FUNCTION_WEIGHT, ALLOC_BYTES}
use Rattle.std.proofs.Common.{◌≡◌, ℕ, zero, suc, ◌+◌, ◌-◌, ◌*◌, ◌^◌, ◌<◌, ◌≤◌, Bool, true, false, List, [], ◌∷◌, ◌++◌, refl, sym, ◌∙◌, ap, subst, arith, zero-add, append_assoc, append-nil, ◌%◌, not, nat_le, nat_lt, if◌then◌else◌, map, length, slice_get, Some, None}
use Rattle.abi_frames.proofs.Shared.{Class, State, Item, Label, Location, Destination, Jump, Block, Code, Layout, list_all, list_any, sum_by, and_parts, not-true, leb-true, longest_size, all_at, same_Some, sum_by-cons, nat_tests, number_at, is_place, line_keeps, jump_keeps}
use Rattle.rv_isa.specs.Prelude.{Stand}
use Rattle.vcode.specs.declared.line.Jump.TheVariants.{Goto, Branch, Return, Halt}
use Rattle.vcode.specs.declared.limits.TheConstants.{PLACES}
use Rattle.vcode.specs.Prelude.{block_keeps, affords, is_paid, area, turns_of, is_alloc, allocs_first, alloc_bytes, leads_inside}
use Rattle.flat_code.specs.Flat.{Spots, Clear, FlatGiven}
use Rattle.flat_code.specs.Step.{Numbers, bound, flat_begin, flat_step}
use Rattle.abi_frames.specs.Performs.{World, IsWorld, GoodStack, Ready, passed, KeepsFrame, layout, outgoing, saved_registers, frame_size, frame_bound}
use Rattle.abi_frames.proofs.Saving.{can_save_all, held_all, few_saved_registers, AllMayWrite, all_params_may, line_may, call_saves}
use Rattle.frame_ways.specs.Plans.{leads}
use Rattle.abi_frames.specs.Emission.{body_items, blocks_items, prologue, epilogue}
use Rattle.abi_frames.specs.Functions.{entry_items, function_items}
use Rattle.abi_frames.specs.Examples.{IsCode}
use Rattle.operation_code.proofs.Leading.{StandAt, Leads, longest-append}
use Rattle.abi_frames.proofs.Leads.{leads_on}
use Rattle.abi_frames.proofs.Activations.{Setting, IsSetting, site, bottom, is_held, is_among, MayWrite, no_more, next_index}
use Rattle.abi_frames.proofs.LineCode.{Scratched}
use Rattle.abi_frames.proofs.Rows.{stand_after, at_label, BlockCode, rows_stand, first_label}
use Rattle.abi_frames.proofs.Begins.{nothing_done, comes_in, begun}
use Rattle.abi_frames.proofs.Outgoing.{few_outgoing, block_passes}
use Rattle.abi_frames.proofs.Sizes.{prologue_size, entry_size}
use Rattle.abi_frames.proofs.Entering.{Entering, argument_in, ArePassed, CanTake, leads_entry}
use Rattle.abi_frames.proofs.Simulation.{BlockAt, OwnBlock, CodeStands}
use Rattle.abi_frames.proofs.Simulating.{follows, enter}
use Rattle.abi_frames.proofs.CallCase.{held_is_passed}

-- ---- what the caller passed

-- the classes of the parameters that are left
abbrev pub classes : List (Destination Location) → List Class
classes ds = map (λ (d : Destination Location). d.class) ds

pub length-classes : (ds : List (Destination Location)) → length (classes ds) ≡ length ds
length-classes [] = refl
length-classes (d ∷ ds) = let rest = length-classes ds in omega (arith, rest)

pub are_passed : (c : Setting) (k : ℕ) (ds : List (Destination Location)) (xs : List ℕ)
    → ((i n : ℕ) (a : Class) → slice_get (classes ds) i ≡ Some a → slice_get xs i ≡ Some n → argument_in c c.start (k + i) ≡ passed a n) → ArePassed c k ds xs
are_passed c k [] xs all = tt
are_passed c k (d ∷ ds) [] all = tt
are_passed c k (d ∷ ds) (x ∷ xs) all = (
  ap (argument_in c c.start) (no_more k) ∙ all zero x d.class refl refl ∙ held_is_passed d.class x,
  are_passed c (k + 1) ds xs (λ i n a e f. ap (argument_in c c.start) (next_index k i) ∙ all (suc i) n a e f),
)

pub ready_passes : (c : Setting) (at : ℕ) (ks : List Class) (j : FlatGiven) → Ready c.world at c.sp ks j c.start
    → (i n : ℕ) (a : Class) → slice_get ks i ≡ Some a → slice_get j.args i ≡ Some n → argument_in c c.start i ≡ passed a n
ready_passes c at ks j ready i n a e f = by_test (nat_lt i 8) refl
  where
    by_test : (t : Bool) → nat_lt i 8 ≡ t
        → (if t then c.start.registers (10 + i) else number_at c.start.bytes (c.sp + 8 * (i - 8)) 8) ≡ passed a n
    by_test true h = ready.in_registers i n a (grind (arith, nat_tests)) e f
    by_test false h = ready.on_stack i n a (grind (arith, nat_tests)) e f

pub all_passed : (c : Setting) (at : ℕ) (f : Code Location) (j : FlatGiven) → Ready c.world at c.sp (classes f.params) (record j { memory = c.before }) c.start
    → ArePassed c 0 f.params j.args
all_passed c at f j ready =
    are_passed c 0 f.params j.args (λ i n a e k. ap (argument_in c c.start) (zero-add i) ∙ ready_passes c at (classes f.params) (record j { memory = c.before }) ready i n a e k)

-- jumps may lead to any block
pub all_lead : (j : Jump Location) → leads (λ i. true) j ≡ true
all_lead (Goto k) = refl
all_lead (Branch on met otherwise) = refl
all_lead (Return a) = refl
all_lead Halt = refl

pub never : true ≡ false → ⊥
never e = let no : ⊥ = cc in no

-- ---- the promise

abbrev pub setting : World → (label global : ℕ → ℕ) → List ℕ → Code Location → (slots : ℕ) → (sp : ℕ) → Spots → State → Setting
setting w label global addresses f slots sp before s =
    record {
      world = w;
      label = label;
      global = global;
      addresses = addresses;
      layout = layout f slots;
      saved = saved_registers f;
      slots = slots;
      area = area f;
      sp = sp;
      before = before;
      start = s;
      floor = sp - frame_size f slots;
      reserve = 24;
      reached = λ i. true;
    }

-- how large the frame is
pub record FrameFits (f : Code Location) (slots : ℕ) : Type 0 where
  pub places : slots < PLACES
  pub few : outgoing f ≤ 56
  pub small : area f ≤ ALLOC_BYTES
  pub fits : frame_size f slots ≤ frame_bound f slots

pub frame_fits : (f : Code Location) (slots : ℕ) → IsCode f slots → FrameFits f slots
frame_fits f slots is = record {
  places = is.few;
  few = few_outgoing f is.regular;
  small = leb-true (area f) ALLOC_BYTES is.regular.small;
  fits = let saved = few_saved_registers f in omega (arith, saved);
}

-- where the stack has room for it
pub fits_setting : (w : World) (label global : ℕ → ℕ) (addresses : List ℕ) (f : Code Location) (slots : ℕ) (sp : ℕ) (before : Spots) (s : State) → FrameFits f slots
    → IsWorld w → ((n a : ℕ) → slice_get addresses n ≡ Some a → global n ≡ a) → ((n : ℕ) → global n < 2 ^ 30) → w.bottom + frame_size f slots ≤ sp → sp ≤ w.top
    → IsSetting (setting w label global addresses f slots sp before s)
fits_setting w label global addresses f slots sp before s frame world globals near above below =
    let few = frame.few in
    let small = frame.small in
    let slots_few = frame.places in
    let saved = few_saved_registers f in
    record {
      world = world;
      globals = globals;
      near = near;
      above = above;
      below = below;
      fits = omega arith;
      blocks = omega arith;
      saves_fit = omega arith;
      saves_near = omega (arith, few);
      slots_near = omega (arith, few, saved);
      savable = can_save_all f;
      small = omega (arith, few, small, slots_few, saved);
      enough = omega arith;
    }

pub is_setting : (w : World) (label global : ℕ → ℕ) (addresses : List ℕ) (f : Code Location) (slots : ℕ) (sp room : ℕ) (before : Spots) (s : State) → IsCode f slots
    → IsWorld w → ((n a : ℕ) → slice_get addresses n ≡ Some a → global n ≡ a) → ((n : ℕ) → global n < 2 ^ 30) → GoodStack w sp (frame_bound f slots + room)
    → IsSetting (setting w label global addresses f slots sp before s)
is_setting w label global addresses f slots sp room before s is world globals near stack =
    let frame = frame_fits f slots is in
    let fits = frame.fits in
    let above = stack.above in
    fits_setting w label global addresses f slots sp before s frame world globals near (omega (arith, above, fits)) stack.below

-- the bytes of a block are among all, and only the first block takes some
abbrev pub block_bytes : Block Location → ℕ
block_bytes b = sum_by alloc_bytes b.lines

pub block_within : (blocks : List (Block Location)) (i : ℕ) (b : Block Location) → slice_get blocks i ≡ Some b → block_bytes b ≤ sum_by block_bytes blocks
block_within [] i b e = absurd (let no : ⊥ = cc in no)
block_within (d ∷ blocks) zero b e =
    let same = ap block_bytes (same_Some d b e) in
    let sum = sum_by-cons block_bytes d blocks in
    omega (arith, same, sum)
block_within (d ∷ blocks) (suc i) b e =
    let rest = block_within blocks i b e in
    let sum = sum_by-cons block_bytes d blocks in
    omega (arith, rest, sum)

pub made_first : (blocks : List (Block Location)) (i : ℕ) (b : Block Location) → allocs_first blocks ≡ true → slice_get blocks i ≡ Some b → 0 < i
    → list_any is_alloc b.lines ≡ false
made_first [] i b h e some = absurd (let no : ⊥ = cc in no)
made_first (d ∷ blocks) zero b h e some = absurd (omega (arith, some))
made_first (d ∷ blocks) (suc i) b h e some =
    not-true (list_any is_alloc b.lines) (all_at (λ (x : Block Location). not (list_any is_alloc x.lines)) blocks i b h e)

-- what of a setting is the function's
pub record Matches (c : Setting) (f : Code Location) (count : ℕ) : Type 0 where
  pub slots : c.slots ≡ count
  pub area : c.area ≡ area f
  pub saves : c.layout.saves ≡ 8 * outgoing f
  pub saved : c.saved ≡ saved_registers f
  pub floor : c.floor ≡ bottom c

-- a block in the frame, wherever its lines stand
pub lines_stand : (c : Setting) (f : Code Location) (slots : ℕ) → Matches c f slots → (b : Block Location) (i at credit : ℕ) (rest : List Item)
    → slice_get f.blocks i ≡ Some b → block_keeps (is_place slots) b ≡ true → leads_inside (length f.blocks) b.jump ≡ true → nat_le (sum_by turns_of b.lines) FUNCTION_WEIGHT ≡ true
    → (0 < i → list_any is_alloc b.lines ≡ false) → affords credit b.jump b.lines ≡ true → leads c.reached b.jump ≡ true
    → StandAt (site c) (body_items c.layout c.saved i b ++ (Label (i + 1) ∷ rest)) at → BlockAt c b i at credit
lines_stand c f slots same b i at credit rest e keeps inside paced first pays goes stands =
    let keeps_here : block_keeps (is_place c.slots) b ≡ true = subst (λ n. block_keeps (is_place n) b ≡ true) (sym same.slots) keeps in
    let parts = and_parts (list_all (line_keeps (is_place c.slots)) b.lines) (jump_keeps (is_place c.slots) b.jump) keeps_here in
    let within = block_within f.blocks i b e in
    let passes = block_passes f.blocks i b e in
    let same_area = same.area in
    let same_saves = same.saves in
    record {
      block = record {
        rest = rest;
        at = at;
        credit = credit;
        stands = stands;
        known = parts.0;
        jump_known = parts.1;
        paid = pays;
        paced = leb-true (sum_by turns_of b.lines) FUNCTION_WEIGHT paced;
        blocks = length f.blocks;
        inside = inside;
        room = omega (arith, within, same_area);
        made_first = first;
        passes = omega (arith, passes, same_saves);
        goes = goes;
        may = λ q l there to good it. subst (λ rs. MayWrite rs to) (sym same.saved) (line_may f c.slots i q b l e there to good it);
        calls = λ q l there call. (same.floor, subst (λ rs. is_among 1 rs ≡ true) (sym same.saved) (call_saves f i q b l e there call));
      };
      here = refl;
      given = refl;
    }

pub block_stands : (c : Setting) (f : Code Location) (slots : ℕ) → Matches c f slots → IsCode f slots → (b : Block Location) (i : ℕ)
    → slice_get f.blocks i ≡ Some b → leads c.reached b.jump ≡ true → BlockCode (site c) c.layout c.saved b i → OwnBlock c b i
block_stands c f slots same is b i e goes code =
    let known = and_parts (list_all (λ (d : Destination Location). is_place slots d.place) f.params) (list_all (block_keeps (is_place slots)) f.blocks) is.known in
    lines_stand c f slots same b i (c.label i) 0 code.rest e (all_at (block_keeps (is_place slots)) f.blocks i b known.1 e)
    (all_at (λ (d : Block Location). leads_inside (length f.blocks) d.jump) f.blocks i b is.regular.inside e)
    (all_at (λ (d : Block Location). nat_le (sum_by turns_of d.lines) FUNCTION_WEIGHT) f.blocks i b is.regular.paced e) (made_first f.blocks i b is.regular.first e)
    (all_at is_paid f.blocks i b is.regular.paid e) goes code.stands

-- from the call to the first block, where scratch registers alone were written since
pub begins : (c : Setting) (f : Code Location) (slots at : ℕ) (j : FlatGiven) (u : State) → IsSetting c → c.slots ≡ slots → c.saved ≡ saved_registers f → IsCode f slots
    → Clear c.world.bottom c.sp c.before → Ready c.world at c.sp (classes f.params) (record j { memory = c.before }) c.start → Scratched c.start u
    → Leads (site c) (prologue c.layout c.saved ++ entry_items c.layout f.params) u (Entering c (length f.params) 8 (bound (λ p. None) f.params j.args))
begins c f slots at j u good same same_saved is clear ready scratched =
    let known = and_parts (list_all (λ (d : Destination Location). is_place slots d.place) f.params) (list_all (block_keeps (is_place slots)) f.blocks) is.known in
    let below = ready.below_top in
    let count = length-classes f.params in
    let can : CanTake c (length f.params) 0 f.params = record {
      count = omega arith;
      few = leb-true (length f.params) 64 is.regular.few_params;
      fits = omega (arith, below, count);
      places = subst (λ n. list_all (λ (d : Destination Location). is_place n d.place) f.params ≡ true) (sym same) known.0;
      may = subst (λ rs. AllMayWrite rs f.params) (sym same_saved) (all_params_may f slots known.0);
    } in
    leads_on (begun c good (subst (λ rs. list_all is_held rs ≡ true) (sym same_saved) (held_all f)) u (comes_in c at (classes f.params) j clear ready u scratched))
    (λ w fixed now. leads_entry c good f.params j.args w can is.apart (all_passed c at f j ready) now)

pub begin_size : (f : Code Location) (slots : ℕ) → IsCode f slots → longest_size (prologue (layout f slots) (saved_registers f) ++ entry_items (layout f slots) f.params) ≤ 225
begin_size f slots is =
    let y : Layout = layout f slots in
    let frame = frame_fits f slots is in
    let few = frame.few in
    let saved = few_saved_registers f in
    let all = longest-append (prologue y (saved_registers f)) (entry_items y f.params) in
    let one = (prologue_size y (saved_registers f) saved).few in
    let two = (entry_size y f.params (omega (arith, few, saved)) (leb-true (length f.params) 64 is.regular.few_params) is.near).few in
    omega (arith, all, one, two)

-- the blocks in their frame, whatever stands behind its end
pub framed_code : (w : World) (label global : ℕ → ℕ) (addresses : List ℕ) (f : Code Location) (slots sp : ℕ) (before : Spots) (s : State) (tail : List Item) (at : ℕ)
    → IsCode f slots → IsSetting (setting w label global addresses f slots sp before s) → s.registers 2 ≡ sp → s.registers 1 % 4 ≡ 0
    → StandAt (site (setting w label global addresses f slots sp before s))
    (blocks_items (layout f slots) (saved_registers f) 0 f.blocks ++ (Label (length f.blocks) ∷ (epilogue (layout f slots) (saved_registers f) ++ tail))) at
    → CodeStands (setting w label global addresses f slots sp before s) f
framed_code w label global addresses f slots sp before s tail at is good pointer aligned stands =
    let c : Setting = setting w label global addresses f slots sp before s in
    let y : Layout = layout f slots in
    let rs : List ℕ = saved_registers f in
    let last : List Item = epilogue y rs ++ tail in
    let leave = stand_after (site c) (blocks_items y rs 0 f.blocks) (Label y.leave ∷ last) at stands in
    record {
      setting = good;
      own = λ i. true;
      handed = λ i b e there other. absurd (never other);
      blocks = λ i b e there own.
          block_stands c f slots (record { slots = refl; area = refl; saves = refl; saved = refl; floor = refl }) is b i e (all_lead b.jump)
          (subst (λ k. BlockCode (site c) y rs b k) (zero-add i) (rows_stand (site c) (λ l. l) (body_items y rs) 0 f.blocks y.leave last at (sym (zero-add (length f.blocks))) stands i b e));
      result = refl;
      falls = refl;
      rest = tail;
      leave = at_label (site c) y.leave last leave.place leave.stands;
      few_saved = few_saved_registers f;
      area = refl;
      pointer = pointer;
      aligned = aligned;
    }

-- from the call on
pub performs : (w : World) (at : ℕ) (label global : ℕ → ℕ) (addresses : List ℕ) (f : Code Location) (slots : ℕ) → IsCode f slots → IsWorld w
    → ((n a : ℕ) → slice_get addresses n ≡ Some a → global n ≡ a) → ((n : ℕ) → global n < 2 ^ 30)
    → Stand w.memory_map label global (function_items (layout f slots) (saved_registers f) f.params f.blocks) at
    → KeepsFrame w at (frame_bound f slots) (frame_size f slots) (area f) (map (λ d. d.class) f.params) f.result (flat_begin f) (flat_step f addresses)
performs w at label global addresses f slots is world globals near stands sp j stack clear log r n goes all s ready =
    let c : Setting = setting w label global addresses f slots sp j.memory s in
    let y : Layout = layout f slots in
    let good : IsSetting c = is_setting w label global addresses f slots sp j.room j.memory s is world globals near stack in
    let rs : List ℕ = saved_registers f in
    let last : List Item = epilogue y rs in
    let body : List Item = blocks_items y rs 0 f.blocks ++ (Label y.leave ∷ last) in
    let tail : List Item = entry_items y f.params ++ body in
    let entry = stand_after (site c) (prologue y rs) tail at stands in
    let blocks = stand_after (site c) (entry_items y f.params) body entry.place entry.stands in
    let code = framed_code w label global addresses f slots sp j.memory s [] blocks.place is good ready.stack_pointer ready.return_address
    (subst (λ l. StandAt (site c) (blocks_items y rs 0 f.blocks ++ (Label y.leave ∷ l)) blocks.place) (sym (append-nil last)) blocks.stands) in
    let begin : List Item = prologue y rs ++ entry_items y f.params in
    let numbers : Numbers = bound (λ p. None) f.params j.args in
    let m = (begins c f slots at j s good refl refl is clear ready (nothing_done s)).from body
    (subst (λ a. StandAt (site c) (begin ++ body) a) (sym ready.place) (subst (λ is. StandAt (site c) is at) (sym (append_assoc (prologue y rs) (entry_items y f.params) body)) stands))
    ready.fixed in
    let few = m.few in
    let size = begin_size f slots is in
    enter c f code j r n (follows c f code j r n) 0 (flat_begin f (sp - area f) j) m.steps m.after refl
    (record {
      place = sym (first_label (site c) (λ l. l) (body_items y rs) 0 f.blocks y.leave last m.after.pc (sym (zero-add (length f.blocks))) m.stands);
      fixed = m.fixed;
      framed = m.holds.framed;
      comes = m.comes;
      output = m.holds.output ∙ sym (append-nil s.output);
      price = omega (arith, few, size);
      pace = omega arith;
    }) (λ e. refl) log goes all
