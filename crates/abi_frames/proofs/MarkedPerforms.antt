-- Code with marks keeps its promise: bare blocks do what they do with no frame, until the frame begins.
use Rattle.std.proofs.Common.{◌≡◌, ℕ, ◌+◌, ◌-◌, ◌%◌, ◌^◌, ◌<◌, ◌≤◌, true, false, List, [], ◌∷◌, ◌++◌, refl, sym, ◌∙◌, subst, arith, lit<, lit≤, zero-add, append_assoc, append-nil, not, ◌&&◌, nat_le, map, length, slice_get, Some}
use Rattle.std.specs.List.{list_any}
use Rattle.il_ast.specs.declared.limits.TheConstants.{FUNCTION_WEIGHT}
use Rattle.abi_frames.proofs.Shared.{State, Item, Label, Location, Block, Code, Layout, Mark, sum_by, and_parts, not-true, leb-true, all_at, is_place}
use Rattle.rv_isa.specs.Prelude.{Stand}
use Rattle.rv_isa.proofs.RunLemmas.{comes_then}
use Rattle.vcode.specs.declared.limits.TheConstants.{PLACES}
use Rattle.vcode.specs.Prelude.{affords, is_paid, block_keeps, area, turns_of, is_alloc, leads_inside}
use Rattle.flat_code.specs.Flat.{Spots}
use Rattle.flat_code.specs.Step.{flat_begin, flat_step}
use Rattle.frame_ways.specs.declared.mark.Mark.TheVariants.{Bare, Begin, Framed}
use Rattle.frame_ways.specs.Plans.{is_bare_block, is_bare, is_framed, is_outside, mark_at, leads, begin_credit, suits, IsMarked}
use Rattle.frame_ways.proofs.Suiting.{no_area}
use Rattle.abi_frames.specs.Performs.{World, IsWorld, KeepsFrame, layout, saved_registers, frame_size}
use Rattle.abi_frames.specs.Emission.{body_items, rows, prologue, epilogue}
use Rattle.abi_frames.specs.Functions.{entry_items, outer_layout, part_items, marked_body, ends_items, marked_code}
use Rattle.operation_code.proofs.Leading.{StandAt}
use Rattle.abi_frames.proofs.Activations.{Setting, IsSetting, site}
use Rattle.abi_frames.proofs.Saving.{held_all, few_saved_registers}
use Rattle.abi_frames.proofs.Outgoing.{few_passed}
use Rattle.abi_frames.proofs.Begins.{unframed, unframed_is, frame_begins, nothing_done, comes_in}
use Rattle.abi_frames.proofs.Sizes.{prologue_size, entry_size}
use Rattle.abi_frames.proofs.Entering.{CanTake, leads_entry}
use Rattle.abi_frames.proofs.Simulation.{BlockAt, OwnBlock, CodeStands, Handed}
use Rattle.abi_frames.proofs.Simulating.{follows, enter_block, enter}
use Rattle.abi_frames.proofs.Starting.{block_within, lines_stand, classes, length-classes, all_passed, setting, FrameFits, fits_setting, never}
use Rattle.abi_frames.proofs.Rows.{stand_after, at_label, Row, rows_stand, first_label}
use Rattle.abi_frames.proofs.Bare.{bare_is, params_bare}

-- how large its frame is
pub marked_fits : (f : Code Location) (slots : ℕ) (marks : List Mark) → slots < PLACES → IsMarked f slots marks → FrameFits f slots
marked_fits f slots marks places is =
    let none = no_area f.blocks is.none_made in
    record {
      places = places;
      few = few_passed f is.few_args;
      small = omega (arith, none);
      fits = let saved = few_saved_registers f in omega (arith, saved);
    }

module _ (w : World) (label global : ℕ → ℕ) (addresses : List ℕ) (f : Code Location) (slots : ℕ) (marks : List Mark) (is : IsMarked f slots marks) (sp : ℕ) (before : Spots) (s : State) where
  abbrev c : Setting
  c = setting w label global addresses f slots sp before s

  abbrev y : Layout
  y = layout f slots

  abbrev rs : List ℕ
  rs = saved_registers f

  -- in the frame, and outside of it
  abbrev inner : Setting
  inner = record c { reached = λ i. is_framed (mark_at marks i) }

  abbrev outer : Setting
  outer = record (unframed c) { reached = λ i. is_outside (mark_at marks i) }

  none_made : (i : ℕ) (b : Block Location) → slice_get f.blocks i ≡ Some b → list_any is_alloc b.lines ≡ false
  none_made i b e = not-true (list_any is_alloc b.lines) (all_at (λ (d : Block Location). not (list_any is_alloc d.lines)) f.blocks i b is.none_made e)

  inside : (i : ℕ) (b : Block Location) → slice_get f.blocks i ≡ Some b → leads_inside (length f.blocks) b.jump ≡ true
  inside i b e = all_at (λ (d : Block Location). leads_inside (length f.blocks) d.jump) f.blocks i b is.inside e

  paced : (i : ℕ) (b : Block Location) → slice_get f.blocks i ≡ Some b → nat_le (sum_by turns_of b.lines) FUNCTION_WEIGHT ≡ true
  paced i b e = all_at (λ (d : Block Location). nat_le (sum_by turns_of d.lines) FUNCTION_WEIGHT) f.blocks i b is.paced e

  suited : (i : ℕ) (b : Block Location) (m : Mark) → slice_get f.blocks i ≡ Some b → mark_at marks i ≡ m → suits marks m b ≡ true
  suited i b m e mark = subst (λ x. suits marks x b ≡ true) mark (is.suited i b e)

  -- a block that is framed, or at which the frame has begun
  in_frame : (i : ℕ) (b : Block Location) (at credit : ℕ) (rest : List Item) → slice_get f.blocks i ≡ Some b → affords credit b.jump b.lines ≡ true
      → leads (λ t. is_framed (mark_at marks t)) b.jump ≡ true → StandAt (site c) (body_items y rs i b ++ (Label (i + 1) ∷ rest)) at → BlockAt inner b i at credit
  in_frame i b at credit rest e pays goes stands =
      lines_stand inner f slots (record { slots = refl; area = refl; saves = refl; saved = refl; floor = refl }) b i at credit rest e
      (all_at (block_keeps (is_place slots)) f.blocks i b is.known e) (inside i b e) (paced i b e) (λ some. none_made i b e) pays goes stands

  -- a bare block
  in_front : (i : ℕ) (b : Block Location) → slice_get f.blocks i ≡ Some b → mark_at marks i ≡ Bare → Row (site c) (body_items (outer_layout y) [] i b) i (i + 1) → OwnBlock outer b i
  in_front i b e mark row =
      let one = and_parts (is_paid b) (is_bare_block b && leads (λ t. is_outside (mark_at marks t)) b.jump) (suited i b Bare e mark) in
      let two = and_parts (is_bare_block b) (leads (λ t. is_outside (mark_at marks t)) b.jump) one.1 in
      let bare = bare_is b two.0 in
      let within = block_within f.blocks i b e in
      let passes = bare.passes in
      record {
        block = record {
          rest = row.rest;
          at = label i;
          credit = 0;
          stands = row.stands;
          known = bare.known;
          jump_known = bare.jump_known;
          paid = one.0;
          paced = leb-true (sum_by turns_of b.lines) FUNCTION_WEIGHT (paced i b e);
          blocks = length f.blocks;
          inside = inside i b e;
          room = omega (arith, within);
          made_first = λ some. none_made i b e;
          passes = omega (arith, passes);
          goes = two.1;
          may = bare.may;
          calls = λ q l there call. absurd (bare.calls q l there call);
        };
        here = refl;
        given = refl;
      }

  module _ (good : IsSetting c) (pointer : s.registers 2 ≡ sp) (aligned : s.registers 1 % 4 ≡ 0) (at : ℕ)
      (stands : StandAt (site c) (rows (λ l. l) (marked_body y rs marks) 0 f.blocks ++ (Label y.leave ∷ ends_items y rs)) at) where
    row : (i : ℕ) (b : Block Location) (m : Mark) → slice_get f.blocks i ≡ Some b → mark_at marks i ≡ m → Row (site c) (part_items y rs m i b) i (i + 1)
    row i b m e mark =
        subst (λ x. Row (site c) (part_items y rs x i b) i (i + 1)) mark
        (subst (λ k. Row (site c) (marked_body y rs marks k b) k (k + 1)) (zero-add i)
        (rows_stand (site c) (λ l. l) (marked_body y rs marks) 0 f.blocks y.leave (ends_items y rs) at (sym (zero-add (length f.blocks))) stands i b e))

    frame_end : StandAt (site c) (ends_items y rs) (label y.leave)
    frame_end =
        let leave = stand_after (site c) (rows (λ l. l) (marked_body y rs marks) 0 f.blocks) (Label y.leave ∷ ends_items y rs) at stands in
        at_label (site c) y.leave (ends_items y rs) leave.place leave.stands

    outer_end : StandAt (site c) (epilogue (outer_layout y) []) (label (y.leave + 1))
    outer_end =
        let last = stand_after (site c) (epilogue y rs) (Label (y.leave + 1) ∷ epilogue (outer_layout y) []) (label y.leave) frame_end in
        at_label (site c) (y.leave + 1) (epilogue (outer_layout y) []) last.place last.stands

    framed_is : (m : Mark) → is_framed m ≡ true → m ≡ Framed
    framed_is Bare h = absurd (let no : ⊥ = cc in no)
    framed_is Begin h = absurd (let no : ⊥ = cc in no)
    framed_is Framed h = refl

    inner_code : CodeStands inner f
    inner_code = record {
      setting = good;
      own = λ i. true;
      handed = λ i b e there other. absurd (never other);
      blocks = λ i b e there own.
          let mark = framed_is (mark_at marks i) there in
          let both = and_parts (is_paid b) (leads (λ t. is_framed (mark_at marks t)) b.jump) (suited i b Framed e mark) in
          let code = row i b Framed e mark in
          in_frame i b (label i) 0 code.rest e both.0 both.1 code.stands;
      result = refl;
      falls = refl;
      rest = Label (y.leave + 1) ∷ epilogue (outer_layout y) [];
      leave = frame_end;
      few_saved = few_saved_registers f;
      area = refl;
      pointer = pointer;
      aligned = aligned;
    }

    -- from where the frame begins for a block
    begins : (i : ℕ) (b : Block Location) → slice_get f.blocks i ≡ Some b → mark_at marks i ≡ Begin → Handed outer f i
    begins i b e mark j r n fs k u a new log goes all =
        let code = row i b Begin e mark in
        let both = and_parts (affords begin_credit b.jump b.lines) (leads (λ t. is_framed (mark_at marks t)) b.jump) (suited i b Begin e mark) in
        let more : List Item = body_items y rs i b ++ (Label (i + 1) ∷ code.rest) in
        let here = subst (λ is. StandAt (site c) is (label i)) (append_assoc (prologue y rs) (body_items y rs i b) (Label (i + 1) ∷ code.rest)) code.stands in
        let m = (frame_begins c good (held_all f) fs.numbers fs.memory u a.framed).from more (subst (λ x. StandAt (site c) (prologue y rs ++ more) x) (sym a.place) here) a.fixed in
        let size = (prologue_size y rs (few_saved_registers f)).few in
        let steps = m.few in
        let price = a.price in
        let pace = a.pace in
        enter_block inner f j r n (follows inner f inner_code j r n) i m.after.pc begin_credit b e (in_frame i b m.after.pc begin_credit code.rest e both.0 both.1 m.stands) fs (k + m.steps) m.after
        (record {
          place = refl;
          fixed = m.fixed;
          framed = m.holds.0;
          comes = comes_then a.comes m.comes;
          output = m.holds.1.output ∙ a.output;
          price = omega (arith, size, steps, price);
          pace = omega (arith, pace);
        }) (omega (arith, size, steps, price)) new log goes all

    outer_code : area f ≡ 0 → CodeStands outer f
    outer_code none = record {
      setting = unframed_is c none good;
      own = λ i. is_bare (mark_at marks i);
      handed = λ i b e there other. begins i b e (begin_is (mark_at marks i) there other);
      blocks = λ i b e there own. let mark = bare_mark (mark_at marks i) own in in_front i b e mark (row i b Bare e mark);
      result = refl;
      falls = refl;
      rest = [];
      leave = subst (λ is. StandAt (site c) is (label (y.leave + 1))) (sym (append-nil (epilogue (outer_layout y) []))) outer_end;
      few_saved = lit≤ tt;
      area = refl;
      pointer = pointer;
      aligned = aligned;
    }
      where
        bare_mark : (m : Mark) → is_bare m ≡ true → m ≡ Bare
        bare_mark Bare h = refl
        bare_mark Begin h = absurd (let no : ⊥ = cc in no)
        bare_mark Framed h = absurd (let no : ⊥ = cc in no)

        begin_is : (m : Mark) → is_outside m ≡ true → is_bare m ≡ false → m ≡ Begin
        begin_is Bare h k = absurd (let no : ⊥ = cc in no)
        begin_is Begin h k = refl
        begin_is Framed h k = absurd (let no : ⊥ = cc in no)

-- ---- from the call on

pub performs_marked : (w : World) (at need : ℕ) (label global : ℕ → ℕ) (addresses : List ℕ) (f : Code Location) (slots : ℕ) (marks : List Mark) → FrameFits f slots
    → IsMarked f slots marks → frame_size f slots ≤ need → IsWorld w → ((n a : ℕ) → slice_get addresses n ≡ Some a → global n ≡ a) → ((n : ℕ) → global n < 2 ^ 30)
    → Stand w.memory_map label global (marked_code f slots marks) at
    → KeepsFrame w at need (frame_size f slots) (area f) (map (λ d. d.class) f.params) f.result (flat_begin f) (flat_step f addresses)
performs_marked w at need label global addresses f slots marks frame is fits world globals near stands sp j stack clear log r n goes all s ready =
    let above = stack.above in
    let good : IsSetting (setting w label global addresses f slots sp j.memory s) =
    fits_setting w label global addresses f slots sp j.memory s frame world globals near (omega (arith, above, fits)) stack.below in
    let c : Setting = setting w label global addresses f slots sp j.memory s in
    let y : Layout = layout f slots in
    let rs : List ℕ = saved_registers f in
    let none : area f ≡ 0 = no_area f.blocks is.none_made in
    let entries : List Item = entry_items (outer_layout y) f.params in
    let body : List Item = rows (λ l. l) (marked_body y rs marks) 0 f.blocks ++ (Label y.leave ∷ ends_items y rs) in
    let at_body = stand_after (site c) entries body at stands in
    let z : Setting = outer w label global addresses f slots marks is sp j.memory s in
    let e : Setting = unframed c in
    let code : CodeStands z f =
    outer_code w label global addresses f slots marks is sp j.memory s good ready.stack_pointer ready.return_address at_body.place at_body.stands none in
    let bare = params_bare f.params is.bare in
    let below = ready.below_top in
    let count = length-classes f.params in
    let few_params = leb-true (length f.params) 64 is.few_params in
    let can : CanTake e (length f.params) 0 f.params = record {
      count = omega arith;
      few = few_params;
      fits = omega (arith, below, count);
      places = bare.0;
      may = bare.1;
    } in
    let m = (leads_entry e (unframed_is c none good) f.params j.args s can is.apart (all_passed e at f j ready) (comes_in c at (classes f.params) j clear ready s (nothing_done s))).from body
    (subst (λ a. StandAt (site c) (entries ++ body) a) (sym ready.place) stands) ready.fixed in
    let few = m.few in
    let size = (entry_size (outer_layout y) f.params (lit< tt) few_params is.near).few in
    enter z f code j r n (follows z f code j r n) 0 (flat_begin f (sp - area f) j) m.steps m.after (first_outside (mark_at marks 0) is.first)
    (record {
      place = sym (first_label (site c) (λ l. l) (marked_body y rs marks) 0 f.blocks y.leave (ends_items y rs) m.after.pc (sym (zero-add (length f.blocks))) m.stands);
      fixed = m.fixed;
      framed = m.holds.framed;
      comes = m.comes;
      output = m.holds.output ∙ sym (append-nil s.output);
      price = omega (arith, few, size);
      pace = omega arith;
    }) (λ e. refl) log goes all
  where
    first_outside : (m : Mark) → is_bare m ≡ true → is_outside m ≡ true
    first_outside Bare h = refl
    first_outside Begin h = absurd (let no : ⊥ = cc in no)
    first_outside Framed h = absurd (let no : ⊥ = cc in no)
