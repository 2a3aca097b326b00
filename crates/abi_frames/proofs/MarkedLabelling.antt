-- The labelled code of code with marks keeps the invariants of such code.
use Rattle.std.proofs.Common.{◌≡◌, ℕ, ◌+◌, ◌^◌, ◌<◌, ◌≤◌, true, List, [], ◌∷◌, arith, lit<, lit≤, length}
use Rattle.rv_isa.specs.Prelude.{IsLabelled}
use Rattle.abi_frames.proofs.Shared.{Label, Location, Block, Code, Layout, Mark, leb-true, longest_size, nat_tests}
use Rattle.vcode.specs.Prelude.{leads_inside}
use Rattle.frame_ways.specs.declared.mark.Mark.TheVariants.{Bare, Begin, Framed}
use Rattle.frame_ways.specs.Plans.{mark_at, IsMarked}
use Rattle.abi_frames.specs.Performs.{layout, saved_registers}
use Rattle.abi_frames.specs.Emission.{rows, epilogue}
use Rattle.abi_frames.specs.Functions.{entry_items, outer_layout, part_items, marked_body, ends_items, marked_code}
use Rattle.abi_frames.proofs.Saving.{few_saved_registers}
use Rattle.abi_frames.proofs.Sizes.{epilogue_size, entry_size}
use Rattle.abi_frames.proofs.Labelling.{rows_labelled, Labelled, none, only, numbered, labelled_then, at_most, plainly, label_then, instructions_labelled, body_labelled, some_size, some_behind, prologue_labelled, epilogue_labelled}

part_labelled : (n : ℕ) (f : Code Location) (slots : ℕ) (m : Mark) (k : ℕ) (b : Block Location) → length f.blocks + 2 ≤ n → leads_inside (length f.blocks) b.jump ≡ true
    → Labelled n none (part_items (layout f slots) (saved_registers f) m k b)
part_labelled n f slots Bare k b room inside =
    body_labelled n (outer_layout (layout f slots)) [] (length f.blocks) k b (lit≤ tt) (omega (arith, room)) (omega (arith, room)) inside
part_labelled n f slots Begin k b room inside =
    plainly (prologue_labelled n f (layout f slots))
    (body_labelled n (layout f slots) (saved_registers f) (length f.blocks) k b (few_saved_registers f) (omega (arith, room)) (omega (arith, room)) inside)
part_labelled n f slots Framed k b room inside =
    body_labelled n (layout f slots) (saved_registers f) (length f.blocks) k b (few_saved_registers f) (omega (arith, room)) (omega (arith, room)) inside

pub marked_labelled : (f : Code Location) (slots : ℕ) (marks : List Mark) → IsMarked f slots marks → longest_size (marked_code f slots marks) < 2 ^ 28
    → IsLabelled (record { items = marked_code f slots marks; labels = length f.blocks + 2 })
marked_labelled f slots marks is near =
    let y : Layout = layout f slots in
    let rs : List ℕ = saved_registers f in
    let n : ℕ = length f.blocks in
    let m : ℕ = n + 2 in
    let entry = instructions_labelled (entry_size (outer_layout y) f.params (lit< tt) (leb-true (length f.params) 64 is.few_params) is.near) in
    let blocks = rows_labelled m (marked_body y rs marks) n 0 f.blocks (omega arith) is.inside (λ k b inside. part_labelled m f slots (mark_at marks k) k b (omega arith) inside) in
    let ends = labelled_then (label_then {n = m} {l = n} (omega arith) (epilogue_labelled m f y))
    (label_then {n = m} {l = n + 1} (omega arith) (instructions_labelled (epilogue_size (outer_layout y) [] (lit≤ tt)))) in
    let whole = at_most (one n) (plainly entry (labelled_then blocks ends)) in
    let some = some_size (outer_layout y) [] in
    record {
      labels = whole.labels;
      once = whole.once;
      not_empty = some_behind (entry_items (outer_layout y) f.params) _
          (some_behind (rows (λ l. l) (marked_body y rs marks) 0 f.blocks) (Label y.leave ∷ ends_items y rs)
          (some_behind (Label y.leave ∷ epilogue y rs) (Label (y.leave + 1) ∷ epilogue (outer_layout y) []) (omega (arith, some))));
      near = near;
    }
  where
    one : (n l : ℕ) → numbered 0 n l + (only n l + only (n + 1) l) ≤ 1
    one n l = grind (arith, nat_tests)
