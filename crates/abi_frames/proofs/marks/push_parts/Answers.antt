use Rattle.std.proofs.Common.{◌+◌, ◌++◌, ◌∷◌, drop, sym, ap, ◌∙◌, arith}
use Rattle.std.proofs.lemmas.List.{drop_all, append-nil}
use Rattle.std.specs.List.{list_all, sum_by}
use Rattle.abi_frames.proofs.Shared.{Label, Location, Block}
use Rattle.vcode.specs.Prelude.{alloc_bytes, passes_few}
use Rattle.vcode.proofs.Lists.{item_next}
use Rattle.abi_frames.specs.Emission.{rows}
use Rattle.abi_frames.specs.Functions.{part_items, marked_body}
use Rattle.abi_frames.proofs.Walking.{all_next, sum_next, code_next}
use Rattle.abi_frames.proofs.marks.push_parts.Goals as goal

pub push_labelled-requires-clause-few : goal.push_labelled-requires-clause-few
push_labelled-requires-clause-few c =
    (all_next (λ (b : Block Location). list_all passes_few b.lines) c.args.blocks.now c.loop-number.number c.index-blocks-number.result c.loop-number-test.true c.index-blocks-number.is c.loop-number.invariant.2).0

pub push_labelled-requires-clause-room : goal.push_labelled-requires-clause-room
push_labelled-requires-clause-room c =
    let sum = sum_next (λ (b : Block Location). sum_by alloc_bytes b.lines) c.args.blocks.now c.loop-number.number c.index-blocks-number.result c.loop-number-test.true c.index-blocks-number.is in
    let room = c.loop-number.invariant.1 in
    omega (arith, sum, room)

pub loop-number-preserved : goal.loop-number-preserved
loop-number-preserved c =
    let blocks = c.args.blocks.now in
    let i = c.loop-number.number in
    let b = c.index-blocks-number.result in
    let y = c.args.layout.now in
    let rs = c.args.saved.now in
    let marks = c.args.marks.now in
    let before = c.loop-number.items.items in
    let sum = sum_next (λ (b : Block Location). sum_by alloc_bytes b.lines) blocks i b c.loop-number-test.true c.index-blocks-number.is in
    let room = c.loop-number.invariant.1 in (
      code_next before c.push_labelled.new.items.items (Label i ∷ marked_body y rs marks i b) (rows (λ k. k) (marked_body y rs marks) (i + 1) (drop (i + 1) blocks)) (c.args.items.now.items ++ rows (λ k. k) (marked_body y rs marks) 0 blocks) (c.in_ok-push_labelled.ensures ∙ ap (λ m. before ++ (Label i ∷ part_items y rs m i b)) c.mark_at-mark.ensures)
          (ap (λ xs. before ++ rows (λ k. k) (marked_body y rs marks) i xs) (sym (item_next blocks i b c.loop-number-test.true c.index-blocks-number.is)) ∙ c.loop-number.invariant.0),
      omega (arith, sum, room),
      (all_next (λ (b : Block Location). list_all passes_few b.lines) blocks i b c.loop-number-test.true c.index-blocks-number.is c.loop-number.invariant.2).1,
    )

pub returns : goal.returns
returns c =
    let items = c.loop-number.items.items in
    sym (append-nil items) ∙ ap (λ xs. items ++ rows (λ k. k) (marked_body c.args.layout.now c.args.saved.now c.args.marks.now) c.loop-number.number xs) (sym (drop_all c.loop-number.number c.args.blocks.now c.loop-number-test.false)) ∙ c.loop-number.invariant.0
