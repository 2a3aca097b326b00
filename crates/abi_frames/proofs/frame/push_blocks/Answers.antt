use Rattle.std.proofs.Common.{◌+◌, ◌++◌, drop, sym, ap, ◌∙◌, arith}
use Rattle.std.proofs.lemmas.List.{drop_all, append-nil}
use Rattle.std.specs.List.{list_all, sum_by}
use Rattle.abi_frames.proofs.Shared.{Location, Block}
use Rattle.vcode.specs.Prelude.{alloc_bytes, passes_few}
use Rattle.vcode.proofs.Lists.{item_next}
use Rattle.abi_frames.specs.Emission.{block_items, blocks_items}
use Rattle.abi_frames.proofs.Walking.{all_next, sum_next, code_next}
use Rattle.abi_frames.proofs.frame.push_blocks.Goals as goal

pub push_block-requires-clause-few : goal.push_block-requires-clause-few
push_block-requires-clause-few c =
    (all_next (λ (b : Block Location). list_all passes_few b.lines) c.args.blocks.now c.loop-label.label c.index-blocks-label.result c.loop-label-test.true c.index-blocks-label.is c.loop-label.invariant.2).0

pub push_block-requires-clause-room : goal.push_block-requires-clause-room
push_block-requires-clause-room c =
    let sum = sum_next (λ (b : Block Location). sum_by alloc_bytes b.lines) c.args.blocks.now c.loop-label.label c.index-blocks-label.result c.loop-label-test.true c.index-blocks-label.is in
    let room = c.loop-label.invariant.1 in
    omega (arith, sum, room)

pub loop-label-preserved : goal.loop-label-preserved
loop-label-preserved c =
    let blocks = c.args.blocks.now in
    let i = c.loop-label.label in
    let b = c.index-blocks-label.result in
    let y = c.args.layout.now in
    let rs = c.args.saved.now in
    let before = c.loop-label.items.items in
    let sum = sum_next (λ (b : Block Location). sum_by alloc_bytes b.lines) blocks i b c.loop-label-test.true c.index-blocks-label.is in
    let room = c.loop-label.invariant.1 in (
      code_next before c.push_block.new.items.items (block_items y rs i b) (blocks_items y rs (i + 1) (drop (i + 1) blocks)) (c.args.items.now.items ++ blocks_items y rs 0 blocks) c.in_ok-push_block.ensures
          (ap (λ rows. before ++ blocks_items y rs i rows) (sym (item_next blocks i b c.loop-label-test.true c.index-blocks-label.is)) ∙ c.loop-label.invariant.0),
      omega (arith, sum, room),
      (all_next (λ (b : Block Location). list_all passes_few b.lines) blocks i b c.loop-label-test.true c.index-blocks-label.is c.loop-label.invariant.2).1,
    )

pub returns : goal.returns
returns c =
    let items = c.loop-label.items.items in
    sym (append-nil items) ∙ ap (λ rows. items ++ blocks_items c.args.layout.now c.args.saved.now c.loop-label.label rows) (sym (drop_all c.loop-label.label c.args.blocks.now c.loop-label-test.false)) ∙ c.loop-label.invariant.0
