use Rattle.std.proofs.Common.{◌+◌, ◌++◌, drop, sym, ap, ◌∙◌, arith}
use Rattle.vcode.specs.Prelude.{alloc_bytes, passes_few}
use Rattle.vcode.proofs.Lists.{item_next}
use Rattle.std.proofs.lemmas.List.{drop_all, append-nil}
use Rattle.abi_frames.specs.Emission.{line_items, lines_items}
use Rattle.abi_frames.proofs.Walking.{all_next, sum_next, code_next}
use Rattle.abi_frames.proofs.line.push_lines.Goals as goal

pub push_line-requires-clause-few : goal.push_line-requires-clause-few
push_line-requires-clause-few c =
    (all_next passes_few c.args.lines.now c.loop-line.line-index c.line-item.result c.loop-line-test.true c.line-item.is c.loop-line.invariant.2).0

pub alloc_bytes-used-requires : goal.alloc_bytes-used-requires
alloc_bytes-used-requires c =
    let sum = sum_next alloc_bytes c.args.lines.now c.loop-line.line-index c.line-item.result c.loop-line-test.true c.line-item.is in
    let room = c.loop-line.invariant.1 in
    omega (arith, sum, room)

pub overflow_add-used : goal.overflow_add-used
overflow_add-used c =
    let sum = sum_next alloc_bytes c.args.lines.now c.loop-line.line-index c.line-item.result c.loop-line-test.true c.line-item.is in
    let room = c.loop-line.invariant.1 in
    let own = c.alloc_bytes-used.ensures in
    omega (arith, sum, room, own)

pub loop-line-preserved : goal.loop-line-preserved
loop-line-preserved c =
    let lines = c.args.lines.now in
    let i = c.loop-line.line-index in
    let l = c.line-item.result in
    let y = c.args.layout.now in
    let used = c.loop-line.used in
    let before = c.loop-line.items.items in
    let after = c.push_line.new.items.items in
    let rest = drop (i + 1) lines in
    let own = c.alloc_bytes-used.ensures in
    let sum = sum_next alloc_bytes lines i l c.loop-line-test.true c.line-item.is in
    let room = c.loop-line.invariant.1 in (
      ap (λ n. after ++ lines_items y (used + n) rest) own
          ∙ code_next before after (line_items y used l) (lines_items y (used + alloc_bytes l) rest) (c.args.items.now.items ++ lines_items y 0 lines) c.in_ok-push_line.ensures
          (ap (λ rows. before ++ lines_items y used rows) (sym (item_next lines i l c.loop-line-test.true c.line-item.is)) ∙ c.loop-line.invariant.0),
      omega (arith, sum, room, own),
      (all_next passes_few lines i l c.loop-line-test.true c.line-item.is c.loop-line.invariant.2).1,
    )

pub returns : goal.returns
returns c =
    let lines = c.args.lines.now in
    let i = c.loop-line.line-index in
    let items = c.loop-line.items.items in
    sym (append-nil items) ∙ ap (λ rows. items ++ lines_items c.args.layout.now c.loop-line.used rows) (sym (drop_all i lines c.loop-line-test.false)) ∙ c.loop-line.invariant.0
