use Rattle.std.proofs.Common.{◌+◌, drop, sym, ap, ◌∙◌, arith}
use Rattle.vcode.proofs.Lists.{item_next}
use Rattle.abi_frames.specs.Emission.{left_behind}
use Rattle.abi_frames.proofs.price.left_behind.Goals as goal

pub loop-line-preserved : goal.loop-line-preserved
loop-line-preserved c =
    let lines = c.args.lines.now in
    let i = c.loop-line.line-index in
    let item = c.line-item.result in
    let small = c.left_by-left.ensures.small in
    let before = c.loop-line.invariant.1 in (
      ap (λ n. left_behind n (drop (i + 1) lines)) c.left_by-left.ensures.value
          ∙ (ap (left_behind c.loop-line.left) (sym (item_next lines i item c.loop-line-test.true c.line-item.is)) ∙ c.loop-line.invariant.0),
      omega (arith, small, before),
    )
