use Rattle.std.proofs.Common.{◌∙◌, ap, drop, arith}
use Rattle.rv_isa.specs.Prelude.{longest_size}
use Rattle.asm_layout.proofs.Distances.{size_longest}
use Rattle.asm_layout.proofs.Steps.{from_item, holes_on}
use Rattle.asm_layout.proofs.emit.push_holes.Goals as goal

pub overflow_add-place : goal.overflow_add-place
overflow_add-place c =
    let rest = ap longest_size (from_item c.args.items.now c.loop-item.item-index c.item-item.result c.loop-item-test.true c.item-item.is) in
    let short = size_longest c.args.far.now c.loop-item.here c.item-item.result in
    omega arith

pub overflow_add-here : goal.overflow_add-here
overflow_add-here c =
    let rest = ap longest_size (from_item c.args.items.now c.loop-item.item-index c.item-item.result c.loop-item-test.true c.item-item.is) in
    omega arith

pub loop-item-preserved : goal.loop-item-preserved
loop-item-preserved c =
    let next = from_item c.args.items.now c.loop-item.item-index c.item-item.result c.loop-item-test.true c.item-item.is in
    let rest = ap longest_size next in
    let short = size_longest c.args.far.now c.loop-item.here c.item-item.result in (
      holes_on c.args.far.now c.loop-item.here c.longest-here.result c.loop-item.place c.size-place.result c.loop-item.holes.items c.push_hole.new.holes.items c.item-item.result (drop c.loop-item.item-index c.args.items.now) _ next c.in_ok-push_hole.ensures c.longest-here.ensures c.size-place.ensures
          ∙ c.loop-item.invariant.0,
      omega arith,
      omega arith,
    )
