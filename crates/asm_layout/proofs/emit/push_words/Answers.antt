use Rattle.std.proofs.Common.{◌∙◌, length, ap, subst, drop, arith}
use Rattle.rv_isa.specs.Prelude.{longest_size}
use Rattle.asm_layout.specs.Forms.{no_address, AllFit}
use Rattle.asm_layout.proofs.Distances.{size_longest}
use Rattle.asm_layout.proofs.Standing.{more_length}
use Rattle.asm_layout.proofs.Steps.{from_item, words_on, fit_on}
use Rattle.asm_layout.proofs.emit.push_words.Goals as goal

pub push_item-requires-clause-fits : goal.push_item-requires-clause-fits
push_item-requires-clause-fits c =
    let next = from_item c.args.items.now c.loop-item.item-index c.item-item.result c.loop-item-test.true c.item-item.is in
    (subst (AllFit c.args.far.now c.args.places.now c.loop-item.here (length c.loop-item.words.items)) next c.loop-item.invariant.1).0

pub push_item-requires-clause-near : goal.push_item-requires-clause-near
push_item-requires-clause-near c = omega arith

pub overflow_add-here : goal.overflow_add-here
overflow_add-here c =
    let rest = ap longest_size (from_item c.args.items.now c.loop-item.item-index c.item-item.result c.loop-item-test.true c.item-item.is) in
    omega arith

pub loop-item-preserved : goal.loop-item-preserved
loop-item-preserved c =
    let next = from_item c.args.items.now c.loop-item.item-index c.item-item.result c.loop-item-test.true c.item-item.is in
    let rest = ap longest_size next in
    let short = size_longest c.args.far.now c.loop-item.here c.item-item.result in
    let grown = ap length c.in_ok-push_item.ensures ∙ more_length c.args.far.now c.args.places.now no_address c.loop-item.here c.loop-item.words.items c.item-item.result in (
      words_on c.args.far.now c.args.places.now c.loop-item.here c.longest-here.result c.loop-item.words.items c.push_item.new.words.items c.item-item.result (drop c.loop-item.item-index c.args.items.now) _ next c.in_ok-push_item.ensures c.longest-here.ensures
          ∙ c.loop-item.invariant.0,
      fit_on c.args.far.now c.args.places.now c.loop-item.here c.longest-here.result c.loop-item.words.items c.push_item.new.words.items c.item-item.result (drop c.loop-item.item-index c.args.items.now) _ next c.in_ok-push_item.ensures c.longest-here.ensures
          c.loop-item.invariant.1,
      omega arith,
      omega arith,
    )
