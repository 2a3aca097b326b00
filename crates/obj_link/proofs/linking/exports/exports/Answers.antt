use Rattle.std.proofs.Common.{◌≡◌, ◌++◌, ◌∷◌, [], ◌∙◌, ap, sym, take, ◌+◌}
use Rattle.std.proofs.lemmas.List.{take_more, take_all}
use Rattle.obj_link.specs.Prelude.{symbol_name, times_exported, visible, seen}
use Rattle.obj_link.specs.declared.linking.names.GlobalName.{GlobalName}
use Rattle.obj_link.proofs.ExportLemmas.{once_few, tabled_none, tabled_hidden, tabled_declared, exported_again}
use Rattle.obj_link.proofs.linking.exports.exports.Goals as goal
use Rattle.obj_link.proofs.linking.exports.exports.Goals.{then-global+in_ok-declare+else-not-branch, else-global}

pub returns-then-not-branch-clause-twice : goal.returns-then-not-branch-clause-twice
returns-then-not-branch-clause-twice c =
    let g = c.global-item.result in
    exported_again c.args.texts.now c.args.names.now c.loop-global.global-index g c.symbol_name-name.result.now
    (c.symbol_name-name.ensures ∙ ap (symbol_name c.args.texts.now g.text) c.number.ensures)
    (seen c.loop-global.table) c.loop-global-test.true c.global-item.is c.loop-global.invariant c.if-global.true
    (sym c.in_ok-declare.ensures.free ∙ c.if-not-branch.true)

pub loop-global-init : goal.loop-global-init
loop-global-init c = tabled_none c.args.texts.now (seen c.in_ok-table.table) c.in_ok-table.ensures

pub loop-global-preserved : goal.loop-global-preserved
loop-global-preserved c =
    let g = c.global-item.result in
    let next : take (c.loop-global.global-index + 1) c.args.names.now ≡ take c.loop-global.global-index c.args.names.now ++ g ∷ [] =
    take_more c.args.names.now c.loop-global.global-index c.global-item.result c.loop-global-test.true
    ∙ ap (λ (x : GlobalName). take c.loop-global.global-index c.args.names.now ++ x ∷ []) (sym c.global-item.is) in
    rw next
    (elim c.if-global.branch [
      | then-global+in_ok-declare+else-not-branch w ↦
          rw w.table-is
          (tabled_declared c.args.texts.now (take c.loop-global.global-index c.args.names.now) g w.symbol_name-name.result.now
          (w.symbol_name-name.ensures ∙ ap (symbol_name c.args.texts.now g.text) w.number.ensures)
          (seen c.loop-global.table) (seen w.declare.new.table) c.loop-global.invariant w.if-global.true
          (sym w.in_ok-declare.ensures.free ∙ w.if-not-branch.false)
          (w.in_ok-declare.ensures.given w.if-not-branch.false))
      | else-global w ↦ rw w.table-is (tabled_hidden c.args.texts.now (take c.loop-global.global-index c.args.names.now) g (seen c.loop-global.table) c.loop-global.invariant w.if-global.false)
    ])

pub returns-clause-seen : goal.returns-clause-seen
returns-clause-seen c =
    λ q. c.loop-global.invariant.seen q ∙ ap (λ names. visible c.args.texts.now names q) (take_all c.loop-global.global-index c.args.names.now c.loop-global-test.false)

pub returns-clause-once : goal.returns-clause-once
returns-clause-once c =
    λ q. once_few (seen c.loop-global.table q)
    (sym (ap (λ names. times_exported c.args.texts.now names q) (take_all c.loop-global.global-index c.args.names.now c.loop-global-test.false))
    ∙ c.loop-global.invariant.counted q)
