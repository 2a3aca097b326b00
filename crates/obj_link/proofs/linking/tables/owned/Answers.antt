use Rattle.obj_link.proofs.OwnLemmas.{own_further}
use Rattle.obj_link.proofs.linking.tables.owned.Goals as goal

pub loop-global-preserved : goal.loop-global-preserved
loop-global-preserved c =
    λ t s. let e = own_further c.args.names.now c.loop-global.global-index c.global-item.result t s c.loop-global-test.true c.global-item.is in
    let i = c.loop-global.invariant t s in
    let d = c.in_ok-define.ensures t s in
    cc
