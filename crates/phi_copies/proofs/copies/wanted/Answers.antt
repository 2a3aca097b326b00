use Rattle.std.proofs.Common.{map, ap}
use Rattle.phi_copies.specs.declared.ending.Assignment.{Assignment}
use Rattle.phi_copies.specs.Together.{wanted}
use Rattle.phi_copies.proofs.Lists.{made_on}
use Rattle.phi_copies.proofs.copies.wanted.Goals as goal

pub loop-phi-preserved : goal.loop-phi-preserved
loop-phi-preserved c =
    made_on (wanted c.args.from) c.args.phis.now c.loop-phi.phi-index c.phi-item.result _ c.loop-phi.copies.items c.push.new.self.items (map (wanted c.args.from) c.args.phis.now)
    c.loop-phi-test.true c.phi-item.is (ap {B = Assignment} (λ v. record { to = c.phi-item.result.to; value = v }) c.source.ensures) c.in_ok-push.ensures.items c.loop-phi.invariant
