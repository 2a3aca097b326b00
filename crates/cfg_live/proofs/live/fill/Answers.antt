use Rattle.std.proofs.Common.{refl}
use Rattle.std.proofs.lemmas.Result.{on_ok_weaker}
use Rattle.cfg_live.proofs.Whole.{whole}
use Rattle.cfg_live.proofs.live.fill.Goals as goal

pub returns-clause-live : goal.returns-clause-live
returns-clause-live c =
    on_ok_weaker c.spread.result
    (λ stable. whole c.args.graph.now c.args.registers c.in_ok-set.set.length c.args.rows.now c.args.rows.now c.spread.new.rows c.in_ok-set.ensures.length
    refl c.requires.blank c.requires.uses c.requires.nexts c.spread.ensures.went stable)
    c.spread.ensures.stable
