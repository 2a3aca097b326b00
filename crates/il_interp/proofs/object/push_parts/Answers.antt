use Rattle.il_interp.proofs.StartLemmas.{parts_next}
use Rattle.il_interp.proofs.object.push_parts.Goals as goal

pub loop-index-preserved : goal.loop-index-preserved
loop-index-preserved c = parts_next c.args.value c.loop-index.index c.args.block.now c.loop-index.block c.push.new.self c.loop-index-test.true c.loop-index.invariant c.in_ok-push.ensures
