use Rattle.rv_machine.proofs.PageLemmas.{table-more}
use Rattle.rv_machine.proofs.pages.extend_to.Goals as goal

pub loop-made-preserved : goal.loop-made-preserved
loop-made-preserved c =
    table-more c.args.pages.now.items c.loop-made.pages.items c.push.new.self.items c.loop-made.made c.loop-made.invariant c.in_ok-push.ensures.items
