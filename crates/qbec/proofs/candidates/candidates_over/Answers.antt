use Rattle.obj_link.specs.Prelude.{program}
use Rattle.qbec.proofs.Placing.{no_tables, more_tables}
use Rattle.qbec.proofs.candidates.candidates_over.Goals as goal

pub loop-text-init : goal.loop-text-init
loop-text-init c = no_tables (program c.args.linked.now) c.in_ok-tables.tables.items c.in_ok-tables.ensures.items

pub loop-text-preserved : goal.loop-text-preserved
loop-text-preserved c =
    more_tables (program c.args.linked.now) c.loop-text.tables.items c.push.new.self.items c.in_ok-candidates_at.field-0 c.loop-text.text c.in_ok-push.ensures.items c.loop-text.invariant c.in_ok-candidates_at.ensures
