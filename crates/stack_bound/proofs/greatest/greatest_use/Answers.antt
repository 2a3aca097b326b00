use Rattle.obj_link.specs.Prelude.{program}
use Rattle.stack_bound.proofs.MainBound.{main_enough, main_stays}
use Rattle.stack_bound.proofs.greatest.greatest_use.Goals as goal

pub returns-clause-enough : goal.returns-clause-enough
returns-clause-enough c = main_enough (program c.args.linked.now) c.args.bounds.now _ c.requires c.bound_of.ensures

pub returns-clause-stays : goal.returns-clause-stays
returns-clause-stays c = main_stays (program c.args.linked.now) c.args.bounds.now _ c.requires c.bound_of.ensures
