use Rattle.std.proofs.Common.{ap}
use Rattle.obj_link.specs.Prelude.{program}
use Rattle.il_interp.specs.Machine.{inst_next}
use Rattle.il_interp.proofs.instruction.in_row.Goals as goal

pub returns-in-Some : goal.returns-in-Some
returns-in-Some c = ap (inst_next (program c.args.linked.now) c.args.state.now) (c.in-Some.ensures c.args.state.now.frame.owned)

pub returns-in-None : goal.returns-in-None
returns-in-None c = ap (inst_next (program c.args.linked.now) c.args.state.now) (c.in-None.ensures.0 c.requires.row c.args.state.now.frame.owned)
