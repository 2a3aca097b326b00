use Rattle.il_interp.proofs.AccessLemmas.{move_answered}
use Rattle.il_interp.proofs.accesses.add.Goals as goal

pub returns : goal.returns
returns c =
    move_answered c.args.temps.now c.set_moved.new.self c.args.to.now c.args.op.now c.args.left.now c.args.right.now c.in-Temp.base c.number-2.result c.number.result
    c.in-Some.by c.set_moved.result c.set_moved.ensures c.in-L.is c.in-Add.is c.in-Temp.is c.number-2.ensures c.number.ensures c.in-Some.ensures
