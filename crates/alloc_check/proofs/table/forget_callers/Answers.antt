use Rattle.std.proofs.Common.{arith, sym}
use Rattle.alloc_check.proofs.Holding.{forget_step, forget_all}
use Rattle.alloc_check.proofs.table.forget_callers.Goals as goal

pub loop-register-preserved : goal.loop-register-preserved
loop-register-preserved c =
    forget_step c.args.time c.loop-register.cells c.args.cells.now c.loop-register.register c.item-held.result c.kept.result c.loop-register.invariant (omega arith)
    (sym c.item-held.ensures) c.kept.ensures

pub returns : goal.returns
returns c = forget_all c.args.time c.loop-register.cells c.args.cells.now c.loop-register.register c.loop-register-test.false (omega arith) (omega arith) c.loop-register.invariant
