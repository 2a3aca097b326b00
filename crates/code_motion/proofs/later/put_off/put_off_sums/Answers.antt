use Rattle.il_ast.proofs.Passing.{keeps_compose}
use Rattle.vcode.specs.Prelude.{virtual_code}
use Rattle.code_motion.proofs.later.put_off.put_off_sums.Goals as goal

pub loop-round-init : goal.loop-round-init
loop-round-init c = c.in_ok-first.ensures

pub loop-round-preserved : goal.loop-round-preserved
loop-round-preserved c =
    keeps_compose (virtual_code c.args.function.now) (virtual_code c.loop-round.made) (virtual_code c.in_ok-next.next) c.loop-round.invariant c.in_ok-next.ensures
