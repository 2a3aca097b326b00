use Rattle.il_ast.specs.Prelude.{Keeps}
use Rattle.vcode.specs.Prelude.{virtual_code}
use Rattle.code_motion.proofs.later.put_off.put_off_sums.Given as goal

abbrev pub invariant-loop-round : goal.invariant-loop-round
invariant-loop-round l = Keeps (virtual_code l.fn.function) (virtual_code l.made)
