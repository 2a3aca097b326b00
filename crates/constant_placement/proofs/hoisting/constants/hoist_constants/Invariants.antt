use Rattle.std.specs.Prelude.{IfSome}
use Rattle.il_ast.specs.Prelude.{Keeps}
use Rattle.vcode.specs.Prelude.{virtual_code}
use Rattle.constant_placement.proofs.hoisting.constants.hoist_constants.Given as goal

abbrev pub invariant-loop-plan : goal.invariant-loop-plan
invariant-loop-plan l = IfSome l.held (λ h. Keeps (virtual_code l.fn.function) (virtual_code h))
