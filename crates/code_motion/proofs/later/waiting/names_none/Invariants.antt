use Rattle.std.proofs.Common.{◌≡◌, ℕ, drop}
use Rattle.std.specs.List.{list_all}
use Rattle.vcode.specs.declared.place.Argument.{Argument}
use Rattle.vcode.specs.Prelude.{operand_keeps}
use Rattle.code_motion.specs.Later.{differs}
use Rattle.code_motion.proofs.later.waiting.names_none.Given as goal

abbrev pub invariant-loop-arg : goal.invariant-loop-arg
invariant-loop-arg l = list_all (λ (a : Argument ℕ). operand_keeps (differs l.register) a.value) (drop l.arg-index l.args) ≡ list_all (λ (a : Argument ℕ). operand_keeps (differs l.fn.register) a.value) l.fn.args
