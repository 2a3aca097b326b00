use Rattle.std.proofs.Common.{◌≡◌, drop, not}
use Rattle.il_types.specs.Prelude.{when, first, value_is_defined}
use Rattle.il_types.specs.declared.site.Operand.{Operand}
use Rattle.il_types.proofs.temps.first_undefined.Given as goal

abbrev pub invariant-loop-operand : goal.invariant-loop-operand
invariant-loop-operand l = first (λ (o : Operand). when (not (value_is_defined l.words l.longs o.value)) o.line) (drop l.operand-index l.operands) ≡ first (λ (o : Operand). when (not (value_is_defined l.words l.longs o.value)) o.line) l.operands
