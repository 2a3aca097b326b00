use Rattle.std.proofs.Common.{◌≡◌, take}
use Rattle.il_ast.specs.Prelude.{largest_in}
use Rattle.il_types.proofs.cost.largest_call.Given as goal

abbrev pub invariant-loop-inst : goal.invariant-loop-inst
invariant-loop-inst l = l.most ≡ largest_in (take l.inst-index l.insts)
