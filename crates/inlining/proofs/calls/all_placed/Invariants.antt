use Rattle.vcode.specs.declared.function.VFunc.{VFunc}
use Rattle.inlining.specs.Growth.{IsGrowth}
use Rattle.inlining.proofs.calls.all_placed.Given as goal

abbrev pub invariant-loop-next : goal.invariant-loop-next
invariant-loop-next l = (v : VFunc) → IsGrowth l.fn.candidates v l.fn.growth → IsGrowth l.fn.candidates v l.growth
