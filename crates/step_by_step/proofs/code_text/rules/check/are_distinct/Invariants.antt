use Rattle.std.proofs.Common.{◌≡◌, drop}
use Rattle.vcode.specs.Prelude.{are_distinct}
use Rattle.step_by_step.proofs.code_text.rules.check.are_distinct.Given as goal

abbrev pub invariant-loop-k : goal.invariant-loop-k
invariant-loop-k g l = are_distinct g.P.CodePlace.apart (drop l.k l.params) ≡ are_distinct g.P.CodePlace.apart l.fn.params
