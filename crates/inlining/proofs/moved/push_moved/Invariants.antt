use Rattle.std.proofs.Common.{◌≡◌, ◌++◌, map, drop}
use Rattle.vcode.specs.Prelude.{with_argument}
use Rattle.inlining.specs.InPlace.{moved}
use Rattle.inlining.proofs.moved.push_moved.Given as goal

abbrev pub invariant-loop-arg : goal.invariant-loop-arg
invariant-loop-arg l = l.to ++ map (with_argument (moved l.base)) (drop l.arg-index l.args) ≡ l.fn.to ++ map (with_argument (moved l.fn.base)) l.fn.args
