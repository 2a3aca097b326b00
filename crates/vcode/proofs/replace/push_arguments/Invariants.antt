use Rattle.std.proofs.Common.{◌≡◌, ◌++◌, map, drop}
use Rattle.vcode.specs.Prelude.{with_argument}
use Rattle.vcode.proofs.replace.push_arguments.Given as goal

abbrev pub invariant-loop-arg : goal.invariant-loop-arg
invariant-loop-arg g l =
    l.to ++ map (with_argument (g.R.Replace.replacing l.by)) (drop l.arg-index l.args)
    ≡ l.fn.to ++ map (with_argument (g.R.Replace.replacing l.fn.by)) l.fn.args
