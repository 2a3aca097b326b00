use Rattle.std.proofs.Common.{◌≡◌, ◌++◌, drop}
use Rattle.certificates.specs.Listed.{listed_params}
use Rattle.certificates.proofs.list.push_params.Given as goal

abbrev pub invariant-loop-param : goal.invariant-loop-param
invariant-loop-param l = l.params ++ listed_params l.list (drop l.param-index l.from) ≡ l.fn.params ++ listed_params l.list l.fn.from
