use Rattle.std.proofs.Common.{◌≡◌, drop}
use Rattle.vcode.specs.Prelude.{are_distinct, located}
use Rattle.alloc_check.proofs.fits.are_distinct.Given as goal

abbrev pub invariant-loop-k : goal.invariant-loop-k
invariant-loop-k l = are_distinct located (drop l.k l.params) ≡ are_distinct located l.fn.params
