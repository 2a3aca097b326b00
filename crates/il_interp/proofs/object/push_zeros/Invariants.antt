use Rattle.std.proofs.Common.{◌≡◌, ◌++◌, replicate}
use Rattle.il_ast.specs.declared.value.Cell.TheVariants.{Plain}
use Rattle.il_interp.proofs.object.push_zeros.Given as goal

abbrev pub invariant-loop-done : goal.invariant-loop-done
invariant-loop-done l = l.block ≡ l.fn.block ++ replicate l._done (Plain 0)
