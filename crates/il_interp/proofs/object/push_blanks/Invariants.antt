use Rattle.std.proofs.Common.{◌≡◌, ◌++◌, replicate}
use Rattle.il_ast.specs.declared.value.Cell.TheVariants.{Blank}
use Rattle.il_interp.proofs.object.push_blanks.Given as goal

abbrev pub invariant-loop-done : goal.invariant-loop-done
invariant-loop-done l = l.block ≡ l.fn.block ++ replicate l._done Blank
