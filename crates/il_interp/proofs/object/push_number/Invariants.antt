use Rattle.std.proofs.Common.{◌≡◌, ◌++◌, ◌-◌, map}
use Rattle.il_ast.specs.declared.value.Cell.TheVariants.{Plain}
use Rattle.il_ast.specs.Prelude.{bytes_of}
use Rattle.il_interp.proofs.object.push_number.Given as goal

abbrev pub invariant-loop-done : goal.invariant-loop-done
invariant-loop-done l = l.block ++ map Plain (bytes_of (l.count - l._done) l.rest) ≡ l.fn.block ++ map Plain (bytes_of l.count l.number)
