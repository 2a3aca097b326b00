use Rattle.std.proofs.Common.{◌≡◌, ◌++◌, ◌+◌, ◌-◌}
use Rattle.il_ast.specs.Prelude.{pointers_from}
use Rattle.il_interp.proofs.start.push_pointers.Given as goal

abbrev pub invariant-loop-number : goal.invariant-loop-number
invariant-loop-number l = l.block ++ pointers_from (l.first + l.number) (l.count - l.number) ≡ l.fn.block ++ pointers_from l.first l.count
