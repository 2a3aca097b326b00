use Rattle.std.proofs.Common.{◌≡◌, ◌++◌, take}
use Rattle.il_ast.specs.Prelude.{parts}
use Rattle.il_interp.proofs.object.push_parts.Given as goal

abbrev pub invariant-loop-index : goal.invariant-loop-index
invariant-loop-index l = l.block ≡ l.fn.block ++ take l.index (parts l.value)
