use Rattle.std.proofs.Common.{◌≡◌, ◌++◌, map, take}
use Rattle.il_ast.specs.declared.value.Cell.TheVariants.{Plain}
use Rattle.il_interp.proofs.object.push_bytes.Given as goal

abbrev pub invariant-loop-byte : goal.invariant-loop-byte
invariant-loop-byte l = l.block ≡ l.fn.block ++ map Plain (take l.byte-index l.bytes)
