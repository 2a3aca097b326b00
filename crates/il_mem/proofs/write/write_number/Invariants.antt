use Rattle.std.proofs.Common.{◌≡◌, ◌+◌, ◌-◌, length, map}
use Rattle.il_ast.specs.declared.value.Cell.TheVariants.{Plain}
use Rattle.il_ast.specs.Prelude.{bytes_of}
use Rattle.il_mem.specs.Written.{written}
use Rattle.il_mem.proofs.write.write_number.Given as goal

abbrev pub invariant-loop-k : goal.invariant-loop-k
invariant-loop-k l =
    (written (l.to + l.k) (map Plain (bytes_of (l.count - l.k) l.rest)) l.block ≡ written l.to (map Plain (bytes_of l.count l.number)) l.fn.block)
    × (length l.block ≡ length l.fn.block)
