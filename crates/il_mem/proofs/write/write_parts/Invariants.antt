use Rattle.std.proofs.Common.{◌≡◌, ◌+◌, length, drop}
use Rattle.il_ast.specs.Prelude.{parts}
use Rattle.il_mem.specs.Written.{written}
use Rattle.il_mem.proofs.write.write_parts.Given as goal

abbrev pub invariant-loop-index : goal.invariant-loop-index
invariant-loop-index l =
    (written (l.to + l.index) (drop l.index (parts l.value)) l.block ≡ written l.to (parts l.value) l.fn.block)
    × (length l.block ≡ length l.fn.block)
