use Rattle.std.proofs.Common.{◌≡◌, take, drop}
use Rattle.il_ast.specs.Prelude.{are_parts_from}
use Rattle.il_mem.proofs.read.are_parts.Given as goal

abbrev pub invariant-loop-k : goal.invariant-loop-k
invariant-loop-k l =
    are_parts_from l.k l.value (drop l.k (take l.count (drop l.from l.block))) ≡ are_parts_from 0 l.value (take l.count (drop l.from l.block))
