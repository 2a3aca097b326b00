use Rattle.std.proofs.Common.{◌≡◌, take, drop}
use Rattle.il_ast.specs.Prelude.{plain_bytes}
use Rattle.il_mem.proofs.Reading.{bytes_then}
use Rattle.il_mem.proofs.read.read_bytes.Given as goal

abbrev pub invariant-loop-k : goal.invariant-loop-k
invariant-loop-k l =
    plain_bytes (take l.count (drop l.from l.block)) ≡ bytes_then l.bytes.items (plain_bytes (drop l.k (take l.count (drop l.from l.block))))
