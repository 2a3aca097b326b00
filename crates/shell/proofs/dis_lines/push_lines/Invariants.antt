use Rattle.std.proofs.Common.{◌≡◌, ◌+◌, ◌^◌, ◌<◌, ◌++◌, length, map, string_bytes}
use Rattle.shell.specs.Lines.{lines_of}
use Rattle.shell.proofs.dis_lines.push_lines.Given as goal

abbrev pub invariant-loop-rest : goal.invariant-loop-rest
invariant-loop-rest l = record {
  lines : map string_bytes l.lines.items ++ lines_of l.address l.rest ≡ map string_bytes l.fn.lines.items ++ lines_of l.start l.bytes;
  room : l.address + length l.rest < 2 ^ 64;
}

abbrev pub decreases-loop-rest : goal.decreases-loop-rest
decreases-loop-rest l = length l.rest
