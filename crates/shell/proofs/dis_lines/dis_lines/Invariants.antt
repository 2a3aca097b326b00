use Rattle.std.proofs.Common.{◌≡◌, ◌++◌, map, drop, string_bytes}
use Rattle.shell.specs.Lines.{dis_lines}
use Rattle.shell.proofs.dis_lines.dis_lines.Given as goal

abbrev pub invariant-loop-segment : goal.invariant-loop-segment
invariant-loop-segment l = record {
  lines : map string_bytes l.lines.items ++ dis_lines (drop l.segment-index l.segment-items) ≡ dis_lines l.file.mappings;
}
