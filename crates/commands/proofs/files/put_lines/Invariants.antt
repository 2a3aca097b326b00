use Rattle.std.proofs.Common.{map, take, string_bytes}
use Rattle.std.specs.List.{concat}
use Rattle.shell.specs.Sink.{Sends}
use Rattle.commands.proofs.files.put_lines.Given as goal

abbrev pub invariant-loop-line : goal.invariant-loop-line
invariant-loop-line g l = Sends (g.O.Sink.told l.fn.out) (g.O.Sink.told l.out) (concat (map string_bytes (take l.line-index l.lines)))
