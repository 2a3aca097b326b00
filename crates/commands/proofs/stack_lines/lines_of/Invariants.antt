use Rattle.std.proofs.Common.{◌≡◌, ◌++◌, drop, map}
use Rattle.obj_link.specs.Prelude.{shown}
use Rattle.commands.specs.StackLines.{stack_lines}
use Rattle.commands.proofs.stack_lines.lines_of.Given as goal

abbrev pub invariant-loop-number : goal.invariant-loop-number
invariant-loop-number l = l.lines.items ++ stack_lines l.texts l.bounds l.number (map shown (drop l.number l.functions)) ≡ stack_lines l.fn.texts l.fn.bounds 0 (map shown l.fn.functions)
