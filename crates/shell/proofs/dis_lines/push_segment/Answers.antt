use Rattle.std.proofs.Common.{rules}
use Rattle.shell.proofs.dis_lines.push_segment.Goals as goal

pub returns-in_ok-push_lines : goal.returns-in_ok-push_lines
returns-in_ok-push_lines c = search rules
