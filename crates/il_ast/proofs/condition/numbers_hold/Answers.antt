use Rattle.std.proofs.Common.{rules}
use Rattle.il_ast.proofs.condition.numbers_hold.Goals as goal

pub returns-in-W : goal.returns-in-W
returns-in-W c = search rules
