use Rattle.std.proofs.Common.{rules}
use Rattle.il_ast.proofs.label.Label.number.Goals as goal

pub returns : goal.returns
returns c = search rules
