use Rattle.il_ast.proofs.Passing.{keeps_compose}
use Rattle.vcode.specs.Prelude.{virtual_code}
use Rattle.vcode.proofs.laws.passes_compose.Goals as goal

pub returns : goal.returns
returns c = λ u v w. keeps_compose (virtual_code u) (virtual_code v) (virtual_code w)
