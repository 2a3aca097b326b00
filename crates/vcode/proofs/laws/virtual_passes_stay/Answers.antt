use Rattle.il_ast.proofs.Passing.{passes_stay}
use Rattle.vcode.specs.Prelude.{virtual_code}
use Rattle.vcode.proofs.laws.virtual_passes_stay.Goals as goal

pub returns : goal.returns
returns c = λ f v w. passes_stay f (virtual_code v) (virtual_code w)
