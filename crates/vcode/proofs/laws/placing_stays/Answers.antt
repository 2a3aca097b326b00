use Rattle.il_ast.proofs.Passing.{passes_stay}
use Rattle.vcode.specs.Prelude.{virtual_code, location_code}
use Rattle.vcode.proofs.laws.placing_stays.Goals as goal

pub returns : goal.returns
returns c = λ f v l. passes_stay f (virtual_code v) (location_code l)
