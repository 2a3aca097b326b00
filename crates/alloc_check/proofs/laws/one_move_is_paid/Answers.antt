use Rattle.std.proofs.Common.{arith}
use Rattle.alloc_check.proofs.Naming.{jump_most}
use Rattle.alloc_check.proofs.laws.one_move_is_paid.Goals as goal

pub returns : goal.returns
returns c = (λ from to d callee args. omega arith, λ from to j. (let most = jump_most j in omega (arith, most)))
