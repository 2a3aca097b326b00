use Rattle.std.proofs.Common.{Bool, List, sym, subst, IsTrue}
use Rattle.sign_extensions.specs.Whole.{are_closed}
use Rattle.sign_extensions.proofs.Keeping.{none_closed}
use Rattle.sign_extensions.proofs.marks.whole_registers.Goals as goal

pub returns : goal.returns
returns c = subst (λ (ms : List Bool). IsTrue (are_closed ms c.args.code.now)) (sym c.new.ensures.items) (none_closed c.args.code.now)
