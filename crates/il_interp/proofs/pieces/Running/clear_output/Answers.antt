use Rattle.std.proofs.Common.{ap, refl}
use Rattle.il_interp.proofs.PieceLaws.{cleared}
use Rattle.il_interp.proofs.pieces.Running.clear_output.Goals as goal

pub returns-clause-before : goal.returns-clause-before
returns-clause-before c = λ n. cleared c.args.self.now _ n refl (ap (λ out. record c.args.self.now.state { output = out }) c.clear.ensures)
