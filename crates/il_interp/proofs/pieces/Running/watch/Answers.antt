use Rattle.std.proofs.Common.{refl}
use Rattle.il_interp.proofs.PieceLaws.{same_state}
use Rattle.il_interp.proofs.pieces.Running.watch.Goals as goal

pub returns-clause-same : goal.returns-clause-same
returns-clause-same c = λ n. same_state c.args.self.now _ n refl refl
