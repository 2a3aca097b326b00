use Rattle.std.proofs.Common.{refl}
use Rattle.std.proofs.lemmas.Result.{IfOk-weaker}
use Rattle.il_interp.proofs.PieceLaws.{went_on}
use Rattle.il_interp.proofs.pieces.Running.go_on.Goals as goal

pub returns-in-Some : goal.returns-in-Some
returns-in-Some c = IfOk-weaker c.go_on_watched.result _ _ (λ end h. went_on c.args.self.now _ c.args.turns end refl h) c.go_on_watched.ensures

pub returns-in-None : goal.returns-in-None
returns-in-None c = IfOk-weaker c.go_on.result _ _ (λ end h. went_on c.args.self.now _ c.args.turns end refl h) c.go_on.ensures
