use Rattle.std.proofs.Common.{[]}
use Rattle.std.proofs.lemmas.Result.{IfOk-weaker}
use Rattle.qbec.specs.Pipeline.{StandWithin}
use Rattle.qbec.proofs.Placing.{stands_anyhow}
use Rattle.qbec.proofs.pipeline.promoted_words.Goals as goal

pub returns-in-None : goal.returns-in-None
returns-in-None g c =
    let f = c.args.func.now in
    IfOk-weaker c.without_calls_placed.result (λ code. StandWithin c.args.form [] f code) (λ code. StandWithin c.args.form c.args.candidates.now f code)
    (λ code h. stands_anyhow c.args.form c.args.candidates.now f code h) c.without_calls_placed.ensures
