use Rattle.std.proofs.Common.{[]}
use Rattle.std.proofs.lemmas.Result.{IfOk-weaker}
use Rattle.qbec.specs.Pipeline.{IsLaidOut, StandWithin}
use Rattle.qbec.proofs.Standing.{stands_within}
use Rattle.qbec.proofs.pipeline.unoptimized.Goals as goal

pub returns : goal.returns
returns c =
    let f = c.args.func.now in
    let l = c.in_ok-placed.placed.located in
    let is = c.in_ok-placed.ensures in
    IfOk-weaker c.laid_out.result (λ code. IsLaidOut c.args.form l code) (λ code. StandWithin c.args.form [] f code)
    (λ code laid. stands_within c.args.form f l code is.is is.keeps is.fits is.weighs laid) c.laid_out.ensures
