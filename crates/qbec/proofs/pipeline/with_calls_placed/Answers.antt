use Rattle.std.proofs.lemmas.Result.{IfOk-weaker}
use Rattle.vcode.specs.Prelude.{virtual_code}
use Rattle.inlining.specs.InPlace.{KeepsCalls}
use Rattle.qbec.specs.Pipeline.{IsCodeWith}
use Rattle.qbec.proofs.Placing.{placed_is}
use Rattle.qbec.proofs.pipeline.with_calls_placed.Goals as goal

pub returns : goal.returns
returns c =
    let candidates = c.args.candidates.now in
    let f = c.args.func.now in
    let v = c.in_ok-function.function in
    IfOk-weaker c.inline_calls.result (λ w. KeepsCalls candidates v.code w.code) (λ w. IsCodeWith candidates f (virtual_code w))
    (λ w kept. placed_is candidates f v w c.in_ok-function.ensures.is kept) c.inline_calls.ensures
