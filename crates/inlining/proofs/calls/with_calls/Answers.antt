use Rattle.inlining.proofs.Placing.{calls_kept}
use Rattle.inlining.proofs.SiteLaw.{calls_keep}
use Rattle.inlining.proofs.calls.with_calls.Goals as goal

pub returns : goal.returns
returns c =
    let v = c.args.function.now in
    let w = c.in_ok-made.made in
    calls_kept calls_keep c.args.candidates.now v.code v.registers w.code w.registers c.in_ok-made.ensures
