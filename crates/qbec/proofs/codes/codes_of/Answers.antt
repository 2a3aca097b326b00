use Rattle.std.proofs.Common.{◌≡◌, true}
use Rattle.std.proofs.lemmas.Result.{IfOk-weaker}
use Rattle.obj_link.specs.Prelude.{calls_reach, program}
use Rattle.asm_layout.specs.declared.call.CallForm.TheVariants.{Far}
use Rattle.qbec.specs.Pipeline.{AllHaveForm}
use Rattle.qbec.proofs.Reaching.{far_calls_reach}
use Rattle.qbec.proofs.codes.codes_of.Goals as goal

pub returns-clause-reach : goal.returns-clause-reach
returns-clause-reach g c =
    IfOk-weaker c.codes_in-2.result (λ v. AllHaveForm Far v.items) (λ v. calls_reach (program c.args.linked.now) v.items ≡ true)
    (λ v h. far_calls_reach (program c.args.linked.now) v.items h) c.codes_in-2.ensures.calls
