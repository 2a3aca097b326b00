use Rattle.std.proofs.lemmas.Result.{IfOk-weaker}
use Rattle.obj_link.specs.Prelude.{program}
use Rattle.qbec.specs.Pipeline.{AreCandidatesMeant, AreCandidatesAt}
use Rattle.qbec.proofs.Placing.{candidates_are_at}
use Rattle.qbec.proofs.candidates.candidates_at.Goals as goal

pub candidates_meant-requires-clause-below : goal.candidates_meant-requires-clause-below
candidates_meant-requires-clause-below c = c.candidates_in.ensures (program c.args.linked.now) c.requires.below

pub returns : goal.returns
returns c =
    let p = program c.args.linked.now in
    let targets = c.args.targets.now in
    IfOk-weaker c.candidates_meant.result (λ v. AreCandidatesMeant p c.args.text targets v.items) (λ v. AreCandidatesAt p c.args.text v.items)
    (λ v meant. candidates_are_at p c.args.text targets v.items c.requires.targets meant) c.candidates_meant.ensures
