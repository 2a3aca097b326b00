use Rattle.std.proofs.Common.{sym, subst}
use Rattle.qbec.specs.Pipeline.{AreCandidatesAt}
use Rattle.qbec.proofs.Placing.{got_at, got_mapped, no_candidates}
use Rattle.qbec.proofs.candidates.candidates_in.Goals as goal

pub returns-in-Some : goal.returns-in-Some
returns-in-Some c =
    let at = got_at c.args.tables.now c.args.text c.in-Some.candidates.now _ c.in-Some.ensures.lookup.0 c.in-Some.ensures.lookup.1 in
    λ p are.
    subst (AreCandidatesAt p c.args.text) (sym c.as_slice.ensures.value)
    (are c.args.text c.in-Some.candidates.now.items (got_mapped (λ t. t.items) c.args.tables.now c.args.text c.in-Some.candidates.now at))

pub returns-in-None : goal.returns-in-None
returns-in-None c = λ p are q is. no_candidates q c.args.text
