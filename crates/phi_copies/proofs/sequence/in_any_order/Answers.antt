use Rattle.phi_copies.proofs.Unhindered.{at_once, all_between, reads_known, few}
use Rattle.phi_copies.proofs.sequence.in_any_order.Goals as goal

pub returns-clause-at_once : goal.returns-clause-at_once
returns-clause-at_once c =
    λ env. rw c.in_ok-out.ensures (at_once c.args.moves.now c.args.scratch c.requires.distinct c.requires.unhindered env)

pub returns-clause-between : goal.returns-clause-between
returns-clause-between c =
    rw c.in_ok-out.ensures (all_between c.args.moves.now c.args.scratch c.requires.unhindered)

pub returns-clause-reads : goal.returns-clause-reads
returns-clause-reads c = rw c.in_ok-out.ensures (reads_known c.args.moves.now)

pub returns-clause-few : goal.returns-clause-few
returns-clause-few c = rw c.in_ok-out.ensures (few c.args.moves.now c.requires.unhindered)
