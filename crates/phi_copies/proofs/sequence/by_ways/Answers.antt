use Rattle.std.proofs.Common.{sym, ap, ◌∙◌}
use Rattle.phi_copies.specs.Order.{is_placed}
use Rattle.phi_copies.proofs.Progress.{done}
use Rattle.phi_copies.proofs.sequence.by_ways.Goals as goal

pub returns-clause-at_once : goal.returns-clause-at_once
returns-clause-at_once c =
    let all = c.in_ok-place_all.ensures in
    λ env. rw c.reverse.ensures.items
    (done c.args.moves.now c.args.scratch c.place_all.new.placed c.place_all.new.out.items all.state (λ i l. ap (λ placed. is_placed placed i) (sym all.same) ∙ all.reached i l) env)

pub returns-clause-reads : goal.returns-clause-reads
returns-clause-reads c = rw c.reverse.ensures.items c.in_ok-place_all.ensures.state.reads
