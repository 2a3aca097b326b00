use Rattle.phi_copies.specs.Order.{Settled}
use Rattle.phi_copies.proofs.Loops.{settled_none, settled_some, distinct_of, open_rest, open_whole}
use Rattle.phi_copies.proofs.sequence.place_way.Goals as goal

pub unwind-requires-clause-settled : goal.unwind-requires-clause-settled
unwind-requires-clause-settled c =
    settled_none c.args.moves.now c.args.placed.now c.args.path.now.items (rw c.in_default.is at c.requires.leads)

pub returns-in_default-clause-open : goal.returns-in_default-clause-open
returns-in_default-clause-open c =
    let ms = c.args.moves.now in
    let placed = c.args.placed.now in
    let path = c.args.path.now.items in
    let settled : Settled ms placed path = settled_none ms placed path (rw c.in_default.is at c.requires.leads) in
    open_rest ms c.args.scratch placed path placed path c.args.out.now.items c.unwind.new.placed c.unwind.new.out.items c.requires.given
    (open_whole ms c.args.scratch placed path c.args.out.now.items c.requires.way settled c.requires.state c.requires.few)
    c.in_ok-unwind.ensures.order c.in_ok-unwind.ensures.few c.in_ok-unwind.ensures.seen

pub unwind-requires-then-placed-first-clause-settled : goal.unwind-requires-then-placed-first-clause-settled
unwind-requires-then-placed-first-clause-settled c =
    settled_some c.args.moves.now c.args.placed.now c.args.path.now.items c.in-Some.first (distinct_of c.args.moves.now c.requires.distinct)
    (rw c.in-Some.is at c.requires.leads) c.if-placed-first.true

pub returns-then-placed-first-clause-open : goal.returns-then-placed-first-clause-open
returns-then-placed-first-clause-open c =
    let ms = c.args.moves.now in
    let placed = c.args.placed.now in
    let path = c.args.path.now.items in
    let settled : Settled ms placed path = settled_some ms placed path c.in-Some.first (distinct_of ms c.requires.distinct) (rw c.in-Some.is at c.requires.leads) c.if-placed-first.true in
    open_rest ms c.args.scratch placed path placed path c.args.out.now.items c.unwind-then-placed-first.new.placed c.unwind-then-placed-first.new.out.items c.requires.given
    (open_whole ms c.args.scratch placed path c.args.out.now.items c.requires.way settled c.requires.state c.requires.few)
    c.in_ok-unwind-2.ensures.order c.in_ok-unwind-2.ensures.few c.in_ok-unwind-2.ensures.seen

pub close-requires-clause-leads : goal.close-requires-clause-leads
close-requires-clause-leads c = rw c.in-Some.is at c.requires.leads

pub returns-clause-open : goal.returns-clause-open
returns-clause-open c =
    open_rest c.args.moves.now c.args.scratch c.args.placed.now c.args.path.now.items c.close.new.placed c.close.new.path.items c.close.new.out.items
    c.unwind-2.new.placed c.unwind-2.new.out.items c.requires.given c.in_ok-close.ensures
    c.in_ok-unwind-3.ensures.order c.in_ok-unwind-3.ensures.few c.in_ok-unwind-3.ensures.seen
