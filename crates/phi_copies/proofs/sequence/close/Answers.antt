use Rattle.phi_copies.proofs.Paths.{end_range}
use Rattle.phi_copies.proofs.Loops.{close_starts, close_on, close_ends}
use Rattle.phi_copies.proofs.sequence.close.Goals as goal

pub place_from_scratch-requires-clause-i : goal.place_from_scratch-requires-clause-i
place_from_scratch-requires-clause-i c =
    end_range c.args.moves.now c.args.placed.now c.pop.new.self.items c.in-Some.last (rw c.in-Some.ensures.items at c.requires.way)

pub loop-i-init : goal.loop-i-init
loop-i-init c =
    rw (c.in_ok-place_from_scratch.ensures.placed, c.in_ok-place_from_scratch.ensures.out, c.in-Some.ensures.items)
    (close_starts c.args.moves.now c.args.scratch c.args.first c.in-Some.last c.args.placed.now c.pop.new.self.items c.args.out.now.items
    c.requires.given (rw c.in-Some.ensures.items at c.requires.way) c.requires.state c.requires.few
    (rw c.in-Some.ensures.items at c.requires.leads) (rw c.in-Some.ensures.items at c.requires.there))

pub place-requires-clause-i : goal.place-requires-clause-i
place-requires-clause-i c =
    let before = rw c.in-Some-pop.ensures.items at c.loop-i.invariant in
    end_range c.args.moves.now c.loop-i.placed c.pop-in-loop-i.new.self.items c.in-Some-pop.i before.way

pub loop-i-preserved : goal.loop-i-preserved
loop-i-preserved c =
    let before = rw c.in-Some-pop.ensures.items at c.loop-i.invariant in
    rw (c.in_ok-place.ensures.placed, c.in_ok-place.ensures.out)
    (close_on c.args.moves.now c.args.scratch c.args.first c.in-Some.last c.args.placed.now c.args.path.now.items
    c.loop-i.placed c.pop-in-loop-i.new.self.items c.loop-i.out.items c.in-Some-pop.i c.requires.given before c.if-i-first.false)

pub returns-then-i-first : goal.returns-then-i-first
returns-then-i-first c =
    let before = rw c.in-Some-pop.ensures.items at c.loop-i.invariant in
    rw (c.in_ok-save.ensures, c.in_ok-place.ensures.placed, c.in_ok-place.ensures.out)
    (close_ends c.args.moves.now c.args.scratch c.args.first c.in-Some.last c.args.placed.now c.args.path.now.items
    c.loop-i.placed c.pop-in-loop-i.new.self.items c.loop-i.out.items c.in-Some-pop.i c.requires.given before c.if-i-first.true)
