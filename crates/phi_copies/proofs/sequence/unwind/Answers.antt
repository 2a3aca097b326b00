use Rattle.std.proofs.Common.{◌≡◌, length, ◌∙◌}
use Rattle.phi_copies.proofs.Loops.{unwind_on, distinct_of}
use Rattle.phi_copies.proofs.sequence.unwind.Goals as goal

pub loop-i-preserved : goal.loop-i-preserved
loop-i-preserved c =
    let ms = c.args.moves.now in
    let size : length c.loop-i.placed ≡ length ms = c.loop-i.auto.placed ∙ c.requires.size in
    let before = rw c.in-Some.ensures.items at c.loop-i.invariant in
    let next = unwind_on ms c.args.placed.now c.args.path.now.items c.args.out.now.items c.loop-i.placed c.pop.new.self.items c.loop-i.out.items c.in-Some.i (distinct_of ms c.requires.distinct) size before in
    rw (c.in_ok-place.ensures.placed, c.in_ok-place.ensures.out) next
