use Rattle.std.proofs.Common.{length, Some, None, ◌∙◌}
use Rattle.phi_copies.specs.Order.{from_of, IsWritten}
use Rattle.phi_copies.proofs.Loops.{walk_on, walk_ends, walk_meets}
use Rattle.phi_copies.proofs.sequence.walk.Goals as goal

pub loop-visited-preserved : goal.loop-visited-preserved
loop-visited-preserved c =
    let ms = c.args.moves.now in
    let written : IsWritten ms (from_of ms c.loop-visited.next) (length ms) (Some c.in-Some.writer.now) = rw (← c.in-Some.ensures.value) at (c.requires.writers (from_of ms c.loop-visited.next)) in
    rw c.in_ok-push.ensures.items (walk_on ms c.args.visited.now c.loop-visited.visited c.loop-visited.path.items c.loop-visited.next c.args.start c.in-Some.writer.now c.loop-visited.invariant c.if-visited-next.false (c.loop-visited.auto.visited ∙ c.requires.size) written)

pub returns-then-visited-next : goal.returns-then-visited-next
returns-then-visited-next c =
    let before = c.loop-visited.invariant in
    record {
      way = before.way;
      seen = before.seen;
      leads = before.leads;
      end = (before.range, c.if-visited-next.true);
      started = walk_meets c.args.moves.now c.args.visited.now c.loop-visited.visited c.loop-visited.path.items c.loop-visited.next c.args.start before c.if-visited-next.true;
      grown = before.grown;
    }

pub returns-in-None : goal.returns-in-None
returns-in-None c =
    let ms = c.args.moves.now in
    let written : IsWritten ms (from_of ms c.loop-visited.next) (length ms) None = rw (← c.in-None.ensures.value) at (c.requires.writers (from_of ms c.loop-visited.next)) in
    let ended = walk_ends ms c.args.visited.now c.loop-visited.visited c.loop-visited.path.items c.loop-visited.next c.args.start c.loop-visited.invariant c.if-visited-next.false (c.loop-visited.auto.visited ∙ c.requires.size) written in
    rw c.in_ok-push.ensures.items (record { way = ended.way; seen = ended.seen; leads = ended.leads; end = tt; started = ended.started; grown = ended.grown })
