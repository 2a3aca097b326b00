use Rattle.std.proofs.Common.{◌<◌, ◌≤◌}
use Rattle.il_interp.specs.Machine.{comes_to}
use Rattle.commands.specs.declared.pieces.TheConstants.{PIECE}
use Rattle.commands.proofs.Sending.{TurnsSoFar}
use Rattle.commands.proofs.pieces.run_turns.Given as goal

abbrev pub invariant-loop-piece : goal.invariant-loop-piece
invariant-loop-piece g l = record {
  so_far : TurnsSoFar (comes_to l.fn.running) l.turns (g.O.Sink.told l.fn.out) (g.O.Sink.told l.out) l.left l.running;
  some : 0 < l.piece;
  few : l.piece ≤ PIECE;
}

abbrev pub decreases-loop-piece : goal.decreases-loop-piece
decreases-loop-piece g l = l.left
