use Rattle.std.proofs.Common.{◌<◌, ◌≤◌}
use Rattle.rv_machine.specs.Entries.{IsDecoded, view}
use Rattle.commands.specs.declared.pieces.TheConstants.{PIECE}
use Rattle.commands.proofs.Sending.{RunsSoFar}
use Rattle.commands.proofs.pieces.run_machine.Given as goal

abbrev pub invariant-loop-piece : goal.invariant-loop-piece
invariant-loop-piece g l = record {
  so_far : RunsSoFar g.R.Ram.refuses l.limit (view g.R.Ram l.fn.machine) (g.O.Sink.told l.fn.out) (g.O.Sink.told l.out) l.left (view g.R.Ram l.machine);
  decoded : IsDecoded (view g.R.Ram l.machine).allows (view g.R.Ram l.machine).bytes l.code;
  some : 0 < l.piece;
  few : l.piece ≤ PIECE;
}

abbrev pub decreases-loop-piece : goal.decreases-loop-piece
decreases-loop-piece g l = l.left
