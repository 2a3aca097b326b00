use Rattle.std.proofs.Common.{◌≡◌, ◌++◌, length}
use Rattle.abi_frames.specs.Moves.{all_move_up, all_moved_up}
use Rattle.abi_frames.proofs.moves.push_moves_up.Given as goal

abbrev pub invariant-loop-number : goal.invariant-loop-number
invariant-loop-number l =
    record {
      items : l.items.items ++ all_move_up l.number l.now.items ≡ l.fn.items.items ++ all_move_up (length l.fn.arguments) l.fn.arguments;
      arguments : all_moved_up l.number l.now.items ≡ all_moved_up (length l.fn.arguments) l.fn.arguments;
      length : length l.now.items ≡ length l.fn.arguments;
    }
