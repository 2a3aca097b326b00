use Rattle.il_interp.specs.Machine.{program_of}
use Rattle.il_interp.proofs.HopLemmas.{along_turn}
use Rattle.il_interp.proofs.run.next_turns.Goals as goal

pub returns-clause-means : goal.returns-clause-means
returns-clause-means c = λ n.
    along_turn (program_of c.args.prepared.now) c.args.state.now c.turn.new.state c.hop_along.new.frame c.hop_along.new.memory c.in_ok-done.done n c.in_ok-end.end c.in_ok-done.ensures.means c.in_ok-end.ensures
