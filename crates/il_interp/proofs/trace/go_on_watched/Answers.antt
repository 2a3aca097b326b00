use Rattle.std.proofs.Common.{◌+◌, ◌∙◌, ap, arith}
use Rattle.il_interp.specs.Machine.{program_of, machine, stepped}
use Rattle.il_interp.proofs.RunLemmas.{all_done, goes_on, is_over}
use Rattle.il_interp.proofs.trace.go_on_watched.Goals as goal

pub returns : goal.returns
returns c = λ n.
    all_done (program_of c.args.prepared.now) c.args.turns c.loop-done._done n c.loop-done.state
    (machine (program_of c.args.prepared.now) (c.args.turns + n) c.args.state.now) (omega arith) (c.loop-done.invariant n)

pub returns-in-Some : goal.returns-in-Some
returns-in-Some c = λ n.
    is_over (program_of c.args.prepared.now) c.args.turns c.loop-done._done n c.loop-done.state
    (machine (program_of c.args.prepared.now) (c.args.turns + n) c.args.state.now) c.turn.new.state.output c.in-Some.end c.loop-done-test.true (c.loop-done.invariant n)
    (c.in_ok-end.ensures ∙ ap (stepped c.turn.new.state) c.in-Some.is)

pub loop-done-preserved : goal.loop-done-preserved
loop-done-preserved c = λ n.
    goes_on (program_of c.args.prepared.now) c.args.turns c.loop-done._done n c.loop-done.state c.turn.new.state
    (machine (program_of c.args.prepared.now) (c.args.turns + n) c.args.state.now) c.loop-done-test.true (c.loop-done.invariant n)
    (c.in_ok-end.ensures ∙ ap (stepped c.turn.new.state) c.in-None.is)
