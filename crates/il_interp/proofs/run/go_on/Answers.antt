use Rattle.std.proofs.Common.{◌+◌, ◌-◌, ◌∙◌, ap, sym}
use Rattle.il_interp.specs.Machine.{program_of, machine, rest_of}
use Rattle.il_interp.proofs.RowLemmas.{gone_on}
use Rattle.il_interp.proofs.run.go_on.Goals as goal

pub returns-in-Some : goal.returns-in-Some
returns-in-Some c = λ n.
    sym (gone_on (program_of c.args.prepared.now) c.loop-left.left c.in_ok-done.done n c.loop-left.state c.next_turns.new.state c.in_ok-done.end
    (machine (program_of c.args.prepared.now) (c.args.turns + n) c.args.state.now) c.in_ok-done.ensures.few (c.loop-left.invariant n) c.in_ok-done.ensures.means)
    ∙ ap (λ e. rest_of (program_of c.args.prepared.now) c.next_turns.new.state e (c.loop-left.left - c.in_ok-done.done + n)) c.in-Some.is

pub loop-left-preserved : goal.loop-left-preserved
loop-left-preserved c = λ n.
    sym (ap (λ e. rest_of (program_of c.args.prepared.now) c.next_turns.new.state e (c.loop-left.left - c.in_ok-done.done + n)) c.in-None.is)
    ∙ gone_on (program_of c.args.prepared.now) c.loop-left.left c.in_ok-done.done n c.loop-left.state c.next_turns.new.state c.in_ok-done.end
    (machine (program_of c.args.prepared.now) (c.args.turns + n) c.args.state.now) c.in_ok-done.ensures.few (c.loop-left.invariant n) c.in_ok-done.ensures.means
