use Rattle.std.proofs.Common.{sym}
use Rattle.std.proofs.lemmas.Result.{err_from_is_err_and}
use Rattle.il_interp.specs.Machine.{comes_to}
use Rattle.commands.proofs.Ending.{fails_as}
use Rattle.commands.proofs.traced.trace_running.Goals as goal

pub returns-in_err-end-clause-fails : goal.returns-in_err-end-clause-fails
returns-in_err-end-clause-fails g c =
    let p = err_from_is_err_and c.from_residual.result c.from_residual.ensures.1 in
    rw (p.1, p.2)
    (fails_as (comes_to c.watch.new.self) (comes_to c.args.running.now) c.args.turns (g.O.Sink.told c.args.out.now) (g.O.Sink.told c.run_turns.new.out) _ (λ n. sym (c.watch.ensures.same n))
    c.in_err-end.ensures.fails)
