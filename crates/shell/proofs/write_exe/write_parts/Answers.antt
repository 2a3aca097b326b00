use Rattle.std.proofs.Common.{ℕ, List, Bor}
use Rattle.std.proofs.lemmas.Result.{err_from_is_err_and}
use Rattle.shell.proofs.SinkLemmas.{sends_next, breaks_next, stop_breaks, stops_in}
use Rattle.shell.proofs.write_exe.write_parts.Goals as goal

pub returns-in_err-write_exe-clause-some : goal.returns-in_err-write_exe-clause-some
returns-in_err-write_exe-clause-some g c =
    let p = err_from_is_err_and c.from_residual.result c.from_residual.ensures.1 in
    let broke = stop_breaks _ _ _ _ c.in_err-write_exe.ensures.some in
    rw p.1
    (breaks_next (λ (p : Bor (List ℕ)). p.now) (g.S.Sink.told c.args.out.now) (g.S.Sink.told c.loop-part.out) (g.S.Sink.told c.write_exe.new.out) c.args.parts.now c.loop-part.part-index _ c.loop-part-test.true
    c.loop-part.invariant broke)

pub returns-in_err-write_exe-clause-within : goal.returns-in_err-write_exe-clause-within
returns-in_err-write_exe-clause-within g c =
    let p = err_from_is_err_and c.from_residual.result c.from_residual.ensures.1 in
    rw (p.1, p.2)
    (stops_in (λ (p : Bor (List ℕ)). p.now) (g.S.Sink.told c.args.out.now) (g.S.Sink.told c.loop-part.out) (g.S.Sink.told c.write_exe.new.out) c.args.parts.now c.loop-part.part-index _ _ c.loop-part-test.true
    c.loop-part.invariant c.in_err-write_exe.ensures.some)

pub loop-part-preserved : goal.loop-part-preserved
loop-part-preserved g c =
    sends_next (λ (p : Bor (List ℕ)). p.now) (g.S.Sink.told c.args.out.now) (g.S.Sink.told c.loop-part.out) (g.S.Sink.told c.write_exe.new.out) c.args.parts.now c.loop-part.part-index _ c.loop-part-test.true
    c.loop-part.invariant c.in_ok-write_exe.ensures.all
