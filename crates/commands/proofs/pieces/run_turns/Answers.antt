use Rattle.std.proofs.Common.{arith, inl, inr, refl, subst, sym}
use Rattle.std.proofs.lemmas.Result.{err_from_is_err_and}
use Rattle.il_ast.specs.declared.value.End.{End}
use Rattle.il_interp.specs.Machine.{comes_to}
use Rattle.commands.specs.Pieces.{Sent}
use Rattle.commands.proofs.Sending.{cut_off, sending_broke, sent_to_end, sent_to_over, went_further}
use Rattle.commands.proofs.pieces.run_turns.Goals as goal

pub returns-in-Err-clause-fails : goal.returns-in-Err-clause-fails
returns-in-Err-clause-fails g c =
    inr (cut_off (comes_to c.args.running.now) c.args.turns (g.O.Sink.told c.args.out.now) (g.O.Sink.told c.loop-piece.out) c.loop-piece.left c.loop-piece.running c.loop-piece.invariant.so_far, refl)

pub returns-in_err-put_out-clause-fails : goal.returns-in_err-put_out-clause-fails
returns-in_err-put_out-clause-fails g c =
    let p = err_from_is_err_and c.from_residual.result c.from_residual.ensures.1 in
    let more = c.loop-piece-test.true in
    rw (p.1, p.2)
    (inl (
      sending_broke (comes_to c.args.running.now) c.args.turns (g.O.Sink.told c.args.out.now) (g.O.Sink.told c.loop-piece.out) (g.O.Sink.told c.put_out.new.out) c.loop-piece.left c.loop-piece.piece
          c.loop-piece.running c.go_on.new.self c.in-Ok.end c.loop-piece.invariant.so_far (omega (arith, more)) c.in-Ok.ensures (rw c.output.ensures at c.in_err-put_out.ensures.some),
      c.in_err-put_out.ensures.fault,
    ))

pub returns-in-Some-clause-sent : goal.returns-in-Some-clause-sent
returns-in-Some-clause-sent g c =
    let more = c.loop-piece-test.true in
    sent_to_over (comes_to c.args.running.now) c.args.turns (g.O.Sink.told c.args.out.now) (g.O.Sink.told c.loop-piece.out) (g.O.Sink.told c.put_out.new.out) c.loop-piece.left c.loop-piece.piece
    c.loop-piece.running c.go_on.new.self c.in-Ok.end c.in-Some.end c.loop-piece.invariant.so_far (omega (arith, more)) c.in-Ok.ensures c.in-Some.is (rw c.output.ensures at c.in_ok-put_out.ensures.all)

pub loop-piece-preserved : goal.loop-piece-preserved
loop-piece-preserved g c =
    let more = c.loop-piece-test.true in
    record {
      so_far =
          went_further (comes_to c.args.running.now) c.args.turns (g.O.Sink.told c.args.out.now) (g.O.Sink.told c.loop-piece.out) (g.O.Sink.told c.put_out.new.out) c.loop-piece.left c.loop-piece.piece
          c.loop-piece.running c.go_on.new.self c.clear_output.new.self c.in-Ok.end c.loop-piece.invariant.so_far (omega (arith, more)) c.in-Ok.ensures c.in-None.is
          (rw c.output.ensures at c.in_ok-put_out.ensures.all) c.clear_output.ensures.before c.clear_output.ensures.empty;
      some = c.next_piece-piece.ensures.some;
      few = c.next_piece-piece.ensures.few;
    }

pub returns-in-Err-go_on-clause-fails : goal.returns-in-Err-go_on-clause-fails
returns-in-Err-go_on-clause-fails g c =
    inr (cut_off (comes_to c.args.running.now) c.args.turns (g.O.Sink.told c.args.out.now) (g.O.Sink.told c.loop-piece.out) c.loop-piece.left c.loop-piece.running c.loop-piece.invariant.so_far, refl)

pub returns-in_err-put_out-2-clause-fails : goal.returns-in_err-put_out-2-clause-fails
returns-in_err-put_out-2-clause-fails g c =
    let p = err_from_is_err_and c.from_residual-in_err-put_out-2.result c.from_residual-in_err-put_out-2.ensures.1 in
    rw (p.1, p.2)
    (inl (
      sending_broke (comes_to c.args.running.now) c.args.turns (g.O.Sink.told c.args.out.now) (g.O.Sink.told c.loop-piece.out) (g.O.Sink.told c.put_out-2.new.out) c.loop-piece.left c.loop-piece.left
          c.loop-piece.running c.go_on-2.new.self c.in-Ok-go_on.end c.loop-piece.invariant.so_far (omega arith) c.in-Ok-go_on.ensures (rw c.output-2.ensures at c.in_err-put_out-2.ensures.some),
      c.in_err-put_out-2.ensures.fault,
    ))

pub returns-clause-sent : goal.returns-clause-sent
returns-clause-sent g c =
    subst (λ (e : End). Sent (comes_to c.args.running.now) c.args.turns (g.O.Sink.told c.args.out.now) (g.O.Sink.told c.put_out-2.new.out) e) (sym c.unwrap_or.ensures)
    (sent_to_end (comes_to c.args.running.now) c.args.turns (g.O.Sink.told c.args.out.now) (g.O.Sink.told c.loop-piece.out) (g.O.Sink.told c.put_out-2.new.out) c.loop-piece.left
    c.loop-piece.running c.go_on-2.new.self c.in-Ok-go_on.end c.loop-piece.invariant.so_far c.in-Ok-go_on.ensures (rw c.output-2.ensures at c.in_ok-put_out-2.ensures.all))
