use Rattle.std.proofs.Common.{arith, subst, sym}
use Rattle.std.proofs.lemmas.Result.{err_from_is_err_and}
use Rattle.rv_isa.specs.Prelude.{State}
use Rattle.rv_machine.specs.Entries.{IsDecoded, view}
use Rattle.commands.proofs.Sending.{ran_on, ran_to_end, ran_to_stop, run_broke}
use Rattle.commands.proofs.pieces.run_machine.Goals as goal

pub returns-in_err-put_out-clause-broke : goal.returns-in_err-put_out-clause-broke
returns-in_err-put_out-clause-broke g c =
    let p = err_from_is_err_and c.from_residual.result c.from_residual.ensures.1 in
    let more = c.loop-piece-test.true in
    rw p.1
    (run_broke g.R.Ram.refuses c.args.limit (view g.R.Ram c.args.machine.now) (g.O.Sink.told c.args.out.now) (g.O.Sink.told c.loop-piece.out) (g.O.Sink.told c.put_out.new.out)
    c.loop-piece.left c.loop-piece.piece (view g.R.Ram c.loop-piece.machine) (view g.R.Ram c.run_piece-stop.new.self) c.run_piece-stop.result c.loop-piece.invariant.so_far (omega (arith, more))
    c.run_piece-stop.ensures.piece (rw c.output.ensures at c.in_err-put_out.ensures.some))

pub returns-in_default : goal.returns-in_default
returns-in_default g c =
    let more = c.loop-piece-test.true in
    record {
      runs =
          ran_to_stop g.R.Ram.refuses c.args.limit (view g.R.Ram c.args.machine.now) (g.O.Sink.told c.args.out.now) (g.O.Sink.told c.loop-piece.out) (g.O.Sink.told c.put_out.new.out)
          c.loop-piece.left c.loop-piece.piece (view g.R.Ram c.loop-piece.machine) (view g.R.Ram c.run_piece-stop.new.self) c.run_piece-stop.result c.loop-piece.invariant.so_far
          (omega (arith, more)) c.run_piece-stop.ensures.piece c.in_default.not-Limit (rw c.output.ensures at c.in_ok-put_out.ensures.all);
      fault = tt;
      broke = tt;
    }

pub loop-piece-preserved : goal.loop-piece-preserved
loop-piece-preserved g c =
    let more = c.loop-piece-test.true in
    let P : State → Type 0 = λ x. IsDecoded x.allows x.bytes c.args.code.now in
    record {
      so_far =
          ran_on g.R.Ram.refuses c.args.limit (view g.R.Ram c.args.machine.now) (g.O.Sink.told c.args.out.now) (g.O.Sink.told c.loop-piece.out) (g.O.Sink.told c.put_out.new.out)
          c.loop-piece.left c.loop-piece.piece (view g.R.Ram c.loop-piece.machine) (view g.R.Ram c.run_piece-stop.new.self) (view g.R.Ram c.clear_output.new.self) c.run_piece-stop.result
          c.loop-piece.invariant.so_far (omega (arith, more)) c.run_piece-stop.ensures.piece c.in-Limit.is (rw c.output.ensures at c.in_ok-put_out.ensures.all) c.clear_output.ensures;
      decoded = subst P (sym c.clear_output.ensures) c.run_piece-stop.ensures.decoded;
      some = c.next_piece-piece.ensures.some;
      few = c.next_piece-piece.ensures.few;
    }

pub returns-in_err-put_out-2-clause-broke : goal.returns-in_err-put_out-2-clause-broke
returns-in_err-put_out-2-clause-broke g c =
    let p = err_from_is_err_and c.from_residual-in_err-put_out-2.result c.from_residual-in_err-put_out-2.ensures.1 in
    rw p.1
    (run_broke g.R.Ram.refuses c.args.limit (view g.R.Ram c.args.machine.now) (g.O.Sink.told c.args.out.now) (g.O.Sink.told c.loop-piece.out) (g.O.Sink.told c.put_out-2.new.out)
    c.loop-piece.left c.loop-piece.left (view g.R.Ram c.loop-piece.machine) (view g.R.Ram c.run_piece-stop-2.new.self) c.run_piece-stop-2.result c.loop-piece.invariant.so_far (omega arith)
    c.run_piece-stop-2.ensures.piece (rw c.output-2.ensures at c.in_err-put_out-2.ensures.some))

pub returns-clause-runs : goal.returns-clause-runs
returns-clause-runs g c =
    ran_to_end g.R.Ram.refuses c.args.limit (view g.R.Ram c.args.machine.now) (g.O.Sink.told c.args.out.now) (g.O.Sink.told c.loop-piece.out) (g.O.Sink.told c.put_out-2.new.out)
    c.loop-piece.left (view g.R.Ram c.loop-piece.machine) (view g.R.Ram c.run_piece-stop-2.new.self) c.run_piece-stop-2.result c.loop-piece.invariant.so_far c.run_piece-stop-2.ensures.piece
    (rw c.output-2.ensures at c.in_ok-put_out-2.ensures.all)
