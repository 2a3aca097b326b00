use Rattle.std.proofs.Common.{◌∙◌, ap, string_bytes}
use Rattle.std.proofs.lemmas.Result.{err_from_is_err_and}
use Rattle.shell.proofs.SinkLemmas.{sends_next, breaks_next}
use Rattle.commands.proofs.files.put_lines.Goals as goal

pub returns-in_err-put_out-clause-some : goal.returns-in_err-put_out-clause-some
returns-in_err-put_out-clause-some g c =
    let p = err_from_is_err_and c.from_residual.result c.from_residual.ensures.1 in
    let line = c.as_bytes.ensures.value ∙ ap string_bytes c.line-item.is in
    rw p.1
    (breaks_next string_bytes (g.O.Sink.told c.args.out.now) (g.O.Sink.told c.loop-line.out) (g.O.Sink.told c.put_out.new.out) c.args.lines.now c.loop-line.line-index c.line-item.result c.loop-line-test.true
    c.loop-line.invariant (rw line at c.in_err-put_out.ensures.some))

pub loop-line-preserved : goal.loop-line-preserved
loop-line-preserved g c =
    let line = c.as_bytes.ensures.value ∙ ap string_bytes c.line-item.is in
    sends_next string_bytes (g.O.Sink.told c.args.out.now) (g.O.Sink.told c.loop-line.out) (g.O.Sink.told c.put_out.new.out) c.args.lines.now c.loop-line.line-index c.line-item.result c.loop-line-test.true
    c.loop-line.invariant (rw line at c.in_ok-put_out.ensures.all)
