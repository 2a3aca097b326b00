use Rattle.std.proofs.Common.{◌+◌, drop, sym, ap, ◌∙◌}
use Rattle.std.proofs.lemmas.List.{drop_all}
use Rattle.vcode.proofs.Lists.{item_next}
use Rattle.cfg_live.specs.Rows.{next_lines}
use Rattle.cfg_live.proofs.points.push_next_lines.Goals as goal

pub loop-line-preserved : goal.loop-line-preserved
loop-line-preserved c =
    let lines = c.args.lines.now in
    let i = c.loop-line.line-index in
    ap (λ ns. next_lines ns (drop (i + 1) lines)) c.in_ok-push_next.ensures
    ∙ (ap (next_lines c.loop-line.nexts.items) (sym (item_next lines i c.line-item.result c.loop-line-test.true c.line-item.is)) ∙ c.loop-line.invariant)

pub returns : goal.returns
returns c =
    ap (next_lines c.loop-line.nexts.items) (sym (drop_all c.loop-line.line-index c.args.lines.now c.loop-line-test.false)) ∙ c.loop-line.invariant
