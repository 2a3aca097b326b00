use Rattle.std.proofs.Common.{◌≡◌, ℕ, ◌-◌, suc, length, false, sym, ap, ◌∙◌, arith, rules}
use Rattle.std.proofs.lemmas.Result.{err_from_is_err_and}
use Rattle.il_reader.specs.Prelude.{lines, with_lines}
use Rattle.il_reader.proofs.BlockLines.{lines_more, lines_refused, with_lines_none}
use Rattle.il_reader.proofs.block.push_lines.Goals as goal

pub loop-init : goal.loop-init
loop-init c =
    let n : c.rounds-end.result - 0 ≡ suc (length c.args.reader.now.rest) = omega (arith, c.rounds-end.ensures) in
    ap (λ (n : ℕ). with_lines c.args.phis.now c.args.insts.now (lines n false c.args.reader.now)) n

pub loop-preserved : goal.loop-preserved
loop-preserved c =
    sym (lines_more c.rounds-end.result c.loop.counter c.loop.begun c.loop.phis c.loop.insts c.loop.reader
    (((c.push_line.new.phis, c.push_line.new.insts), c.in_ok-begun.begun), c.push_line.new.reader)
    c.loop-test.true (search rules) c.in_ok-begun.ensures)
    ∙ c.loop.invariant

pub returns-in_err-begun : goal.returns-in_err-begun
returns-in_err-begun c =
    let p = err_from_is_err_and c.from_residual.result c.from_residual.ensures.1 in
    rw (p.1, p.2) (λ e. with_lines_none c.args.phis.now c.args.insts.now (lines (suc (length c.args.reader.now.rest)) false c.args.reader.now)
    (sym c.loop.invariant ∙ ap (with_lines c.loop.phis c.loop.insts)
    (lines_refused c.rounds-end.result c.loop.counter c.loop.begun c.loop.phis c.loop.insts c.loop.reader
    c.loop-test.true (search rules) (c.in_err-begun.ensures e))))

pub returns : goal.returns
returns c =
    let n : 0 ≡ c.rounds-end.result - c.loop.counter = omega arith in
    λ e. with_lines_none c.args.phis.now c.args.insts.now (lines (suc (length c.args.reader.now.rest)) false c.args.reader.now)
    (sym c.loop.invariant ∙ ap (λ (n : ℕ). with_lines c.loop.phis c.loop.insts (lines n c.loop.begun c.loop.reader)) (sym n))
