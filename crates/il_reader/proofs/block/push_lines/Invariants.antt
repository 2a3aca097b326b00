use Rattle.std.proofs.Common.{◌≡◌, ◌-◌, suc, length, false}
use Rattle.il_reader.specs.Prelude.{lines, with_lines}
use Rattle.il_reader.proofs.block.push_lines.Given as goal

abbrev pub invariant-loop : goal.invariant-loop
invariant-loop l =
    with_lines l.phis l.insts (lines (l.end - l.counter) l.begun l.reader)
    ≡ with_lines l.fn.phis l.fn.insts (lines (suc (length l.fn.reader.rest)) false l.fn.reader)
