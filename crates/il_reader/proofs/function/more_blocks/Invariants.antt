use Rattle.std.proofs.Common.{◌≡◌, ◌-◌, suc, length}
use Rattle.il_reader.specs.Prelude.{sees, repeated, is_label, block, fallen}
use Rattle.il_reader.proofs.function.more_blocks.Given as goal

abbrev pub invariant-loop : goal.invariant-loop
invariant-loop l =
    fallen l.blocks l.last (repeated (l.end - l.counter) (sees is_label) block l.reader)
    ≡ fallen l.fn.blocks l.fn.first (repeated (suc (length l.fn.reader.rest)) (sees is_label) block l.fn.reader)
