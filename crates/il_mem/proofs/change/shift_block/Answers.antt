use Rattle.std.proofs.Common.{◌∙◌, sym, ap, arith, Some}
use Rattle.il_mem.specs.Changed.{within_put}
use Rattle.il_mem.proofs.Putting.{inside_of, within_same, within_apart, changes}
use Rattle.il_mem.proofs.change.shift_block.Goals as goal

pub returns-then-start-to : goal.returns-then-start-to
returns-then-start-to c =
    changes (within_put c.args.at c.args.from c.args.count) c.args.block.now c.args.block.now
    (within_same c.args.at c.args.from c.args.count c.args.block.now (omega arith)
    (inside_of _ _ _ c.has_span.ensures c.if-not-has_span.false))

pub returns-then-is_apart : goal.returns-then-is_apart
returns-then-is_apart c =
    changes (within_put c.args.at c.args.from c.args.count) c.args.block.now c.copy_within.new.block
    (within_apart c.args.at c.args.from c.args.count c.args.block.now c.is_apart.result (λ e. omega arith) c.is_apart.ensures c.if-is_apart.true
    (inside_of _ _ _ c.has_span.ensures c.if-not-has_span.false)
    (inside_of _ _ _ c.has_span-2.ensures c.if-not-has_span-2.false)
    ∙ ap (λ xs. Some xs) (sym c.copy_within.ensures))
