use Rattle.std.proofs.Common.{◌∙◌, sym, ap, arith, Some}
use Rattle.il_mem.specs.Changed.{value_put}
use Rattle.il_mem.proofs.Putting.{parts_inside, value_outside, inside_of, outside_of, changes, changes_nothing}
use Rattle.il_mem.proofs.change.store_parts.Goals as goal

pub returns-then-not-has_span : goal.returns-then-not-has_span
returns-then-not-has_span c =
    changes_nothing (value_put c.args.to c.args.count c.args.value) c.args.block.now
    (value_outside c.args.to c.args.count c.args.value c.args.block.now
    (outside_of _ _ _ c.has_span.ensures c.if-not-has_span.true))

pub returns-then-count-eq8 : goal.returns-then-count-eq8
returns-then-count-eq8 c =
    changes (value_put c.args.to c.args.count c.args.value) c.args.block.now c.write_parts.new.block
    (parts_inside c.args.to c.args.count c.args.value c.args.block.now c.requires (omega arith)
    (inside_of _ _ _ c.has_span.ensures c.if-not-has_span.false)
    ∙ ap (λ xs. Some xs) (sym c.write_parts.ensures))
