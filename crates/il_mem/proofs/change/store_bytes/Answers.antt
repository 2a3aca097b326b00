use Rattle.std.proofs.Common.{◌∙◌, sym, ap, refl, Some}
use Rattle.il_ast.specs.declared.value.Value.TheVariants.{Integer}
use Rattle.il_mem.specs.Changed.{value_put}
use Rattle.il_mem.proofs.Putting.{integer_inside, value_outside, inside_of, outside_of, changes, changes_nothing}
use Rattle.il_mem.proofs.change.store_bytes.Goals as goal

pub returns-then-has_span : goal.returns-then-has_span
returns-then-has_span c =
    changes (value_put c.args.to c.args.count (Integer c.args.number)) c.args.block.now c.write_number.new.block
    (integer_inside c.args.to c.args.count c.args.number (Integer c.args.number) c.args.block.now refl
    (inside_of _ _ _ c.has_span.ensures c.if-has_span.true)
    ∙ ap (λ xs. Some xs) (sym c.write_number.ensures))

pub returns-else-has_span : goal.returns-else-has_span
returns-else-has_span c =
    changes_nothing (value_put c.args.to c.args.count (Integer c.args.number)) c.args.block.now
    (value_outside c.args.to c.args.count (Integer c.args.number) c.args.block.now
    (outside_of _ _ _ c.has_span.ensures c.if-has_span.false))
