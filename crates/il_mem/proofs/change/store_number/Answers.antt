use Rattle.std.proofs.Common.{◌∙◌, sym, ap, refl, Some}
use Rattle.il_ast.specs.declared.value.Value.TheVariants.{Integer}
use Rattle.il_ast.specs.Prelude.{byte_count}
use Rattle.il_mem.specs.Changed.{value_put}
use Rattle.il_mem.proofs.Putting.{integer_inside, changes}
use Rattle.il_mem.proofs.change.store_number.Goals as goal

pub returns-then-set_number : goal.returns-then-set_number
returns-then-set_number c =
    changes (value_put c.args.to (byte_count c.args.size) (Integer c.args.number)) c.args.block.now c.set_number.new.self
    (integer_inside c.args.to (byte_count c.args.size) c.args.number (Integer c.args.number) c.args.block.now refl c.if-set_number.ensures.0
    ∙ ap (λ xs. Some xs) (sym c.if-set_number.ensures.1))
