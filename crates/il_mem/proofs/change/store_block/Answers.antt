use Rattle.std.proofs.Common.{◌∙◌, sym, subst}
use Rattle.il_ast.specs.declared.value.Value.{Value}
use Rattle.il_ast.specs.Prelude.{byte_count}
use Rattle.il_mem.specs.Changed.{value_put, ChangesBlock}
use Rattle.il_mem.proofs.Putting.{integer_is}
use Rattle.il_mem.proofs.change.store_block.Goals as goal

pub returns-in-Some : goal.returns-in-Some
returns-in-Some c =
    let P = λ (v : Value). ChangesBlock (value_put c.args.at (byte_count c.args.size) v) c.args.block.now c.store_number.new.block c.store_number.result in
    subst P (sym (integer_is c.args.value c.in-Some.number (sym c.integer_of.ensures ∙ c.in-Some.is))) c.store_number.ensures
