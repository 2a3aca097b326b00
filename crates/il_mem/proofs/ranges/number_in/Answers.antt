use Rattle.il_ast.specs.Prelude.{byte_count}
use Rattle.il_mem.proofs.Reading.{spanned}
use Rattle.il_mem.proofs.ranges.number_in.Goals as goal

pub returns-in-Some : goal.returns-in-Some
returns-in-Some c =
    spanned c.args.offset (byte_count c.args.size) c.in-Some.number c.args.block.now c.in-Some.ensures.inside c.in-Some.ensures.value
