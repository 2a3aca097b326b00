use Rattle.std.proofs.Common.{◌∙◌, sym, ap}
use Rattle.il_ast.specs.declared.operation.BinaryOp.{BinaryOp}
use Rattle.il_ast.specs.Prelude.{on_places}
use Rattle.il_interp.proofs.places.on_places.Goals as goal

pub returns-in-Add : goal.returns-in-Add
returns-in-Add c =
    c.added.ensures c.args.memory.now
    ∙ ap (λ (op : BinaryOp). on_places c.args.memory.now op c.args.left c.args.right) (sym c.in-Add.is)

pub returns-in-Sub : goal.returns-in-Sub
returns-in-Sub c =
    c.subtracted.ensures c.args.memory.now
    ∙ ap (λ (op : BinaryOp). on_places c.args.memory.now op c.args.left c.args.right) (sym c.in-Sub.is)
