use Rattle.std.proofs.lemmas.Option.{IfSome_then}
use Rattle.il_ast.specs.Prelude.{byte_count}
use Rattle.il_mem.proofs.Accesses.{load_here}
use Rattle.il_mem.proofs.memory.BlockMemory.load_number.Goals as goal

pub returns-in-Some : goal.returns-in-Some
returns-in-Some c =
    IfSome_then c.number_in.result c.number_in.ensures
    (λ number h. load_here c.args.self.now (byte_count c.args.size) c.args.block c.args.offset number c.in-Some.found.now c.in-Some.ensures h)
