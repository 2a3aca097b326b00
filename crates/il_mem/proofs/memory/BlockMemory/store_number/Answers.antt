use Rattle.il_ast.specs.Prelude.{byte_count}
use Rattle.il_mem.proofs.Accesses.{store_here}
use Rattle.il_mem.proofs.memory.BlockMemory.store_number.Goals as goal

pub returns : goal.returns
returns c =
    store_here c.args.self.now c.store_place.new.self (byte_count c.args.size) c.args.block c.args.offset c.args.number c.store_place.result c.store_place.ensures.gives
