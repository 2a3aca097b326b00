use Rattle.il_mem.proofs.FoundLemmas.{block_found, block_missing}
use Rattle.il_mem.proofs.memory.BlockMemory.block.Goals as goal

pub returns-in-Some : goal.returns-in-Some
returns-in-Some c =
    block_found c.as_slice.result.now c.self.inside.numbers.items c.self.inside.live.items c.self.inside.made c.args.number c.in-Some.at c.index.result.now
    c.args.self.now c.as_slice.ensures.value c.self.invariant c.in-Some.ensures c.index.ensures c.self.view_is

pub returns-in-None : goal.returns-in-None
returns-in-None c =
    block_missing c.as_slice.result.now c.self.inside.numbers.items c.self.inside.live.items c.self.inside.made c.args.number
    c.args.self.now c.as_slice.ensures.value c.self.invariant c.in-None.ensures c.self.view_is
