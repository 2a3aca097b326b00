use Rattle.il_mem.specs.Changed.{found}
use Rattle.il_mem.proofs.BlocksLemmas.{same_count}
use Rattle.il_mem.proofs.FoundLemmas.{numbered_less, freed, block_missing, dead_already}
use Rattle.il_mem.proofs.memory.BlockMemory.free.Goals as goal

pub invariant_of-self : goal.invariant_of-self
invariant_of-self c =
    numbered_less c.as_slice.result.now c.self.inside.numbers.items c.remove.new.self.items c.self.inside.live.items c.remove-in-Some.new.self.items c.self.inside.made c.args.block
    c.in-Some.at c.as_slice.ensures.value c.in-Some.ensures c.remove.ensures.items c.remove-in-Some.ensures.items c.self.invariant

pub returns-in-Some-clause-freed : goal.returns-in-Some-clause-freed
returns-in-Some-clause-freed c =
    freed c.as_slice.result.now c.self.inside.numbers.items c.remove.new.self.items c.self.inside.live.items c.remove-in-Some.new.self.items c.self.inside.made c.args.block
    c.in-Some.at c.args.self.now c.as_slice.ensures.value c.in-Some.ensures c.remove.ensures.items c.remove-in-Some.ensures.items c.self.invariant c.self.view_is

pub returns-in-Some-clause-made : goal.returns-in-Some-clause-made
returns-in-Some-clause-made c =
    same_count (found c.self.inside.numbers.items c.self.inside.live.items) (found c.remove.new.self.items c.remove-in-Some.new.self.items) c.self.inside.made c.args.self.now c.self.view_is

pub returns-in_default-clause-freed : goal.returns-in_default-clause-freed
returns-in_default-clause-freed c =
    dead_already c.args.self.now c.args.block
    (block_missing c.as_slice.result.now c.self.inside.numbers.items c.self.inside.live.items c.self.inside.made c.args.block c.args.self.now
    c.as_slice.ensures.value c.self.invariant c.in_default.ensures c.self.view_is)
