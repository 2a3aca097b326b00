use Rattle.std.proofs.Common.{subst, length-set, slice_set, option_and_then}
use Rattle.il_ast.specs.Prelude.{byte_count, Memory, write_at, cells_for}
use Rattle.il_mem.specs.Changed.{blocks, value_put, Gives, found}
use Rattle.il_mem.proofs.BlocksLemmas.{same_count, gives_nothing, put_made, put_none}
use Rattle.il_mem.proofs.FoundLemmas.{numbered_set, gives_set, was_made, block_missing}
use Rattle.il_mem.proofs.memory.BlockMemory.store_place.Goals as goal

pub invariant_of-self : goal.invariant_of-self
invariant_of-self c =
    numbered_set c.self.inside.numbers.items c.self.inside.live.items (slice_set c.self.inside.live.items c.in-Some.at c.store_block.new.block) c.self.inside.made
    (length-set c.self.inside.live.items c.in-Some.at c.store_block.new.block) c.self.invariant

pub returns-in-Some-clause-gives : goal.returns-in-Some-clause-gives
returns-in-Some-clause-gives c =
    let P = λ (m : Memory).
    Gives (option_and_then (write_at m c.args.place.block c.args.place.offset) (cells_for (byte_count c.args.size) c.args.value)) m
    (blocks (found c.self.inside.numbers.items (slice_set c.self.inside.live.items c.in-Some.at c.store_block.new.block)) 0 c.self.inside.made) c.store_block.result in
    subst P c.self.view_is
    (gives_set (value_put c.args.place.offset (byte_count c.args.size) c.args.value) c.as_slice.result.now c.self.inside.numbers.items c.self.inside.live.items c.self.inside.made
    c.args.place.block c.in-Some.at c.index_mut.result.now c.store_block.new.block c.store_block.result _
    c.as_slice.ensures.value c.self.invariant c.in-Some.ensures c.index_mut.ensures.value c.store_block.ensures
    (put_made (found c.self.inside.numbers.items c.self.inside.live.items) c.self.inside.made c.args.place.block c.args.place.offset (cells_for (byte_count c.args.size) c.args.value)
    (was_made c.as_slice.result.now c.self.inside.numbers.items c.self.inside.live.items c.self.inside.made c.args.place.block c.in-Some.at c.as_slice.ensures.value c.self.invariant c.in-Some.ensures)))

pub returns-in-None-clause-gives : goal.returns-in-None-clause-gives
returns-in-None-clause-gives c =
    gives_nothing _ _
    (put_none c.args.self.now c.args.place.block c.args.place.offset (cells_for (byte_count c.args.size) c.args.value)
    (block_missing c.as_slice.result.now c.self.inside.numbers.items c.self.inside.live.items c.self.inside.made c.args.place.block c.args.self.now
    c.as_slice.ensures.value c.self.invariant c.in-None.ensures c.self.view_is))

pub returns-in-Some-clause-made : goal.returns-in-Some-clause-made
returns-in-Some-clause-made c =
    same_count (found c.self.inside.numbers.items c.self.inside.live.items)
    (found c.self.inside.numbers.items (slice_set c.self.inside.live.items c.in-Some.at c.store_block.new.block)) c.self.inside.made c.args.self.now c.self.view_is
