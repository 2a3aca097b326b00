use Rattle.std.proofs.Common.{subst, length-set, slice_set}
use Rattle.il_ast.specs.Prelude.{Memory}
use Rattle.il_mem.specs.Changed.{blocks, within_put, copied_place, Gives, found}
use Rattle.il_mem.proofs.BlocksLemmas.{same_count, gives_nothing, copy_from_none, copy_to_none, copy_within_is}
use Rattle.il_mem.proofs.FoundLemmas.{numbered_set, gives_set, gives_across, was_made, same_block, block_missing}
use Rattle.il_mem.proofs.memory.BlockMemory.copy_place.Goals as goal

pub invariant_of-self : goal.invariant_of-self
invariant_of-self c =
    numbered_set c.self.inside.numbers.items c.self.inside.live.items (slice_set c.self.inside.live.items c.in-Some-place_of.to c.shift_block.new.block) c.self.inside.made
    (length-set c.self.inside.live.items c.in-Some-place_of.to c.shift_block.new.block) c.self.invariant

pub invariant_of-self-2 : goal.invariant_of-self-2
invariant_of-self-2 c =
    numbered_set c.self.inside.numbers.items c.self.inside.live.items c.transfer.new.live.items c.self.inside.made c.transfer.ensures.many c.self.invariant

pub returns-in-None-clause-gives : goal.returns-in-None-clause-gives
returns-in-None-clause-gives c =
    gives_nothing _ _
    (copy_from_none c.args.self.now c.args.source.block c.args.source.offset c.args.target.block c.args.target.offset c.args.count
    (block_missing c.as_slice.result.now c.self.inside.numbers.items c.self.inside.live.items c.self.inside.made c.args.source.block c.args.self.now
    c.as_slice.ensures.value c.self.invariant c.in-None.ensures c.self.view_is))

pub returns-in-None-place_of-clause-gives : goal.returns-in-None-place_of-clause-gives
returns-in-None-place_of-clause-gives c =
    gives_nothing _ _
    (copy_to_none c.args.self.now c.args.source.block c.args.source.offset c.args.target.block c.args.target.offset c.args.count
    (block_missing c.as_slice-2.result.now c.self.inside.numbers.items c.self.inside.live.items c.self.inside.made c.args.target.block c.args.self.now
    c.as_slice-2.ensures.value c.self.invariant c.in-None-place_of.ensures c.self.view_is))

pub returns-then-from-to-clause-gives : goal.returns-then-from-to-clause-gives
returns-then-from-to-clause-gives c =
    let P = λ (m : Memory).
    Gives (copied_place m c.args.count c.args.source.block c.args.source.offset c.args.target.block c.args.target.offset) m
    (blocks (found c.self.inside.numbers.items (slice_set c.self.inside.live.items c.in-Some-place_of.to c.shift_block.new.block)) 0 c.self.inside.made) c.shift_block.result in
    subst P c.self.view_is
    (gives_set (within_put c.args.target.offset c.args.source.offset c.args.count) c.as_slice-2.result.now c.self.inside.numbers.items c.self.inside.live.items c.self.inside.made
    c.args.target.block c.in-Some-place_of.to c.index_mut.result.now c.shift_block.new.block c.shift_block.result _
    c.as_slice-2.ensures.value c.self.invariant c.in-Some-place_of.ensures c.index_mut.ensures.value c.shift_block.ensures
    (copy_within_is (found c.self.inside.numbers.items c.self.inside.live.items) c.self.inside.made c.args.source.block c.args.source.offset c.args.target.block c.args.target.offset c.args.count
    (was_made c.as_slice-2.result.now c.self.inside.numbers.items c.self.inside.live.items c.self.inside.made c.args.target.block c.in-Some-place_of.to c.as_slice-2.ensures.value c.self.invariant c.in-Some-place_of.ensures)
    (same_block c.as_slice.result.now c.as_slice-2.result.now c.self.inside.numbers.items c.in-Some.from c.in-Some-place_of.to c.args.source.block c.args.target.block
    c.as_slice.ensures.value c.as_slice-2.ensures.value c.if-from-to.true c.in-Some.ensures c.in-Some-place_of.ensures)))

pub returns-then-from-to-clause-made : goal.returns-then-from-to-clause-made
returns-then-from-to-clause-made c =
    same_count (found c.self.inside.numbers.items c.self.inside.live.items)
    (found c.self.inside.numbers.items (slice_set c.self.inside.live.items c.in-Some-place_of.to c.shift_block.new.block)) c.self.inside.made c.args.self.now c.self.view_is

pub returns-clause-gives : goal.returns-clause-gives
returns-clause-gives c =
    gives_across c.as_slice.result.now c.as_slice-2.result.now c.self.inside.numbers.items c.self.inside.live.items c.transfer.new.live.items c.self.inside.made
    c.args.source.block c.args.source.offset c.in-Some.from c.args.target.block c.args.target.offset c.in-Some-place_of.to c.args.count c.transfer.result c.args.self.now
    c.as_slice.ensures.value c.as_slice-2.ensures.value c.self.invariant c.in-Some.ensures c.in-Some-place_of.ensures c.if-from-to.false c.transfer.ensures.many c.transfer.ensures.changes c.self.view_is

pub returns-clause-made : goal.returns-clause-made
returns-clause-made c =
    same_count (found c.self.inside.numbers.items c.self.inside.live.items) (found c.self.inside.numbers.items c.transfer.new.live.items) c.self.inside.made c.args.self.now c.self.view_is
