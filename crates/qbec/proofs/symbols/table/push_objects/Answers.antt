use Rattle.std.proofs.Common.{arith}
use Rattle.obj_link.proofs.AddressLemmas.{object_room}
use Rattle.qbec.proofs.symbols.table.push_objects.Goals as goal

pub slot_size-at-requires : goal.slot_size-at-requires
slot_size-at-requires c =
    let room = object_room c.loop-object.at c.loop-object.object-index _ c.args.objects.now c.object-item.result c.loop-object-test.true c.object-item.is c.loop-object.invariant.end in
    let fits = c.requires in
    omega arith

pub overflow_add-at : goal.overflow_add-at
overflow_add-at c =
    let room = object_room c.loop-object.at c.loop-object.object-index _ c.args.objects.now c.object-item.result c.loop-object-test.true c.object-item.is c.loop-object.invariant.end in
    let fits = c.requires in
    let size = c.slot_size-at.ensures in
    omega arith
