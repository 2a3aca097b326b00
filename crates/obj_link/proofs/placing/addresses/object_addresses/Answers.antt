use Rattle.std.proofs.Common.{arith}
use Rattle.std.proofs.lemmas.Grind.{common_steps}
use Rattle.obj_link.proofs.AddressLemmas.{object_room, objects_on}
use Rattle.obj_link.proofs.placing.addresses.object_addresses.Goals as goal

pub slot_size-at-requires : goal.slot_size-at-requires
slot_size-at-requires c =
    let room = object_room c.loop-object.at c.loop-object.object-index _ c.args.objects.now c.object-item.result c.loop-object-test.true c.object-item.is c.loop-object.invariant.1 in
    omega arith

pub overflow_add-at : goal.overflow_add-at
overflow_add-at c =
    let room = object_room c.loop-object.at c.loop-object.object-index _ c.args.objects.now c.object-item.result c.loop-object-test.true c.object-item.is c.loop-object.invariant.1 in
    omega arith

pub loop-object-preserved : goal.loop-object-preserved
loop-object-preserved c =
    objects_on c.loop-object.at c.args.objects.now c.loop-object.object-index c.object-item.result c.slot_size-at.result c.loop-object.found.items c.push.new.self.items _ _ c.loop-object-test.true c.object-item.is c.slot_size-at.ensures c.in_ok-push.ensures.items c.loop-object.invariant

pub returns-in_err-push : goal.returns-in_err-push
returns-in_err-push c = grind (arith, common_steps)
