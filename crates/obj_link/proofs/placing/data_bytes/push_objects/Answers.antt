use Rattle.std.proofs.Common.{◌∙◌}
use Rattle.obj_link.proofs.DataLemmas.{object_after}
use Rattle.obj_link.proofs.placing.data_bytes.push_objects.Goals as goal

pub loop-object-preserved : goal.loop-object-preserved
loop-object-preserved c =
    object_after c.args.addresses.now c.args.targets.now c.args.objects.now c.loop-object.object-index c.object-item.result c.loop-object.bytes.items
    c.push_object.new.bytes.items c.loop-object-test.true c.object-item.is c.in_ok-push_object.ensures
    ∙ c.loop-object.invariant
