use Rattle.std.proofs.Common.{map, arith}
use Rattle.std.proofs.lemmas.Grind.{common_steps}
use Rattle.obj_link.specs.Prelude.{shown, objects_from}
use Rattle.obj_link.proofs.NameLemmas.{objects_on}
use Rattle.obj_link.proofs.linking.names.objects.Goals as goal

pub loop-number-preserved : goal.loop-number-preserved
loop-number-preserved c =
    objects_on c.args.texts.now c.loop-number.number c.index-texts-number.result c.as_slice.result.now (map shown c.loop-number.found.items) (map shown c.collect_objects.new.found.items) (objects_from 0 c.args.texts.now)
    c.loop-number-test.true c.index-texts-number.is c.as_slice.ensures c.in_ok-collect_objects.ensures c.loop-number.invariant

pub returns-in_err-collect_objects : goal.returns-in_err-collect_objects
returns-in_err-collect_objects c = grind (arith, common_steps)
