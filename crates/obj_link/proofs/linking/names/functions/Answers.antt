use Rattle.std.proofs.Common.{map, arith}
use Rattle.std.proofs.lemmas.Grind.{common_steps}
use Rattle.obj_link.specs.Prelude.{shown, functions_from}
use Rattle.obj_link.proofs.NameLemmas.{functions_on}
use Rattle.obj_link.proofs.linking.names.functions.Goals as goal

pub loop-number-preserved : goal.loop-number-preserved
loop-number-preserved c =
    functions_on c.args.texts.now c.loop-number.number c.index-texts-number.result c.as_slice.result.now (map shown c.loop-number.found.items) (map shown c.collect_functions.new.found.items) (functions_from 0 c.args.texts.now)
    c.loop-number-test.true c.index-texts-number.is c.as_slice.ensures c.in_ok-collect_functions.ensures c.loop-number.invariant

pub returns-in_err-collect_functions : goal.returns-in_err-collect_functions
returns-in_err-collect_functions c = grind (arith, common_steps)
