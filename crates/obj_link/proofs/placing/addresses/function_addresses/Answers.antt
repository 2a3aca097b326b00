use Rattle.std.proofs.Common.{length, ap, arith}
use Rattle.std.proofs.lemmas.Grind.{common_steps}
use Rattle.obj_link.proofs.AddressLemmas.{function_room, functions_on}
use Rattle.obj_link.proofs.placing.addresses.function_addresses.Goals as goal

pub overflow_cast-at : goal.overflow_cast-at
overflow_cast-at c =
    let room = function_room c.loop-code.at c.loop-code.code-index _ c.args.codes.now c.code-item.result c.loop-code-test.true c.code-item.is c.loop-code.invariant.1 in
    let size = ap length c.words.ensures.value in
    omega arith

pub overflow_mul-at : goal.overflow_mul-at
overflow_mul-at c =
    let room = function_room c.loop-code.at c.loop-code.code-index _ c.args.codes.now c.code-item.result c.loop-code-test.true c.code-item.is c.loop-code.invariant.1 in
    let size = ap length c.words.ensures.value in
    omega arith

pub overflow_add-at : goal.overflow_add-at
overflow_add-at c =
    let room = function_room c.loop-code.at c.loop-code.code-index _ c.args.codes.now c.code-item.result c.loop-code-test.true c.code-item.is c.loop-code.invariant.1 in
    let size = ap length c.words.ensures.value in
    omega arith

pub loop-code-preserved : goal.loop-code-preserved
loop-code-preserved c =
    functions_on c.loop-code.at c.args.codes.now c.loop-code.code-index c.code-item.result c.words.result.now c.loop-code.found.items c.push.new.self.items _ _ c.loop-code-test.true c.code-item.is c.words.ensures.value c.in_ok-push.ensures.items c.loop-code.invariant

pub returns-in_err-push : goal.returns-in_err-push
returns-in_err-push c = grind (arith, common_steps)
