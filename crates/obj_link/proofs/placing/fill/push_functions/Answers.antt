use Rattle.std.proofs.Common.{length, ap, arith}
use Rattle.std.proofs.lemmas.Grind.{common_steps}
use Rattle.obj_link.proofs.AddressLemmas.{function_room}
use Rattle.obj_link.proofs.placing.fill.push_functions.Goals as goal

pub push_function-requires : goal.push_function-requires
push_function-requires c =
    let room = function_room c.loop-number.at c.loop-number.number _ c.args.codes.now c.index-codes-number.result c.loop-number-test.true c.index-codes-number.is c.loop-number.invariant.1 in
    omega arith

pub overflow_cast-at : goal.overflow_cast-at
overflow_cast-at c =
    let room = function_room c.loop-number.at c.loop-number.number _ c.args.codes.now c.index-codes-number.result c.loop-number-test.true c.index-codes-number.is c.loop-number.invariant.1 in
    let size = ap length c.words.ensures.value in
    omega arith

pub overflow_mul-at : goal.overflow_mul-at
overflow_mul-at c =
    let room = function_room c.loop-number.at c.loop-number.number _ c.args.codes.now c.index-codes-number.result c.loop-number-test.true c.index-codes-number.is c.loop-number.invariant.1 in
    let size = ap length c.words.ensures.value in
    omega arith

pub overflow_add-at : goal.overflow_add-at
overflow_add-at c =
    let room = function_room c.loop-number.at c.loop-number.number _ c.args.codes.now c.index-codes-number.result c.loop-number-test.true c.index-codes-number.is c.loop-number.invariant.1 in
    let size = ap length c.words.ensures.value in
    omega arith

pub returns-in_err-push_function : goal.returns-in_err-push_function
returns-in_err-push_function c = grind (arith, common_steps)
