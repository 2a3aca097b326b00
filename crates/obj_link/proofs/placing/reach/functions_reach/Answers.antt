use Rattle.std.proofs.Common.{length, ap, arith}
use Rattle.obj_link.proofs.AddressLemmas.{function_room}
use Rattle.obj_link.proofs.placing.reach.functions_reach.Goals as goal

pub overflow_cast-at : goal.overflow_cast-at
overflow_cast-at c =
    let room = function_room c.loop-number.at c.loop-number.number _ c.args.codes.now c.index-codes-number.result c.loop-number-test.true c.index-codes-number.is c.loop-number.invariant.1 in
    let size = ap length c.words.ensures.value in
    omega arith

pub overflow_mul-at : goal.overflow_mul-at
overflow_mul-at c =
    let room = function_room c.loop-number.at c.loop-number.number _ c.args.codes.now c.index-codes-number.result c.loop-number-test.true c.index-codes-number.is c.loop-number.invariant.1 in
    let size = ap length c.words.ensures.value in
    omega arith

pub overflow_add-at : goal.overflow_add-at
overflow_add-at c =
    let room = function_room c.loop-number.at c.loop-number.number _ c.args.codes.now c.index-codes-number.result c.loop-number-test.true c.index-codes-number.is c.loop-number.invariant.1 in
    let size = ap length c.words.ensures.value in
    omega arith
