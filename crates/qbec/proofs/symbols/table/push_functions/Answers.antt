use Rattle.std.proofs.Common.{length, ap, arith}
use Rattle.obj_link.proofs.AddressLemmas.{function_room}
use Rattle.qbec.proofs.symbols.table.push_functions.Goals as goal

pub overflow_add-at : goal.overflow_add-at
overflow_add-at c =
    let room = function_room c.loop-k.at c.loop-k.k _ c.args.codes.now c.index-codes-k.result c.loop-k-test.true c.index-codes-k.is c.loop-k.invariant.end in
    let size = ap length c.words.ensures.value in
    let fits = c.requires.fits in
    omega arith
