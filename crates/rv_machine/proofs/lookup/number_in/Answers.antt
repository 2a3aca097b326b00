use Rattle.std.proofs.Common.{length, ap, arith, length-take, length-drop}
use Rattle.rv_machine.specs.Width.{bytes_of}
use Rattle.rv_machine.proofs.WholeLemmas.{number-read, number-room, whole-within}
use Rattle.rv_machine.proofs.lookup.number_in.Goals as goal

pub returns-clause-value : goal.returns-clause-value
returns-clause-value c =
    number-read c.args.at (bytes_of c.args.width) c.args.k c.number.result c.args.regions.now c.index-regions-k.result c.deref.result.now c.requires c.index-regions-k.is c.deref.ensures.value c.number.ensures.value

pub bounds-regions-k : goal.bounds-regions-k
bounds-regions-k c = whole-within c.args.at (bytes_of c.args.width) c.args.k c.args.regions.now c.requires

pub overflow_sub-at : goal.overflow_sub-at
overflow_sub-at c = (number-room c.args.at (bytes_of c.args.width) c.args.k c.args.regions.now c.index-regions-k.result c.requires c.index-regions-k.is).0

pub slice_bounds-number-count : goal.slice_bounds-number-count
slice_bounds-number-count c =
    let room = (number-room c.args.at (bytes_of c.args.width) c.args.k c.args.regions.now c.index-regions-k.result c.requires c.index-regions-k.is).1 in
    let long = ap length c.deref.ensures.value in
    omega arith

pub number-requires : goal.number-requires
number-requires c =
    let room = (number-room c.args.at (bytes_of c.args.width) c.args.k c.args.regions.now c.index-regions-k.result c.requires c.index-regions-k.is).1 in
    let long = ap length c.deref.ensures.value in
    simp (length-take, length-drop) (omega arith)
