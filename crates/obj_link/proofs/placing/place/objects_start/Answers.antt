use Rattle.std.proofs.Common.{arith}
use Rattle.obj_link.specs.Prelude.{program}
use Rattle.obj_link.proofs.ImageLemmas.{ends}
use Rattle.obj_link.proofs.placing.place.objects_start.Goals as goal

pub functions_end-end-requires : goal.functions_end-end-requires
functions_end-end-requires c = (ends (program c.args.linked.now) c.args.codes.now c.requires).functions

pub overflow_sub-end : goal.overflow_sub-end
overflow_sub-end c =
    let e = ends (program c.args.linked.now) c.args.codes.now c.requires in
    let above = e.above in
    let is = c.functions_end-end.ensures.value in
    omega arith

pub overflow_add-result : goal.overflow_add-result
overflow_add-result c =
    let e = ends (program c.args.linked.now) c.args.codes.now c.requires in
    let start = e.start in
    let is = c.functions_end-end.ensures.value in
    let d = c.div_ceil.ensures in
    omega arith
