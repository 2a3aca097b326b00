use Rattle.std.proofs.Common.{◌∙◌, ◌+◌, ◌-◌, ◌^◌, ◌<◌, ap, sym, subst, length, map, arith}
use Rattle.std.proofs.lemmas.List.{length-map}
use Rattle.obj_link.specs.Prelude.{code_start, round_to_page, functions_start, objects_end, objects_start, program, shown}
use Rattle.obj_link.proofs.AddressLemmas.{functions_rise}
use Rattle.obj_link.proofs.ImageLemmas.{ends}
use Rattle.qbec.proofs.FileLemmas.{fits_below}
use Rattle.qbec.proofs.PromotedFunctions.{one_each}
use Rattle.qbec.proofs.symbols.table.symbols.Goals as goal

pub push_functions-requires-clause-one_each : goal.push_functions-requires-clause-one_each
push_functions-requires-clause-one_each c =
    one_each (program c.args.linked.now) c.args.codes.now (program c.args.linked.now).functions c.requires.words.stand ∙ length-map c.args.linked.now.functions shown ∙ ap length (sym c.as_slice-functions.ensures)

pub push_functions-requires-clause-fits : goal.push_functions-requires-clause-fits
push_functions-requires-clause-fits c =
    let all = ends (program c.args.linked.now) c.args.codes.now (fits_below c.args.linked.now.texts.now (program c.args.linked.now) c.args.codes.now c.requires.program c.requires.words) in
    all.functions

pub data_start-requires : goal.data_start-requires
data_start-requires c =
    let all = ends (program c.args.linked.now) c.args.codes.now (fits_below c.args.linked.now.texts.now (program c.args.linked.now) c.args.codes.now c.requires.program c.requires.words) in
    let rise = functions_rise functions_start c.args.codes.now in
    let fits = all.functions in
    let end = c.in_ok-end.ensures.end in
    (omega arith, omega arith)

pub push_objects-requires : goal.push_objects-requires
push_objects-requires c =
    let codes = c.args.codes.now in
    let all = ends (program c.args.linked.now) codes (fits_below c.args.linked.now.texts.now (program c.args.linked.now) codes c.requires.program c.requires.words) in
    let start = c.data_start.ensures ∙ ap (λ e. code_start + round_to_page (e - code_start)) c.in_ok-end.ensures.end in
    subst (λ s. objects_end s (map shown c.as_slice-objects.result.now) < 2 ^ 32) (sym start)
    (subst (λ xs. objects_end (objects_start codes) (map shown xs) < 2 ^ 32) (sym c.as_slice-objects.ensures) all.objects)
