use Rattle.std.proofs.Common.{◌≡◌, length, sym, ◌∙◌}
use Rattle.std.proofs.lemmas.List.{length-map}
use Rattle.obj_link.specs.Prelude.{program, shown}
use Rattle.library_tests.proofs.Codes.{small_codes}
use Rattle.library_tests.proofs.placed.image.Goals as goal

pub place-requires-clause-fits : goal.place-requires-clause-fits
place-requires-clause-fits c =
    let p = program c.args.linked.now in
    let shown_too : length p.functions ≡ length c.args.linked.now.functions = length-map c.args.linked.now.functions shown in
    let same : length c.args.codes.now ≡ length p.functions = c.if-codes-len.false ∙ c.len.ensures ∙ sym shown_too in
    let small = sym c.are_small.ensures ∙ c.if-not-are_small.false in
    c.programs_fit.ensures c.args.texts.now p c.args.codes.now c.requires.is_program (small_codes c.args.codes.now p.functions same small)
