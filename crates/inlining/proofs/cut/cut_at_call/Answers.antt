use Rattle.std.proofs.Common.{◌≡◌, slice_get, Some, refl, sym, ap, ◌∙◌}
use Rattle.inlining.specs.InPlace.{site_of}
use Rattle.inlining.proofs.Cutting.{cut_of}
use Rattle.inlining.proofs.cut.cut_at_call.Goals as goal
use Rattle.il_ast.proofs.Listed.{get_there}

pub returns-then-answers : goal.returns-then-answers
returns-then-answers c =
    let candidates = c.args.candidates.now in
    let s = c.args.site.now in
    let there = get_there candidates c.number.result c.in-Some.candidate.now c.in-Some.ensures.lookup.3.0 c.in-Some.ensures.lookup.1 in
    let named : slice_get candidates s.name ≡ Some (Some c.in-Some-candidate.candidate) = ap (λ g. slice_get candidates g) (sym c.number.ensures) ∙ there ∙ ap (λ o. Some o) c.in-Some-candidate.is in
    cut_of candidates c.args.growth.now s.block.now c.args.line c.in-Some-candidate.candidate (site_of s) refl named (c.answers.ensures c.if-answers.true) c.requires.stands c.cut_for.result c.cut_for.ensures
