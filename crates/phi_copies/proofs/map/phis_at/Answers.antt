use Rattle.std.proofs.Common.{ap, sym, ◌∙◌, Some, slice_get}
use Rattle.std.proofs.lemmas.Option.{slice_get-get_or, slice_get_past}
use Rattle.phi_copies.specs.Copies.{phis_of}
use Rattle.phi_copies.proofs.map.phis_at.Goals as goal

pub returns-in-Some : goal.returns-in-Some
returns-in-Some c =
    let there = slice_get-get_or c.as_slice.result.now c.args.place c.in-Some.block.now c.in-Some.ensures.lookup.3.0 ∙ ap Some (sym c.in-Some.ensures.lookup.1) in
    c.as_slice-in-Some.ensures ∙ sym (ap phis_of (sym (ap (λ blocks. slice_get blocks c.args.place) c.as_slice.ensures) ∙ there))

pub returns-in-None : goal.returns-in-None
returns-in-None c =
    let none = slice_get_past c.as_slice.result.now c.args.place c.in-None.ensures.lookup.3 in
    sym (ap phis_of (sym (ap (λ blocks. slice_get blocks c.args.place) c.as_slice.ensures) ∙ none))
