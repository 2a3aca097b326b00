use Rattle.std.proofs.Common.{ℕ, List, [], ap, sym, ◌∙◌, Some, slice_index_or}
use Rattle.std.proofs.lemmas.Option.{slice_get-get_or, slice_get_past}
use Rattle.obj_link.specs.Prelude.{symbol_in}
use Rattle.obj_link.proofs.linking.exports.symbol_name.Goals as goal

pub returns-in-Some : goal.returns-in-Some
returns-in-Some c =
    let there = slice_get-get_or c.args.texts.now c.args.text c.in-Some.checked.now c.in-Some.ensures.lookup.3.0 ∙ ap Some (sym c.in-Some.ensures.lookup.1) in
    c.name_at.ensures ∙ (ap (λ (names : List (List ℕ)). slice_index_or names c.args.symbol []) c.as_slice.ensures ∙ sym (ap (λ o. symbol_in o c.args.symbol) there))

pub returns-in-None : goal.returns-in-None
returns-in-None c = sym (ap (λ o. symbol_in o c.args.symbol) (slice_get_past c.args.texts.now c.args.text c.in-None.ensures.lookup.3))
