use Rattle.std.proofs.Common.{◌∙◌, ℕ, ap, sym, List, slice_get, Option}
use Rattle.std.proofs.lemmas.Option.{slice_get_past}
use Rattle.std.specs.Option.{option_and_then, option_flatten}
use Rattle.il_types.specs.Prelude.{place_in}
use Rattle.il_interp.proofs.prepare.place_at.Goals as goal
use Rattle.il_ast.proofs.Listed.{get_there}

pub returns-in-Some-get : goal.returns-in-Some-get
returns-in-Some-get c =
    let of = option_and_then (λ (table : List (Option ℕ)). place_in table c.args.label) in
    let row = sym (ap (λ (ts : List (List (Option ℕ))). slice_get ts c.args.number) c.deref.ensures.value)
    ∙ get_there c.deref.result.now c.args.number c.in-Some.table.now c.in-Some.ensures.lookup.3.0 c.in-Some.ensures.lookup.1 in
    let there = sym (ap (λ (ps : List (Option ℕ)). slice_get ps c.args.label) c.as_slice.ensures)
    ∙ get_there c.as_slice.result.now c.args.label c.in-Some-get.place.now c.in-Some-get.ensures.lookup.3.0 c.in-Some-get.ensures.lookup.1 in
    sym (ap of row ∙ ap option_flatten there) ∙ c.args.prepared.now.places_are c.args.number c.args.label

pub returns-in-None-get : goal.returns-in-None-get
returns-in-None-get c =
    let of = option_and_then (λ (table : List (Option ℕ)). place_in table c.args.label) in
    let row = sym (ap (λ (ts : List (List (Option ℕ))). slice_get ts c.args.number) c.deref.ensures.value)
    ∙ get_there c.deref.result.now c.args.number c.in-Some.table.now c.in-Some.ensures.lookup.3.0 c.in-Some.ensures.lookup.1 in
    let none = sym (ap (λ (ps : List (Option ℕ)). slice_get ps c.args.label) c.as_slice.ensures)
    ∙ slice_get_past c.as_slice.result.now c.args.label c.in-None-get.ensures.lookup.3 in
    sym (ap of row ∙ ap option_flatten none) ∙ c.args.prepared.now.places_are c.args.number c.args.label

pub returns-in-None : goal.returns-in-None
returns-in-None c =
    let of = option_and_then (λ (table : List (Option ℕ)). place_in table c.args.label) in
    let none = sym (ap (λ (ts : List (List (Option ℕ))). slice_get ts c.args.number) c.deref.ensures.value)
    ∙ slice_get_past c.deref.result.now c.args.number c.in-None.ensures.lookup.3 in
    sym (ap of none) ∙ c.args.prepared.now.places_are c.args.number c.args.label
