use Rattle.std.proofs.Common.{◌∙◌, ap, sym, List, slice_get, Option, Some, option_map}
use Rattle.std.proofs.lemmas.Option.{slice_get_past, slice_get-map}
use Rattle.il_ast.specs.declared.program.Target.{Target}
use Rattle.il_ast.specs.Prelude.{target_value, values_of}
use Rattle.il_interp.proofs.operand.global_value.Goals as goal
use Rattle.il_ast.proofs.Listed.{get_there}

pub returns-in-Some-get : goal.returns-in-Some-get
returns-in-Some-get c =
    let of = λ (o : Option (List Target)). slice_get (values_of o) c.args.symbol in
    let row = sym (ap (λ (ts : List (List Target)). slice_get ts c.args.text) c.as_slice.ensures)
    ∙ get_there c.as_slice.result.now c.args.text c.in-Some.targets.now c.in-Some.ensures.lookup.3.0 c.in-Some.ensures.lookup.1 in
    let there = sym (ap (λ (ts : List Target). slice_get ts c.args.symbol) c.as_slice-in-Some.ensures)
    ∙ get_there c.as_slice-in-Some.result.now c.args.symbol c.in-Some-get.target.now c.in-Some-get.ensures.lookup.3.0 c.in-Some-get.ensures.lookup.1 in
    ap Some c.target_value.ensures ∙ sym (ap of row ∙ (slice_get-map target_value c.in-Some.targets.now c.args.symbol ∙ ap (option_map target_value) there))

pub returns-in-None-get : goal.returns-in-None-get
returns-in-None-get c =
    let of = λ (o : Option (List Target)). slice_get (values_of o) c.args.symbol in
    let row = sym (ap (λ (ts : List (List Target)). slice_get ts c.args.text) c.as_slice.ensures)
    ∙ get_there c.as_slice.result.now c.args.text c.in-Some.targets.now c.in-Some.ensures.lookup.3.0 c.in-Some.ensures.lookup.1 in
    let none = sym (ap (λ (ts : List Target). slice_get ts c.args.symbol) c.as_slice-in-Some.ensures)
    ∙ slice_get_past c.as_slice-in-Some.result.now c.args.symbol c.in-None-get.ensures.lookup.3 in
    sym (ap of row ∙ (slice_get-map target_value c.in-Some.targets.now c.args.symbol ∙ ap (option_map target_value) none))

pub returns-in-None : goal.returns-in-None
returns-in-None c =
    let of = λ (o : Option (List Target)). slice_get (values_of o) c.args.symbol in
    let none = sym (ap (λ (ts : List (List Target)). slice_get ts c.args.text) c.as_slice.ensures)
    ∙ slice_get_past c.as_slice.result.now c.args.text c.in-None.ensures.lookup.3 in
    sym (ap of none)
