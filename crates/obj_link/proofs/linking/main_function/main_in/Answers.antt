use Rattle.std.proofs.Common.{ap, sym, ◌∙◌, Some, arith, option_map}
use Rattle.std.proofs.lemmas.Option.{slice_get-get_or, slice_get_past, slice_get-map}
use Rattle.obj_link.specs.Prelude.{shown}
use Rattle.obj_link.proofs.linking.main_function.main_in.Goals as goal

pub returns-then-is_main : goal.returns-then-is_main
returns-then-is_main c =
    let number = c.in-Some-Code-Defined.number in
    let there = slice_get-get_or c.args.functions.now number c.in-Some.function.now c.in-Some.ensures.lookup.3.0 ∙ ap Some (sym c.in-Some.ensures.lookup.1) in
    let seen = slice_get-map shown c.args.functions.now number ∙ ap (option_map shown) there in
    grind (arith, seen)

pub returns-else-is_main : goal.returns-else-is_main
returns-else-is_main c =
    let number = c.in-Some-Code-Defined.number in
    let there = slice_get-get_or c.args.functions.now number c.in-Some.function.now c.in-Some.ensures.lookup.3.0 ∙ ap Some (sym c.in-Some.ensures.lookup.1) in
    let seen = slice_get-map shown c.args.functions.now number ∙ ap (option_map shown) there in
    grind (arith, seen)

pub returns-in-None : goal.returns-in-None
returns-in-None c =
    let number = c.in-Some-Code-Defined.number in
    let none = slice_get-map shown c.args.functions.now number ∙ ap (option_map shown) (slice_get_past c.args.functions.now number c.in-None.ensures.lookup.3) in
    grind (arith, none)
