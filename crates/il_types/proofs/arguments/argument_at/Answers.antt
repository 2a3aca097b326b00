use Rattle.std.proofs.Common.{◌≡◌, nat_eq, true, sym, ◌∙◌, arith}
use Rattle.std.proofs.lemmas.Bool.Decides.{nat_tests}
use Rattle.il_types.proofs.ArgumentLemmas.{found_at}
use Rattle.il_types.proofs.arguments.argument_at.Goals as goal
use Rattle.il_ast.proofs.Listed.{get_there}

pub returns-then-number : goal.returns-then-number
returns-then-number c =
    let same : c.in-Some.arg.now.from ≡ c.args.from = sym c.number.ensures ∙ (c.if-number.true ∙ c.number-in-Some.ensures) in
    let here : nat_eq c.in-Some.arg.now.from c.args.from ≡ true = grind (arith, nat_tests) in
    found_at c.args.args.now c.args.place c.in-Some.arg.now c.args.from c.requires
    (get_there c.args.args.now c.args.place c.in-Some.arg.now c.in-Some.ensures.lookup.3.0 c.in-Some.ensures.lookup.1) here
