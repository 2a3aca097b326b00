use Rattle.std.proofs.Common.{◌∙◌, ap, slice_set, Some}
use Rattle.il_ast.specs.declared.value.Value.TheVariants.{Integer}
use Rattle.il_interp.proofs.HopLemmas.{two_taken}
use Rattle.il_interp.proofs.phi_numbers.take_two.Goals as goal

pub returns : goal.returns
returns c = λ globals.
    two_taken globals c.args.temps.now c.set_number.new.self c.set_number-2.new.self c.args.from c.args.one.now c.args.two.now c.in-Some.a c.in-Some-phi_number.b
    (c.in-Some.ensures globals) (c.in-Some-phi_number.ensures globals)
    (c.set_number.ensures ∙ ap (λ t. slice_set c.args.temps.now t (Some (Integer c.in-Some.a))) c.number.ensures)
    (c.set_number-2.ensures ∙ ap (λ t. slice_set c.set_number.new.self t (Some (Integer c.in-Some-phi_number.b))) c.number-2.ensures)
