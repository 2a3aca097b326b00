use Rattle.std.proofs.Common.{◌∙◌, ap, sym, slice_set, Some}
use Rattle.il_ast.specs.declared.value.Value.TheVariants.{Integer}
use Rattle.il_interp.proofs.RowLemmas.{does_binary}
use Rattle.il_interp.proofs.numbers.binary.Goals as goal

pub returns : goal.returns
returns c =
    does_binary c.args.temps.now c.set_number.new.self c.args.to.now c.args.op.now c.args.left.now c.args.right.now c.in-Some.a c.in-Some-number_at.b c.in-Some-on_numbers.made
    c.in-Some.ensures c.in-Some-number_at.ensures (sym c.on_numbers.ensures ∙ c.in-Some-on_numbers.is)
    (c.set_number.ensures ∙ ap (λ t. slice_set c.args.temps.now t (Some (Integer c.in-Some-on_numbers.made))) c.number.ensures)
