use Rattle.std.proofs.Common.{◌∙◌, ap, slice_set, Some}
use Rattle.il_ast.specs.declared.value.Value.TheVariants.{Integer}
use Rattle.il_interp.proofs.AccessLemmas.{does_load}
use Rattle.il_interp.proofs.accesses.load.Goals as goal

pub returns : goal.returns
returns c =
    does_load c.args.temps.now c.set_number.new.self c.args.to.now c.args.op.now c.args.at.now c.in-Some.block c.in-Some.offset c.in-Some-loaded.number c.args.memory.now
    c.in-Some.ensures c.in-Some-loaded.ensures.place c.in-Some-loaded.ensures.value
    (c.set_number.ensures ∙ ap (λ t. slice_set c.args.temps.now t (Some (Integer c.in-Some-loaded.number))) c.number.ensures)
