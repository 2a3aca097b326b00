use Rattle.std.proofs.Common.{◌∙◌, ap}
use Rattle.il_interp.specs.Rows.{in_class}
use Rattle.il_interp.proofs.AccessLemmas.{store_answered}
use Rattle.il_interp.proofs.accesses.store.Goals as goal

pub returns : goal.returns
returns c =
    store_answered c.args.temps.now c.args.memory.now c.store_number.new.self c.args.size.now c.args.value.now c.args.at.now c.in-Some.number c.in_class.result
    c.in-Some-pointed.block c.in-Some-pointed.offset c.store_number.result c.store_number.ensures c.in-Some.ensures c.in-Some-pointed.ensures
    (c.in_class.ensures ∙ ap (λ k. in_class k c.in-Some.number) c.stored_class.ensures)
