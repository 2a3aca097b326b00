use Rattle.std.proofs.Common.{ℕ, Option, ap, ◌∙◌}
use Rattle.vcode.specs.declared.place.Location.{Location}
use Rattle.alloc_check.proofs.table.OwnerTable.first_place.Goals as goal

pub returns : goal.returns
returns c = c.place.ensures ∙ ap (λ (at : ℕ → Option Location). at c.args.register) c.requires.places
