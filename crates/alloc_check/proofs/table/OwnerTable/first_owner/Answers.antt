use Rattle.std.proofs.Common.{ap, ◌∙◌}
use Rattle.alloc_check.specs.Prelude.{Owners}
use Rattle.alloc_check.proofs.table.OwnerTable.first_owner.Goals as goal

pub returns : goal.returns
returns c = c.owner.ensures ∙ ap (λ (own : Owners). own c.args.place) c.requires.owners
