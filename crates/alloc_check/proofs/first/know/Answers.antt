use Rattle.std.proofs.Common.{nat_eq, if◌then◌else◌, Option, Some, ap, ◌∙◌}
use Rattle.std.proofs.Math.Path.{fun_ext}
use Rattle.vcode.specs.declared.place.Location.{Location}
use Rattle.alloc_check.proofs.first.know.Goals as goal

pub returns-clause-owners : goal.returns-clause-owners
returns-clause-owners c = fun_ext (λ q. c.stand.ensures.owners q ∙ c.hold.ensures.owners q)

pub returns-clause-places : goal.returns-clause-places
returns-clause-places c = fun_ext (λ r. c.stand.ensures.places r ∙ ap (λ (o : Option Location). if nat_eq r c.args.equality.now.register then Some c.args.equality.now.place else o) (c.hold.ensures.places r))
