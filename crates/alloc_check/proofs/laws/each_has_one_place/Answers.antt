use Rattle.alloc_check.proofs.Naming.{each_named}
use Rattle.alloc_check.proofs.laws.each_has_one_place.Goals as goal

pub returns : goal.returns
returns c = each_named
