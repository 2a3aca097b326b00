use Rattle.std.proofs.Common.{Ok, Err}
use Rattle.std.proofs.lemmas.List.Sorted.{searched}
use Rattle.il_mem.proofs.FoundLemmas.{never_falls, not_there}
use Rattle.il_mem.proofs.numbers.search.Goals as goal

pub returns-in-Ok : goal.returns-in-Ok
returns-in-Ok c =
    searched c.args.numbers.now c.args.number (Ok c.in-Ok.at) c.in-Ok.ensures.position (never_falls c.args.numbers.now c.requires)

pub returns-in-Err : goal.returns-in-Err
returns-in-Err c =
    not_there c.args.numbers.now c.args.number c.in-Err.field-0
    (searched c.args.numbers.now c.args.number (Err c.in-Err.field-0) c.in-Err.ensures.position (never_falls c.args.numbers.now c.requires))
