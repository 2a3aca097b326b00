use Rattle.std.proofs.Common.{ap, ◌∙◌, arith}
use Rattle.alloc_check.specs.Prelude.{nobody, known, standing}
use Rattle.alloc_check.proofs.Starting.{known_low}
use Rattle.alloc_check.proofs.first.First.new.Goals as goal

pub returns : goal.returns
returns c =
    let es = c.args.everywhere.now in
    record {
      machine = (let long = c.know_all.ensures.room.machine in omega (arith, long));
      owners = c.know_all.ensures.owners ∙ ap (known es) c.in_ok-first.ensures.owners;
      places = c.know_all.ensures.places ∙ ap (standing es) c.in_ok-first.ensures.places;
      low = known_low c.args.registers es nobody c.requires (λ q r e. cc);
    }
