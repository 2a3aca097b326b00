use Rattle.std.proofs.Common.{List, ap, sym, ◌∙◌}
use Rattle.std.proofs.Math.ListN.{drop_of_length-le}
use Rattle.certificates.specs.declared.certificate.Equality.{Equality}
use Rattle.alloc_check.specs.Prelude.{known, standing, exists_in, first_at, stands_at}
use Rattle.alloc_check.proofs.Starting.{known_next, standing_next, every_next}
use Rattle.alloc_check.proofs.first.know_all.Goals as goal

pub loop-equality-preserved : goal.loop-equality-preserved
loop-equality-preserved c =
    let es = c.args.everywhere.now in
    let i = c.loop-equality.equality-index in
    let before = c.loop-equality.invariant in
    let low = c.loop-equality-test.true in
    record {
      owners = known_next es i _ (first_at c.loop-equality.first) (first_at c.know.new.first) (known es (first_at c.args.first.now)) low c.know.ensures.owners before.owners;
      places = standing_next es i _ (stands_at c.loop-equality.first) (stands_at c.know.new.first) (standing es (stands_at c.args.first.now)) low c.know.ensures.places before.places;
      exist = every_next (exists_in c.args.registers) es i low before.exist;
      room = c.know.ensures.room;
    }

pub returns-clause-owners : goal.returns-clause-owners
returns-clause-owners c =
    sym (ap (λ (xs : List Equality). known xs (first_at c.loop-equality.first)) (drop_of_length-le c.args.everywhere.now c.loop-equality-test.false)) ∙ c.loop-equality.invariant.owners
