use Rattle.std.proofs.Common.{◌≡◌, ap, ◌∙◌, arith}
use Rattle.alloc_check.specs.Prelude.{own_of, machine_stays}
use Rattle.alloc_check.proofs.stays.machine_stays.Goals as goal

pub returns : goal.returns
returns c =
    let last : c.loop-register.register ≡ 28 = omega (arith, c.loop-register-test.false, c.loop-register.auto.register-end) in
    c.loop-register.invariant ∙ ap (machine_stays c.args.ground.now.everywhere.now (own_of c.args.table.now)) last
