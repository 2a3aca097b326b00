use Rattle.vcode.specs.Prelude.{is_place}
use Rattle.regalloc.proofs.Standing.{all_with}
use Rattle.regalloc.proofs.linear_scan.set.Goals as goal

pub returns-then-register-list-clause-places : goal.returns-then-register-list-clause-places
returns-then-register-list-clause-places c = all_with (is_place c.args.registers) c.args.list.now c.args.register c.args.place c.requires.place c.requires.places
