use Rattle.std.proofs.Common.{◌≡◌, drop}
use Rattle.promote.specs.Uses.{makes}
use Rattle.promote.proofs.made.makes.Given as goal

abbrev pub invariant-loop-inst : goal.invariant-loop-inst
invariant-loop-inst l = makes (drop l.inst-index l.insts) ≡ makes l.insts
