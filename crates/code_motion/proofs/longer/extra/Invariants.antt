use Rattle.std.proofs.Common.{◌≡◌, true}
use Rattle.std.specs.List.{list_all}
use Rattle.code_motion.specs.Longer.{is_extra}
use Rattle.code_motion.proofs.longer.extra.Given as goal

abbrev pub invariant-loop-plan : goal.invariant-loop-plan
invariant-loop-plan l = list_all (is_extra l.registers.before l.registers.after) l.lines.items ≡ true
