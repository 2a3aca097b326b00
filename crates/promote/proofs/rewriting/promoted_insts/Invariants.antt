use Rattle.std.proofs.Common.{◌≡◌, take, map}
use Rattle.promote.specs.Uses.{widths_by, promoted_line}
use Rattle.promote.proofs.rewriting.promoted_insts.Given as goal

abbrev pub invariant-loop-inst : goal.invariant-loop-inst
invariant-loop-inst l = l.now.items ≡ map (promoted_line (widths_by l.table)) (take l.inst-index l.insts)
