use Rattle.std.proofs.Common.{◌≡◌, ◌++◌, drop}
use Rattle.select.specs.Narrow.{listed, narrow_turns}
use Rattle.select.proofs.instruction.push_turns.Given as goal

abbrev pub invariant-loop-inst : goal.invariant-loop-inst
invariant-loop-inst l = l.lines ++ narrow_turns (listed l.classes) (drop l.inst-index l.insts) ≡ l.fn.lines ++ narrow_turns (listed l.classes) l.fn.insts
