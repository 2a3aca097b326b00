use Rattle.std.proofs.Common.{◌≡◌, ◌++◌, drop}
use Rattle.select.specs.Narrow.{listed, narrow_copies}
use Rattle.select.proofs.leave.push_copies.Given as goal

abbrev pub invariant-loop-assignment : goal.invariant-loop-assignment
invariant-loop-assignment l = l.lines ++ narrow_copies (listed l.classes) (drop l.assignment-index l.copies) ≡ l.fn.lines ++ narrow_copies (listed l.classes) l.fn.copies
