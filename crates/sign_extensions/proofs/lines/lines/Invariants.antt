use Rattle.std.proofs.Common.{◌≡◌, take, map}
use Rattle.sign_extensions.specs.Whole.{with_copy}
use Rattle.sign_extensions.proofs.lines.lines.Given as goal

abbrev pub invariant-loop-item : goal.invariant-loop-item
invariant-loop-item l = l.made.items ≡ map (with_copy l.marks) (take l.item-index l.from)
