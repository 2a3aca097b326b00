use Rattle.std.proofs.Common.{◌≡◌, ◌++◌, map, drop}
use Rattle.vcode.specs.Prelude.{with_line}
use Rattle.constant_placement.specs.Held.{replaced}
use Rattle.constant_placement.proofs.hoisting.replace.push_lines.Given as goal

abbrev pub invariant-loop-item : goal.invariant-loop-item
invariant-loop-item l =
    l.made ++ map (with_line (replaced l.by.plan.now l.by.held)) (drop l.item-index l.lines)
    ≡ l.fn.made ++ map (with_line (replaced l.by.plan.now l.by.held)) l.fn.lines
