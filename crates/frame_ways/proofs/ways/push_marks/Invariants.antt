use Rattle.std.proofs.Common.{◌≡◌, ◌++◌, drop, map}
use Rattle.frame_ways.specs.declared.plan.Part.{Part}
use Rattle.frame_ways.proofs.ways.push_marks.Given as goal

abbrev pub invariant-loop-part : goal.invariant-loop-part
invariant-loop-part l = l.marks.items ++ map (λ (p : Part). p.mark) (drop l.part-index l.parts) ≡ l.fn.marks.items ++ map (λ (p : Part). p.mark) l.fn.parts
