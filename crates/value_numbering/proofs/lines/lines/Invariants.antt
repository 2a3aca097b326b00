use Rattle.std.proofs.Common.{ℕ, Bool, List, ◌++◌, drop}
use Rattle.vcode.specs.declared.line.Line.{Line}
use Rattle.vcode.specs.declared.line.Jump.{Jump}
use Rattle.value_numbering.specs.declared.fact.Fact.{Fact}
use Rattle.value_numbering.specs.Reused.{AreReused}
use Rattle.value_numbering.proofs.lines.lines.Given as goal

abbrev pub invariant-loop-line : goal.invariant-loop-line
invariant-loop-line l =
    (rest : List (Line ℕ)) (marks : List Bool) (claims : List (List Fact)) (j : Jump ℕ) → AreReused l.registers marks claims l.facts.items (drop l.line-index l.from) rest j
    → AreReused l.registers marks claims l.fn.facts.items l.fn.from (l.all.items ++ rest) j
