use Rattle.std.proofs.Common.{◌≡◌, false, drop}
use Rattle.inlining.specs.InPlace.{calm_behind}
use Rattle.inlining.proofs.candidate.are_calm.Given as goal

abbrev pub invariant-loop-line : goal.invariant-loop-line
invariant-loop-line l = calm_behind l.turned (drop l.line-index l.lines) ≡ calm_behind false l.fn.lines
