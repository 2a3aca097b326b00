use Rattle.std.proofs.Common.{◌≡◌, ◌≤◌, ◌*◌, drop}
use Rattle.vcode.specs.Prelude.{affords}
use Rattle.vcode.proofs.cost.affords.Given as goal

abbrev pub invariant-loop-line : goal.invariant-loop-line
invariant-loop-line g l = record { walk : affords l.credit l.fn.jump (drop l.line-index l.lines) ≡ affords 0 l.fn.jump l.fn.lines; small : l.credit ≤ 137438953472 * l.line-index }
