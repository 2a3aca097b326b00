use Rattle.std.proofs.Common.{subst}
use Rattle.value_numbering.specs.declared.fact.Expression.{Expression}
use Rattle.value_numbering.specs.Extensions.{IsReloaded}
use Rattle.value_numbering.specs.Reused.{Reloaded}
use Rattle.value_numbering.proofs.extensions.load_line.Goals as goal

pub returns-in-Some : goal.returns-in-Some
returns-in-Some c = Reloaded (subst (λ (e : Expression). IsReloaded c.args.registers c.args.facts.now e c.in-Some.load.op c.in-Some.load.at) c.canonical.ensures c.in-Some.ensures)
