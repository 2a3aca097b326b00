use Rattle.std.proofs.Common.{ℕ, sym, subst}
use Rattle.vcode.specs.declared.line.Line.{Line}
use Rattle.vcode.specs.declared.line.Line.TheVariants.{Store}
use Rattle.vcode.specs.declared.place.Operand.TheVariants.{At}
use Rattle.value_numbering.specs.Reused.{Made, Narrow}
use Rattle.value_numbering.proofs.lines.narrower.Goals as goal

pub returns-in-Some : goal.returns-in-Some
returns-in-Some c =
    subst (λ (l : Line ℕ). Made c.args.registers c.args.facts.now l (Store c.in-Store.size (At c.in-Some.register) c.in-Store.at)) (sym c.in-Store.is)
    (Narrow c.in-Some.ensures.narrow c.in-Some.ensures.low)
