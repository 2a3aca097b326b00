use Rattle.std.proofs.Common.{ℕ, sym, subst}
use Rattle.vcode.specs.declared.line.Line.{Line}
use Rattle.vcode.specs.declared.line.Line.TheVariants.{Operate}
use Rattle.vcode.specs.declared.place.Operand.{Operand}
use Rattle.vcode.specs.declared.place.Operand.TheVariants.{At}
use Rattle.value_numbering.specs.Reused.{IsRegrouped, Made, SecondRegrouped}
use Rattle.value_numbering.proofs.regroup.by_right.Goals as goal

pub returns-in-Some : goal.returns-in-Some
returns-in-Some c =
    subst (λ (a : Operand ℕ). Made c.args.registers c.args.facts.now (Operate c.args.to c.args.operation c.args.left a) c.added.result) (sym c.in-At.is)
    (subst (λ (m : Line ℕ). Made c.args.registers c.args.facts.now (Operate c.args.to c.args.operation c.args.left (At c.in-At.register)) m) (sym c.added.ensures) (SecondRegrouped (subst (λ (y : ℕ). IsRegrouped c.args.registers c.args.facts.now c.args.operation y c.args.left c.in-Some.pair.part c.in-Some.pair.rest) c.source-sum.ensures c.in-Some.ensures)))
