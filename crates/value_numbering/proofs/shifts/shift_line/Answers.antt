use Rattle.std.proofs.Common.{ℕ, sym, subst}
use Rattle.rv_isa.specs.declared.instruction.RegOp.TheVariants.{Sll}
use Rattle.vcode.specs.declared.line.Line.{Line}
use Rattle.vcode.specs.declared.line.Line.TheVariants.{Operate}
use Rattle.vcode.specs.declared.line.Operation.TheVariants.{Reg}
use Rattle.vcode.specs.declared.place.Operand.TheVariants.{At, Number}
use Rattle.value_numbering.specs.Reused.{IsHalfway, Made, Halfway}
use Rattle.value_numbering.proofs.shifts.shift_line.Goals as goal

pub returns-in-Some : goal.returns-in-Some
returns-in-Some c =
    subst (λ (m : Line ℕ). Made c.args.registers c.args.facts.now (Operate c.args.to (Reg Sll) (At c.args.register) (Number c.args.by)) m) (sym c.shifted_back.ensures)
    (Halfway (subst (λ (r : ℕ). IsHalfway c.args.registers c.args.facts.now r c.args.by c.in-Some.shift.register c.in-Some.shift.by) c.source.ensures c.in-Some.ensures))
