use Rattle.std.proofs.Common.{◌≡◌, List, Result, Ok, Err, IfOk, ℕ, sym, subst}
use Rattle.vcode.specs.declared.line.Line.{Line}
use Rattle.value_numbering.specs.declared.fact.Fact.{Fact}
use Rattle.value_numbering.specs.Reused.{Made, Itself}
use Rattle.value_numbering.proofs.lines.made.Goals as goal

itself : {E : Type 0} (n : ℕ) (facts : List Fact) (l : Line ℕ) (r : Result (Line ℕ) E) → IfOk r (λ v. v ≡ l) → IfOk r (λ m. Made n facts l m)
itself n facts l (Ok v) same = subst (λ (m : Line ℕ). Made n facts l m) (sym same) Itself
itself n facts l (Err e) same = tt

pub returns-in-None : goal.returns-in-None
returns-in-None c = itself c.args.registers c.args.facts.now c.args.line.now c.try_clone.result c.try_clone.ensures
