use Rattle.std.proofs.Common.{◌≡◌, true, sym, ◌∙◌, refl}
use Rattle.rv_isa.specs.Prelude.{can_execute, act, step}
use Rattle.rv_machine.specs.Entries.{view}
use Rattle.rv_machine.proofs.StepLaws.{gives_by, step_refused, step_unknown, step_known}
use Rattle.rv_machine.proofs.machine.Machine.step.Goals as goal

pub returns-then-not-allowed-clause-gives : goal.returns-then-not-allowed-clause-gives
returns-then-not-allowed-clause-gives g c =
    let s = view g.R.Ram c.args.self.now in
    (step_refused s (sym c.allowed.ensures.value ∙ c.if-not-allowed.true), refl)

pub returns-in-Some-clause-gives : goal.returns-in-Some-clause-gives
returns-in-Some-clause-gives g c =
    let s = view g.R.Ram c.args.self.now in
    let may : can_execute s s.pc 4 ≡ true = sym c.allowed.ensures.value ∙ c.if-not-allowed.false in
    gives_by (step s) (act c.in-Some.instr s) c.act.result s s (view g.R.Ram c.act.new.self)
    (step_known s c.number-word.result c.in-Some.instr may c.number-word.ensures.value c.in-Some.ensures.value) refl c.act.ensures.gives

pub returns-in-None-clause-gives : goal.returns-in-None-clause-gives
returns-in-None-clause-gives g c =
    let s = view g.R.Ram c.args.self.now in
    let may : can_execute s s.pc 4 ≡ true = sym c.allowed.ensures.value ∙ c.if-not-allowed.false in
    (step_unknown s c.number-word.result may c.number-word.ensures.value c.in-None.ensures.value, refl)
