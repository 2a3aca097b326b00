use Rattle.std.proofs.Common.{◌≤◌, subst}
use Rattle.il_ast.specs.declared.function.Func.{Func}
use Rattle.il_ast.specs.Prelude.{need, weight, IsCodeOf}
use Rattle.vcode.specs.Prelude.{virtual_code, frame_bound, code_weight}
use Rattle.qbec.proofs.pipeline.selected.Goals as goal

pub returns-clause-is : goal.returns-clause-is
returns-clause-is c = subst (λ (f : Func). IsCodeOf f (virtual_code c.in_ok-function.function)) c.in_ok-lowered.ensures.same c.in_ok-function.ensures.is

pub returns-clause-takes : goal.returns-clause-takes
returns-clause-takes c =
    let v = c.in_ok-function.function in
    subst (λ (f : Func). frame_bound v.code v.registers ≤ need f) c.in_ok-lowered.ensures.same c.in_ok-function.ensures.takes

pub returns-clause-light : goal.returns-clause-light
returns-clause-light c =
    let v = c.in_ok-function.function in
    subst (λ (f : Func). code_weight v.code ≤ weight f) c.in_ok-lowered.ensures.same c.in_ok-function.ensures.light
