use Rattle.std.proofs.Common.{◌≤◌, sym, subst}
use Rattle.il_ast.specs.Prelude.{need, weight, Keeps}
use Rattle.il_ast.proofs.Passing.{passes_stay}
use Rattle.vcode.specs.declared.function.LFunc.{LFunc}
use Rattle.vcode.specs.Prelude.{virtual_code, location_code, frame_bound, code_weight}
use Rattle.qbec.proofs.pipeline.spilled.Goals as goal

pub returns-clause-is : goal.returns-clause-is
returns-clause-is c =
    let v = c.in_ok-selected.selected in
    let kept = subst (λ (x : LFunc). Keeps (virtual_code v) (location_code x)) (sym c.flat.ensures.same) c.in_ok-located.ensures.kept in
    passes_stay c.args.func.now (virtual_code v) (location_code c.flat.result.located) c.in_ok-selected.ensures.is kept

pub returns-clause-fits : goal.returns-clause-fits
returns-clause-fits c =
    let f = c.args.func.now in
    subst (λ (x : LFunc). frame_bound x.code x.slots ≤ need f) (sym c.flat.ensures.same)
    (subst (λ n. n ≤ need f) (sym c.in_ok-located.ensures.takes) c.in_ok-selected.ensures.takes)

pub returns-clause-weighs : goal.returns-clause-weighs
returns-clause-weighs c =
    let f = c.args.func.now in
    subst (λ (x : LFunc). code_weight x.code ≤ weight f) (sym c.flat.ensures.same)
    (subst (λ n. n ≤ weight f) (sym c.in_ok-located.ensures.light) c.in_ok-selected.ensures.light)
