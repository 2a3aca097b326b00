use Rattle.std.proofs.Common.{sym, subst}
use Rattle.il_ast.specs.Prelude.{Keeps}
use Rattle.vcode.specs.declared.function.LFunc.{LFunc}
use Rattle.vcode.specs.Prelude.{virtual_code, location_code}
use Rattle.qbec.proofs.Placing.{stays_with}
use Rattle.qbec.proofs.pipeline.located.Goals as goal

pub returns-clause-is : goal.returns-clause-is
returns-clause-is g c =
    let candidates = c.args.candidates.now in
    let given = location_code c.in_ok-located.located in
    let placed = stays_with candidates c.args.func.now (virtual_code c.in_ok-function.function) given c.in_ok-function.ensures c.in_ok-located.ensures in
    let kept = subst (λ (x : LFunc). Keeps given (location_code x)) (sym c.flat.ensures.same) c.in_ok-scheduled.ensures.kept in
    stays_with candidates c.args.func.now given (location_code c.flat.result.located) placed kept
