use Rattle.std.proofs.Common.{sym, ◌∙◌, ap, subst, IsTrue, nat_le}
use Rattle.il_ast.specs.declared.limits.TheConstants.{FUNCTION_WEIGHT}
use Rattle.il_ast.specs.Prelude.{Keeps}
use Rattle.vcode.specs.declared.place.Location.{Location}
use Rattle.vcode.specs.declared.code.Code.{Code}
use Rattle.vcode.specs.Prelude.{coded, location_code, keeps_places, is_place, are_near, are_distinct, located, IsRegular, code_weight}
use Rattle.scheduling.proofs.Keeping.{scheduled_keeps}
use Rattle.scheduling.proofs.Measuring.{scheduled_weighs, scheduled_names, scheduled_regular}
use Rattle.scheduling.proofs.schedule.apply.Goals as goal

pub invariant_of-result : goal.invariant_of-result
invariant_of-result c =
    let e = sym c.in_ok-code.ensures in
    let given = c.args.function.now in
    let plan = c.args.plan.now in
    record {
      few = given.few;
      regular = subst (λ (l : Code Location). IsRegular l) e (scheduled_regular plan given.code given.regular);
      light = ap (λ n. nat_le n FUNCTION_WEIGHT) (ap (λ (l : Code Location). code_weight l) c.in_ok-code.ensures ∙ scheduled_weighs plan given.code) ∙ given.light;
      known = subst (λ (l : Code Location). IsTrue (keeps_places (is_place given.slots) l)) e (scheduled_names (is_place given.slots) plan given.code given.known);
      near = subst (λ (l : Code Location). IsTrue (are_near l.params)) e given.near;
      apart = subst (λ (l : Code Location). IsTrue (are_distinct located l.params)) e given.apart;
    }

pub returns-clause-kept : goal.returns-clause-kept
returns-clause-kept c =
    let given = c.args.function.now in
    subst (λ (l : Code Location). Keeps (location_code given) (coded located l)) (sym c.in_ok-code.ensures) (scheduled_keeps given c.args.plan.now)

pub returns-clause-light : goal.returns-clause-light
returns-clause-light c = ap (λ (l : Code Location). code_weight l) c.in_ok-code.ensures ∙ scheduled_weighs c.args.plan.now c.args.function.now.code
