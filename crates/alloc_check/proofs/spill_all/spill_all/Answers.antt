use Rattle.std.proofs.Common.{sym, ◌∙◌, ap, subst, IsTrue, nat_le}
use Rattle.il_ast.specs.declared.limits.TheConstants.{FUNCTION_WEIGHT}
use Rattle.il_ast.specs.Prelude.{Keeps}
use Rattle.vcode.specs.declared.place.Location.{Location}
use Rattle.vcode.specs.declared.code.Code.{Code}
use Rattle.vcode.specs.Prelude.{keeps_places, is_place, are_near, are_distinct, frame_bound, located, coded, virtual_code, IsRegular, code_weight}
use Rattle.alloc_check.proofs.Measures.{slots_weigh_same, in_slots_keeps, slots_take_same}
use Rattle.alloc_check.proofs.Regular.{slots_regular, slots_known, slots_near, slots_apart}
use Rattle.alloc_check.proofs.spill_all.spill_all.Goals as goal

pub invariant_of-result : goal.invariant_of-result
invariant_of-result c =
    let e = sym c.in_ok-code.ensures in
    let v = c.args.function.now.code in
    record {
      few = c.args.function.now.few;
      regular = subst (λ (l : Code Location). IsRegular l) e (slots_regular v c.args.function.now.regular);
      light = subst (λ n. IsTrue (nat_le n FUNCTION_WEIGHT)) (sym (ap (λ (l : Code Location). code_weight l) c.in_ok-code.ensures ∙ slots_weigh_same v)) c.args.function.now.light;
      known = subst (λ (l : Code Location). IsTrue (keeps_places (is_place c.args.function.now.registers) l)) e (slots_known c.args.function.now.registers v c.args.function.now.known);
      near = subst (λ (l : Code Location). IsTrue (are_near l.params)) e (slots_near v.params c.args.function.now.low);
      apart = subst (λ (l : Code Location). IsTrue (are_distinct located l.params)) e (slots_apart v.params c.args.function.now.distinct);
    }

pub returns-clause-kept : goal.returns-clause-kept
returns-clause-kept c =
    let v = c.args.function.now in
    subst (λ (l : Code Location). Keeps (virtual_code v) (coded located l)) (sym c.in_ok-code.ensures) (in_slots_keeps v.code)

pub returns-clause-light : goal.returns-clause-light
returns-clause-light c = ap (λ (l : Code Location). code_weight l) c.in_ok-code.ensures ∙ slots_weigh_same c.args.function.now.code

pub returns-clause-takes : goal.returns-clause-takes
returns-clause-takes c =
    let v = c.args.function.now in
    ap (λ (l : Code Location). frame_bound l v.registers) c.in_ok-code.ensures ∙ slots_take_same v.code v.registers
