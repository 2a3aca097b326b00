use Rattle.std.proofs.Common.{◌≡◌, true, sym, ◌∙◌, ap, subst, arith, IsTrue, nat_le}
use Rattle.il_ast.specs.declared.limits.TheConstants.{FUNCTION_WEIGHT}
use Rattle.il_ast.specs.Prelude.{Keeps}
use Rattle.vcode.specs.declared.place.Location.{Location}
use Rattle.vcode.specs.declared.code.Code.{Code}
use Rattle.vcode.specs.Prelude.{keeps_places, is_place, are_near, are_distinct, located, coded, virtual_code, IsRegular, code_weight}
use Rattle.alloc_check.specs.Prelude.{placed_by, is_placed, is_accepted}
use Rattle.alloc_check.proofs.Accepts.{parts, refused, unplaced, accepted, accepted_sound}
use Rattle.alloc_check.proofs.Certifies.{to_true, certified_regular, weighs_same}
use Rattle.alloc_check.proofs.Measures.{certified_keeps}
use Rattle.alloc_check.proofs.accept.accept.Goals as goal

pub returns-then-not-right-clause-no : goal.returns-then-not-right-clause-no
returns-then-not-right-clause-no c =
    let v = c.args.function.now in
    let d = c.args.certificate.now in
    λ e. refused v d (sym c.in_ok-right.ensures.right ∙ c.if-not-right.true)

pub returns-then-not-is_placed-clause-no : goal.returns-then-not-is_placed-clause-no
returns-then-not-is_placed-clause-no c =
    let v = c.args.function.now in
    let d = c.args.certificate.now in
    λ e. unplaced v d (ap (is_placed v.registers) (sym c.in_ok-code.ensures) ∙ sym c.is_placed.ensures ∙ c.if-not-is_placed.true)

pub invariant_of-result : goal.invariant_of-result
invariant_of-result c =
    let v = c.args.function.now in
    let d = c.args.certificate.now in
    let e = sym c.in_ok-code.ensures in
    let placed : is_placed v.registers (placed_by v.code d) ≡ true = ap (is_placed v.registers) e ∙ sym c.is_placed.ensures ∙ c.if-not-is_placed.false in
    let p = parts v.registers (placed_by v.code d) placed in
    record {
      few = (let most = v.few in let fewer = c.fewest_slots-slots.ensures.few in omega (arith, most, fewer));
      regular = subst (λ (l : Code Location). IsRegular l) e (certified_regular v.code d v.regular p.paid);
      light = subst (λ n. IsTrue (nat_le n FUNCTION_WEIGHT)) (sym (ap (λ (l : Code Location). code_weight l) c.in_ok-code.ensures ∙ weighs_same v.code d)) v.light;
      known = to_true (keeps_places (is_place c.fewest_slots-slots.result) c.in_ok-code.code) c.fewest_slots-slots.ensures.enough;
      near = subst (λ (l : Code Location). IsTrue (are_near l.params)) e (to_true (are_near (placed_by v.code d).params) p.near);
      apart = subst (λ (l : Code Location). IsTrue (are_distinct located l.params)) e (to_true (are_distinct located (placed_by v.code d).params) p.apart);
    }

pub returns-clause-yes : goal.returns-clause-yes
returns-clause-yes c =
    let v = c.args.function.now in
    let d = c.args.certificate.now in
    accepted v d (sym c.in_ok-right.ensures.right ∙ c.if-not-right.false) (ap (is_placed v.registers) (sym c.in_ok-code.ensures) ∙ sym c.is_placed.ensures ∙ c.if-not-is_placed.false)

pub returns-clause-kept : goal.returns-clause-kept
returns-clause-kept c =
    let v = c.args.function.now in
    let d = c.args.certificate.now in
    let yes_it_is : is_accepted v d ≡ true =
    accepted v d (sym c.in_ok-right.ensures.right ∙ c.if-not-right.false) (ap (is_placed v.registers) (sym c.in_ok-code.ensures) ∙ sym c.is_placed.ensures ∙ c.if-not-is_placed.false) in
    subst (λ (l : Code Location). Keeps (virtual_code v) (coded located l)) (sym c.in_ok-code.ensures) (certified_keeps v.code d (accepted_sound v d yes_it_is))
