use Rattle.std.proofs.Common.{ℕ, ◌+◌, ◌≤◌, length, sym, ◌∙◌, ap, subst, arith, le-leb}
use Rattle.il_ast.specs.declared.limits.TheConstants.{FUNCTION_WEIGHT}
use Rattle.il_ast.specs.Prelude.{phi_count, need, weight, IsCodeOf}
use Rattle.phi_copies.specs.Endings.{Endings}
use Rattle.phi_copies.proofs.Counting.{is_small}
use Rattle.vcode.specs.declared.code.Code.{Code}
use Rattle.vcode.specs.Prelude.{coded, frame_bound, virtual, code_weight}
use Rattle.select.specs.Selected.{classes_in, IsVirtual}
use Rattle.select.proofs.Narrowing.{small, light, is_selected_by}
use Rattle.select.proofs.Stack.{takes_no_more}
use Rattle.select.proofs.Weights.{weighs_no_more}
use Rattle.select.proofs.Parameters.{is_virtual}
use Rattle.select.proofs.WholeKept.{is_code}
use Rattle.select.proofs.select.select.Goals as goal

pub count_registers-registers-requires : goal.count_registers-registers-requires
count_registers-registers-requires c = (is_small c.args.source.now.func.now c.args.source.now.good).temporaries

pub returns-clause-code : goal.returns-clause-code
returns-clause-code c =
    let s = c.args.source.now in
    c.in_ok-code.ensures ∙ is_selected_by s.func.now (record { endings = s.endings; edges = s.edges }) s.good s.lowered c.as_slice.result.now c.in_ok-classes.classes c.as_slice.ensures c.in_ok-classes.ensures.entries

pub returns-clause-registers : goal.returns-clause-registers
returns-clause-registers c =
    let all = c.count_registers-registers.ensures in
    let few = (is_small c.args.source.now.func.now c.args.source.now.good).temporaries in
    c.low_bits.ensures ∙ small c.count_registers-registers.result (omega (arith, all, few)) ∙ all

pub returns-clause-is : goal.returns-clause-is
returns-clause-is c =
    let s = c.args.source.now in
    let f = s.func.now in
    let code : Endings = record { endings = s.endings; edges = s.edges } in
    let is = c.in_ok-code.ensures ∙ is_selected_by f code s.good s.lowered c.as_slice.result.now c.in_ok-classes.classes c.as_slice.ensures c.in_ok-classes.ensures.entries in
    subst (λ (v : Code ℕ). IsCodeOf f (coded virtual v)) (sym is) (is_code f code s.good s.lowered)

pub returns-clause-takes : goal.returns-clause-takes
returns-clause-takes c =
    let s = c.args.source.now in
    let f = s.func.now in
    let code : Endings = record { endings = s.endings; edges = s.edges } in
    let is = c.in_ok-code.ensures ∙ is_selected_by f code s.good s.lowered c.as_slice.result.now c.in_ok-classes.classes c.as_slice.ensures c.in_ok-classes.ensures.entries in
    let all = c.count_registers-registers.ensures in
    let few = (is_small f s.good).temporaries in
    let many = c.low_bits.ensures ∙ small c.count_registers-registers.result (omega (arith, all, few)) ∙ all in
    subst (λ n. frame_bound c.in_ok-code.code n ≤ need f) (sym many)
    (subst (λ (v : Code ℕ). frame_bound v (length f.temps + phi_count f) ≤ need f) (sym is) (takes_no_more (classes_in f) f code s.lowered))

pub returns-clause-light : goal.returns-clause-light
returns-clause-light c =
    let s = c.args.source.now in
    let f = s.func.now in
    let code : Endings = record { endings = s.endings; edges = s.edges } in
    let is = c.in_ok-code.ensures ∙ is_selected_by f code s.good s.lowered c.as_slice.result.now c.in_ok-classes.classes c.as_slice.ensures c.in_ok-classes.ensures.entries in
    subst (λ (v : Code ℕ). code_weight v ≤ weight f) (sym is) (weighs_no_more (classes_in f) f code s.good s.lowered)

pub invariant_of-result : goal.invariant_of-result
invariant_of-result c =
    let s = c.args.source.now in
    let f = s.func.now in
    let code : Endings = record { endings = s.endings; edges = s.edges } in
    let is = c.in_ok-code.ensures ∙ is_selected_by f code s.good s.lowered c.as_slice.result.now c.in_ok-classes.classes c.as_slice.ensures c.in_ok-classes.ensures.entries in
    let all = c.count_registers-registers.ensures in
    let few = (is_small f s.good).temporaries in
    let many = c.low_bits.ensures ∙ small c.count_registers-registers.result (omega (arith, all, few)) ∙ all in
    let v = subst (λ n. IsVirtual c.in_ok-code.code n) (sym many) (subst (λ (x : Code ℕ). IsVirtual x (length f.temps + phi_count f)) (sym is) (is_virtual f code s.good s.lowered)) in
    let weighs = ap (λ (x : Code ℕ). code_weight x) is in
    let less = weighs_no_more (classes_in f) f code s.good s.lowered in
    let most = light f s.good in
    record { few = omega (arith, many, few); regular = v.regular; light = le-leb (code_weight c.in_ok-code.code) FUNCTION_WEIGHT (omega (arith, weighs, less, most)); known = v.known; low = v.low; distinct = v.distinct }
