use Rattle.std.proofs.Common.{◌≡◌, ◌∙◌, ap, subst, sym, IfOk, Option, slice_get}
use Rattle.std.proofs.lemmas.Option.{slice_get_past}
use Rattle.il_ast.specs.declared.instruction.Inst.{Inst}
use Rattle.il_ast.specs.declared.instruction.Jump.{Jump}
use Rattle.il_ast.specs.declared.instruction.Lined.{Lined}
use Rattle.il_ast.specs.Prelude.{turn_in, end_effect}
use Rattle.obj_link.specs.Prelude.{shown}
use Rattle.il_interp.specs.Machine.{program_of, act_of, env_of, locals_of, react, stepped}
use Rattle.il_interp.proofs.turn.turn_in_block.Goals as goal
use Rattle.il_ast.proofs.Listed.{get_there}

pub returns-in-Some : goal.returns-in-Some
returns-in-Some c =
    let p = program_of c.args.prepared.now in
    let st = c.args.state.now in
    let b = c.args.block.now in
    let turn = λ (o : Option (Lined Inst)). react p st (turn_in (env_of p (shown c.args.function.now)) (act_of st.frame) st.memory b o) in
    let there = sym (ap (λ is. slice_get is st.frame.next) c.as_slice-insts.ensures)
    ∙ get_there c.as_slice-insts.result.now st.frame.next c.in-Some.inst.now c.in-Some.ensures.lookup.3.0 c.in-Some.ensures.lookup.1 in
    subst (λ o. IfOk c.instruction.result (λ end. turn o ≡ stepped c.instruction.new.state end)) (sym there) c.instruction.ensures

pub returns-in-Some-jump : goal.returns-in-Some-jump
returns-in-Some-jump c =
    let p = program_of c.args.prepared.now in
    let st = c.args.state.now in
    let b = c.args.block.now in
    let env = env_of p (shown c.args.function.now) in
    let turn = λ (o : Option (Lined Inst)). react p st (turn_in env (act_of st.frame) st.memory b o) in
    let ends = λ (o : Option (Lined Jump)). react p st (end_effect env b.label (locals_of st.frame) st.memory o) in
    let none = sym (ap (λ is. slice_get is st.frame.next) c.as_slice-insts.ensures)
    ∙ slice_get_past c.as_slice-insts.result.now st.frame.next c.in-None.ensures.lookup.3 in
    let jumps = subst (λ o. IfOk c.jump.result (λ end. ends o ≡ stepped c.jump.new.state end)) (sym c.in-Some-jump.is) c.jump.ensures in
    subst (λ o. IfOk c.jump.result (λ end. turn o ≡ stepped c.jump.new.state end)) (sym none) jumps

pub returns-in-None-jump : goal.returns-in-None-jump
returns-in-None-jump c =
    let p = program_of c.args.prepared.now in
    let st = c.args.state.now in
    let b = c.args.block.now in
    let env = env_of p (shown c.args.function.now) in
    let turn = λ (o : Option (Lined Inst)). react p st (turn_in env (act_of st.frame) st.memory b o) in
    let ends = λ (o : Option (Lined Jump)). react p st (end_effect env b.label (locals_of st.frame) st.memory o) in
    let none = sym (ap (λ is. slice_get is st.frame.next) c.as_slice-insts.ensures)
    ∙ slice_get_past c.as_slice-insts.result.now st.frame.next c.in-None.ensures.lookup.3 in
    ap turn none ∙ ap ends c.in-None-jump.is
