use Rattle.std.proofs.Common.{◌≡◌, ◌∙◌, ap, subst, sym, List, Bool, Option, Some, None, MatchBool}
use Rattle.il_ast.specs.declared.value.Value.{Value}
use Rattle.il_ast.specs.Prelude.{phi_values, with_phis}
use Rattle.obj_link.specs.Prelude.{shown}
use Rattle.il_types.specs.Prelude.{are_all_distinct}
use Rattle.il_interp.specs.Machine.{program_of, On, env_of}
use Rattle.il_interp.proofs.HopLemmas.{entering, entering_none}
use Rattle.il_interp.proofs.LabelLemmas.{program_distinct}
use Rattle.il_interp.proofs.jump.enter.Goals as goal

pub read_phis-requires : goal.read_phis-requires
read_phis-requires c =
    ap are_all_distinct c.as_slice-phis.ensures
    ∙ program_distinct c.args.prepared.now.linked.now c.args.state.now.frame.function (shown c.args.function.now) c.requires c.in-Some.place c.in-Some.block.now c.in-Some.ensures.1

pub returns-then-branch : goal.returns-then-branch
returns-then-branch c =
    let p = program_of c.args.prepared.now in
    let st = c.args.state.now in
    let f = shown c.args.function.now in
    let phis = c.as_slice-phis.result.now in
    let values = phi_values (env_of p f).globals st.frame.temps c.args.from phis in
    let read = subst (λ (all : Bool). MatchBool all (values ≡ Some c.read_phis.new.values.items) (values ≡ None)) c.if-branch.true c.in_ok-read_phis-in-Some.ensures in
    let written = c.write_phis.ensures ∙ ap (with_phis st.frame.temps phis) c.as_slice.ensures.value in
    entering p f st c.args.from c.args.label c.in-Some.place c.in-Some.block.now phis _ c.in-Some.ensures.0 c.in-Some.ensures.1 c.as_slice-phis.ensures read
    ∙ ap (λ (ts : List (Option Value)). On (record st { frame = record st.frame { block = c.in-Some.place; next = 0; temps = ts } })) (sym written)

pub returns-else-branch : goal.returns-else-branch
returns-else-branch c =
    let p = program_of c.args.prepared.now in
    let st = c.args.state.now in
    let f = shown c.args.function.now in
    let phis = c.as_slice-phis.result.now in
    let values = phi_values (env_of p f).globals st.frame.temps c.args.from phis in
    let read = subst (λ (all : Bool). MatchBool all (values ≡ Some c.read_phis.new.values.items) (values ≡ None)) c.if-branch.false c.in_ok-read_phis-in-Some.ensures in
    entering p f st c.args.from c.args.label c.in-Some.place c.in-Some.block.now phis _ c.in-Some.ensures.0 c.in-Some.ensures.1 c.as_slice-phis.ensures read

pub returns-in-None : goal.returns-in-None
returns-in-None c =
    entering_none (program_of c.args.prepared.now) (shown c.args.function.now) c.args.state.now c.args.from c.args.label c.in-None.ensures
