use Rattle.std.proofs.Common.{◌≡◌, ◌∙◌, ap, subst, sym, List, Bool, Some, MatchBool, option_map}
use Rattle.il_ast.specs.declared.block.Phi.{Phi}
use Rattle.il_ast.specs.declared.value.Value.{Value}
use Rattle.il_ast.specs.Prelude.{phi_values, with_phis}
use Rattle.obj_link.specs.Prelude.{shown}
use Rattle.il_types.specs.Prelude.{are_all_distinct}
use Rattle.il_interp.specs.Machine.{program_of}
use Rattle.il_interp.proofs.HopLemmas.{enters}
use Rattle.il_interp.proofs.LabelLemmas.{program_distinct}
use Rattle.il_interp.proofs.hops.enter.Goals as goal

pub take_numbers-requires : goal.take_numbers-requires
take_numbers-requires c =
    ap are_all_distinct c.as_slice-phis.ensures
    ∙ program_distinct c.args.prepared.now.linked.now c.args.frame.now.function (shown c.args.function.now) c.requires c.in-Some.place c.in-Some.block.now c.in-Some.ensures.1

pub returns-then-branch-clause-enters : goal.returns-then-branch-clause-enters
returns-then-branch-clause-enters c =
    let old = c.args.frame.now in
    let taken = subst (λ (all : Bool). MatchBool all ((globals : List Value) → option_map (with_phis old.temps c.as_slice-phis.result.now) (phi_values globals old.temps c.args.from c.as_slice-phis.result.now) ≡ Some c.take_numbers.new.temps) (c.take_numbers.new.temps ≡ old.temps))
    c.if-branch.true c.in_ok-take_numbers-in-Some.ensures
    in
    enters (program_of c.args.prepared.now) (shown c.args.function.now) c.args.from c.args.label c.in-Some.place c.in-Some.block.now old c.take_numbers.new.temps c.in-Some.ensures.0 c.in-Some.ensures.1
    (λ globals. ap (λ (ps : List Phi). option_map (with_phis old.temps ps) (phi_values globals old.temps c.args.from ps)) (sym c.as_slice-phis.ensures) ∙ taken globals)
