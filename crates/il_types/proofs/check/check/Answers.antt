use Rattle.std.proofs.Common.{◌≡◌, ◌∙◌, sym, Some, None}
use Rattle.il_types.proofs.FaultLemmas.{text_breaks, text_keeps}
use Rattle.il_types.proofs.check.check.Goals as goal

pub invariant_of-result : goal.invariant_of-result
invariant_of-result c =
    record {
      good = record {
        rules = text_keeps c.args.text (sym c.in_ok-fault.ensures ∙ c.in-None.is);
        limits = sym c.within_limits.ensures ∙ c.if-not-within_limits.false;
      };
    }

pub returns-in-Some-clause-truth : goal.returns-in-Some-clause-truth
returns-in-Some-clause-truth c = text_breaks c.args.text c.in-Some.fault (sym c.in_ok-fault.ensures ∙ c.in-Some.is)

pub returns-in-Some-clause-good : goal.returns-in-Some-clause-good
returns-in-Some-clause-good c =
    λ g. let bad : None ≡ Some c.in-Some.fault.line =
    sym (g.rules c.in-Some.fault.rule) ∙ text_breaks c.args.text c.in-Some.fault (sym c.in_ok-fault.ensures ∙ c.in-Some.is) in
    cc
