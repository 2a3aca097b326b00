use Rattle.std.proofs.Common.{◌≤◌, List, sym, ap, ◌∙◌, subst, arith}
use Rattle.std.specs.List.{list_all, sum_by}
use Rattle.il_ast.specs.declared.limits.TheConstants.{FUNCTION_WEIGHT}
use Rattle.vcode.specs.declared.code.Block.{Block}
use Rattle.vcode.specs.declared.place.Destination.{Destination}
use Rattle.vcode.specs.Prelude.{are_distinct, weight_of}
use Rattle.step_by_step.proofs.code_text.rules.check.is_function.Goals as goal

pub returns : goal.returns
returns g c =
    λ apart. record {
      few = (let h = c.if-count-ge-PLACES.false in omega (arith, h));
      regular = c.is_regular.ensures c.if-not-is_regular.false;
      light = subst (λ (bs : List (Block g.row.P.Denot)). sum_by (λ (b : Block g.row.P.Denot). sum_by weight_of b.lines) bs ≤ FUNCTION_WEIGHT) c.as_slice.ensures (c.is_within.ensures c.if-not-is_within.false);
      known = sym c.names_places.ensures ∙ c.if-not-names_places.false;
      close = ap (λ (ds : List (Destination g.row.P.Denot)). list_all (λ d. g.P.CodePlace.near d.place) ds) (sym c.as_slice-2.ensures) ∙ sym c.are_near.ensures ∙ c.if-not-are_near.false;
      distinct = ap (λ (ds : List (Destination g.row.P.Denot)). are_distinct g.P.CodePlace.apart ds) (sym c.as_slice-3.ensures) ∙ sym c.are_distinct.ensures ∙ apart;
    }
