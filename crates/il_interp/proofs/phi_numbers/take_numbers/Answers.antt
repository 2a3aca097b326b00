use Rattle.std.proofs.Common.{◌≡◌, List, subst, sym, Some, MatchBool, option_map}
use Rattle.il_ast.specs.declared.block.Phi.{Phi}
use Rattle.il_ast.specs.declared.value.Value.{Value}
use Rattle.il_ast.specs.Prelude.{phi_values, with_phis}
use Rattle.il_interp.proofs.HopLemmas.{two_items}
use Rattle.il_interp.proofs.phi_numbers.take_numbers.Goals as goal

pub returns-in-len2 : goal.returns-in-len2
returns-in-len2 c =
    let old = c.args.temps.now in
    let new = c.take_two.new.temps in
    subst (λ (ps : List Phi). MatchBool c.take_two.result ((globals : List Value) → option_map (with_phis old ps) (phi_values globals old c.args.from ps) ≡ Some new) (new ≡ old))
    (sym (two_items c.args.phis.now c.one-item-then-phis-lt3.result c.two-item.result c.in-len2.len_at_least c.in-len2.len_below c.one-item-then-phis-lt3.is c.two-item.is))
    c.take_two.ensures
