use Rattle.std.proofs.Common.{◌∙◌, ap, sym, arith}
use Rattle.std.proofs.lemmas.Grind.{common_steps}
use Rattle.obj_link.specs.Prelude.{meaning_in}
use Rattle.obj_link.proofs.TargetLemmas.{symbols_further, unknown_at}
use Rattle.obj_link.proofs.linking.targets.symbol_targets.Goals as goal

pub loop-symbol-preserved : goal.loop-symbol-preserved
loop-symbol-preserved c =
    let further = symbols_further (meaning_in c.args.owned.now c.args.exports.now c.args.text) c.args.symbols.now c.loop-symbol.symbol c.index-symbols-symbol.result c.in-Some.target c.loop-symbol.found.items
    c.loop-symbol-test.true c.index-symbols-symbol.is (ap (meaning_in c.args.owned.now c.args.exports.now c.args.text c.loop-symbol.symbol) (sym c.as_slice.ensures) ∙ (sym c.target_of.ensures ∙ c.in-Some.is)) in
    grind (arith, further)

pub returns-in-None : goal.returns-in-None
returns-in-None c =
    unknown_at (meaning_in c.args.owned.now c.args.exports.now c.args.text) c.args.symbols.now c.loop-symbol.symbol c.index-symbols-symbol.result c.as_slice.result.now c.as_slice-in-None.result.now c.target_of.result
    c.loop-symbol-test.true c.index-symbols-symbol.is c.as_slice.ensures c.as_slice-in-None.ensures c.target_of.ensures c.in-None.is

pub returns-in_err-map_err-in-Some : goal.returns-in_err-map_err-in-Some
returns-in_err-map_err-in-Some c = grind (arith, common_steps)
