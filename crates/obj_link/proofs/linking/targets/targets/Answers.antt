use Rattle.std.proofs.Common.{◌∙◌, ap, sym, subst, arith}
use Rattle.std.proofs.lemmas.Grind.{common_steps}
use Rattle.obj_link.specs.Prelude.{meaning_in, symbols_by, RefusesSymbols}
use Rattle.obj_link.proofs.TargetLemmas.{texts_further, refused_in}
use Rattle.obj_link.proofs.linking.targets.targets.Goals as goal

pub loop-text-preserved : goal.loop-text-preserved
loop-text-preserved c =
    let further = texts_further (meaning_in c.args.owned.now c.args.exports.now) c.args.texts.now c.loop-text.text c.index-texts-text.result c.in-Ok.targets.items c.loop-text.found.items
    c.loop-text-test.true c.index-texts-text.is (ap (symbols_by (meaning_in c.args.owned.now c.args.exports.now c.loop-text.text) 0) (sym c.as_slice-symbols.ensures) ∙ c.in-Ok.ensures) in
    grind (arith, further)

pub returns-in-Err : goal.returns-in-Err
returns-in-Err c =
    refused_in c.in-Err.error (meaning_in c.args.owned.now c.args.exports.now) c.args.texts.now c.loop-text.text c.index-texts-text.result c.loop-text-test.true c.index-texts-text.is
    (subst (RefusesSymbols c.in-Err.error (meaning_in c.args.owned.now c.args.exports.now c.loop-text.text)) c.as_slice-symbols.ensures c.in-Err.ensures)

pub returns-in_err-map_err-in-Ok : goal.returns-in_err-map_err-in-Ok
returns-in_err-map_err-in-Ok c = grind (arith, common_steps)
