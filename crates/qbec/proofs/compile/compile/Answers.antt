use Rattle.std.proofs.Common.{ℕ, List, Bor, map, subst}
use Rattle.il_types.specs.declared.checked.Checked.{Checked}
use Rattle.obj_link.specs.Prelude.{Refuses as LinkRefuses}
use Rattle.headline.proofs.GoodFunctions.{functions_are_good}
use Rattle.qbec.proofs.CompileLemmas.{link_says}
use Rattle.qbec.proofs.compile.compile.Goals as goal

pub compiled-requires-clause-good : goal.compiled-requires-clause-good
compiled-requires-clause-good g c = functions_are_good c.as_slice.result.now c.in-Ok-resolve.linked c.in-Ok-resolve.ensures.truth

pub returns-in-Ok-clause-refused : goal.returns-in-Ok-clause-refused
returns-in-Ok-clause-refused g c =
    let truth = subst (λ (xs : List Checked). LinkRefuses c.in-Err-resolve.error xs) c.as_slice.ensures.value c.in-Err-resolve.ensures.truth in
    link_says (map (λ (t : Bor (List ℕ)). t.now) c.args.texts.now) c.in-Ok.checked.items c.in-Ok.ensures.found c.in-Err-resolve.error c.link_refusal.result c.link_refusal.ensures truth
