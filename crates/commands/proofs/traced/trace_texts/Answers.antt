use Rattle.std.proofs.Common.{ℕ, List, Bor, map, refl, subst, sym}
use Rattle.qbec.specs.Refusals.{AreTexts}
use Rattle.commands.specs.Refusals.{compile_refusal}
use Rattle.commands.proofs.Ending.{texts_refused}
use Rattle.commands.proofs.Refusing.{as_compiled}
use Rattle.commands.proofs.traced.trace_texts.Goals as goal

pub returns-in-Err-clause-fails : goal.returns-in-Err-clause-fails
returns-in-Err-clause-fails g c =
    let texts = (map (λ (t : Bor (List ℕ)). t.now) c.args.texts.now) in
    let words = (map (λ (w : Bor (List ℕ)). w.now) c.args.words.now) in
    texts_refused texts words c.args.turns (g.O.Sink.told c.args.out.now) c.from.result
    (as_compiled texts words c.from.result c.in-Err.error (compile_refusal c.in-Err.error) c.in-Err.ensures.says refl c.from.ensures)

pub returns-in-Ok-clause-means : goal.returns-in-Ok-clause-means
returns-in-Ok-clause-means g c =
    let texts = (map (λ (t : Bor (List ℕ)). t.now) c.args.texts.now) in
    c.trace_checked.ensures.means (subst (AreTexts texts) (sym c.as_slice.ensures.value) c.in-Ok.ensures.found)

pub returns-in-Ok-clause-fails : goal.returns-in-Ok-clause-fails
returns-in-Ok-clause-fails g c =
    let texts = (map (λ (t : Bor (List ℕ)). t.now) c.args.texts.now) in
    c.trace_checked.ensures.fails (subst (AreTexts texts) (sym c.as_slice.ensures.value) c.in-Ok.ensures.found)
