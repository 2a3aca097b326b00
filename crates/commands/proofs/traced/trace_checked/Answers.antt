use Rattle.std.proofs.Common.{ℕ, List, Bor, map, refl}
use Rattle.std.proofs.lemmas.Result.{IfErr-weaker}
use Rattle.obj_link.specs.Prelude.{program}
use Rattle.qbec.proofs.CompileLemmas.{link_says}
use Rattle.commands.specs.Refusals.{compile_refusal}
use Rattle.commands.proofs.Ending.{texts_fail, texts_refused}
use Rattle.commands.proofs.Refusing.{as_compiled}
use Rattle.commands.proofs.traced.trace_checked.Goals as goal

pub returns-in-Err-clause-fails : goal.returns-in-Err-clause-fails
returns-in-Err-clause-fails g c = λ are.
    let texts = (map (λ (t : Bor (List ℕ)). t.now) c.args.texts.now) in
    let words = (map (λ (w : Bor (List ℕ)). w.now) c.args.words.now) in
    texts_refused texts words c.args.turns (g.O.Sink.told c.args.out.now) c.from.result
    (as_compiled texts words c.from.result c.link_refusal.result (compile_refusal c.link_refusal.result)
    (link_says texts c.args.checked.now are c.in-Err.error c.link_refusal.result c.link_refusal.ensures c.in-Err.ensures.truth) refl c.from.ensures)

pub returns-in-Ok-clause-fails : goal.returns-in-Ok-clause-fails
returns-in-Ok-clause-fails g c = λ are.
    let texts = (map (λ (t : Bor (List ℕ)). t.now) c.args.texts.now) in
    let words = (map (λ (w : Bor (List ℕ)). w.now) c.args.words.now) in
    IfErr-weaker c.trace_linked.result _ _
    (λ f h.
    texts_fail texts words (program c.in-Ok.linked) c.args.turns (g.O.Sink.told c.args.out.now) (g.O.Sink.told c.trace_linked.new.out) f
    (record { checked = c.args.checked.now; are = are; is = c.in-Ok.ensures.truth.is_program }) h)
    c.trace_linked.ensures.fails
