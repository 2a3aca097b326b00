use Rattle.std.proofs.Common.{◌∙◌, ap, map, refl, List, [], ℕ, Bor}
use Rattle.obj_link.specs.Prelude.{program}
use Rattle.il_interp.specs.Machine.{Over}
use Rattle.il_interp.specs.Begun.{begun_next}
use Rattle.il_interp.proofs.PieceLaws.{begins_empty, begun_means}
use Rattle.il_interp.proofs.RunLemmas.{behaves, run_means}
use Rattle.il_interp.proofs.pieces.begin_to_run.Goals as goal

pub returns-in-Ok-clause-means : goal.returns-in-Ok-clause-means
returns-in-Ok-clause-means c =
    begun_means c.args.linked.now _ (map (λ (w : Bor (List ℕ)). w.now) c.args.words.now) c.in_ok-prepared.ensures (c.in_ok-state.ensures ∙ ap begun_next c.in-Ok.is)

pub returns-in-Ok-clause-empty : goal.returns-in-Ok-clause-empty
returns-in-Ok-clause-empty c =
    begins_empty (program c.in_ok-prepared.prepared.linked.now) (map (λ (w : Bor (List ℕ)). w.now) c.args.words.now) c.in-Ok.state
    (c.in_ok-state.ensures ∙ ap begun_next c.in-Ok.is)

pub returns-clause-means : goal.returns-clause-means
returns-clause-means c = λ n.
    run_means c.args.linked.now c.in_ok-prepared.prepared.linked.now (map (λ (w : Bor (List ℕ)). w.now) c.args.words.now) n
    (Over [] c.in-Err.end) (behaves [] c.in-Err.end) c.in_ok-prepared.ensures (c.in_ok-state.ensures ∙ ap begun_next c.in-Err.is) refl
