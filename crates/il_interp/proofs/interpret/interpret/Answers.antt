use Rattle.std.proofs.Common.{◌∙◌, sym, ap, map, List, [], ℕ, Bor}
use Rattle.il_interp.specs.Machine.{On, Over}
use Rattle.il_interp.specs.Begun.{begun_next}
use Rattle.il_interp.proofs.RunLemmas.{behaves, run_means}
use Rattle.il_interp.proofs.interpret.interpret.Goals as goal

pub returns-in-Ok-clause-exact : goal.returns-in-Ok-clause-exact
returns-in-Ok-clause-exact c =
    run_means c.args.linked.now c.in_ok-prepared.prepared.linked.now (map (λ (w : Bor (List ℕ)). w.now) c.args.words.now) c.args.turns
    (On c.in-Ok.state) (behaves c.in_ok-run-in-Ok.field-0.0.items c.in_ok-run-in-Ok.field-0.1) c.in_ok-prepared.ensures
    (c.in_ok-state.ensures ∙ ap begun_next c.in-Ok.is) c.in_ok-run-in-Ok.ensures

pub returns-clause-exact : goal.returns-clause-exact
returns-clause-exact c =
    run_means c.args.linked.now c.in_ok-prepared.prepared.linked.now (map (λ (w : Bor (List ℕ)). w.now) c.args.words.now) c.args.turns
    (Over [] c.in-Err.end) (behaves c.new.result.items c.in-Err.end) c.in_ok-prepared.ensures
    (c.in_ok-state.ensures ∙ ap begun_next c.in-Err.is) (ap (λ out. behaves out c.in-Err.end) (sym c.new.ensures.items))
