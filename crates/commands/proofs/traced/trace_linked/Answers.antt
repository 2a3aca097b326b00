use Rattle.std.proofs.Common.{◌∙◌, ap, map, List, ℕ, Bor, inr}
use Rattle.std.proofs.lemmas.Result.{IfErr-weaker}
use Rattle.il_ast.specs.Prelude.{meaning}
use Rattle.obj_link.specs.Prelude.{program}
use Rattle.il_interp.specs.Machine.{begun_as, comes_to}
use Rattle.commands.proofs.Ending.{fails_as}
use Rattle.commands.proofs.traced.trace_linked.Goals as goal

pub returns-in-Ok-Ok-clause-fails : goal.returns-in-Ok-Ok-clause-fails
returns-in-Ok-Ok-clause-fails g c =
    IfErr-weaker c.trace_running.result _ _
    (λ f h.
    inr (
      c.in-Ok-Ok.ensures.fit,
      fails_as (comes_to c.in-Ok-Ok.running) (meaning (program c.args.linked.now) (map (λ (w : Bor (List ℕ)). w.now) c.args.words.now)) c.args.turns (g.O.Sink.told c.args.out.now) (g.O.Sink.told c.trace_running.new.out) f
          (λ n. c.in-Ok-Ok.ensures.means n ∙ ap (λ b. begun_as b n) c.in-Ok-Ok.field-0-is) h,
    ))
    c.trace_running.ensures.fails
