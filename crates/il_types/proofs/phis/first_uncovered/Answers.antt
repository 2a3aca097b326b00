use Rattle.std.proofs.Common.{◌∙◌, ap, sym, not}
use Rattle.il_ast.specs.declared.block.Phi.{Phi}
use Rattle.il_types.specs.Prelude.{when, covers_by}
use Rattle.il_types.proofs.OneMore.{first_on}
use Rattle.il_types.proofs.phis.first_uncovered.Goals as goal

pub loop-phi-preserved : goal.loop-phi-preserved
loop-phi-preserved c = (
  first_on (λ (p : Phi). when (not (covers_by c.args.predecessors.now p.args)) p.line) c.args.phis.now c.loop-phi.phi-index c.phi-item.result _ c.loop-phi-test.true c.phi-item.is
      (ap (λ b. when (not b) c.phi-item.result.line) (ap (covers_by c.args.predecessors.now) (sym c.as_slice-args.ensures) ∙ (sym c.in_ok-covers_by.ensures.covers ∙ c.if-not-branch.false))) c.loop-phi.invariant.0,
  c.in_ok-covers_by.ensures.tally,
)
