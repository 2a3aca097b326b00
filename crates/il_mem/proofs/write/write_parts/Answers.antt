use Rattle.std.proofs.Common.{◌∙◌, ◌+◌, ℕ, ap, length, slice_set, length-set}
use Rattle.il_ast.specs.declared.value.Cell.TheVariants.{Part}
use Rattle.il_ast.specs.Prelude.{parts}
use Rattle.il_mem.proofs.Writing.{written_next, parts_next}
use Rattle.il_mem.proofs.write.write_parts.Goals as goal

pub loop-index-preserved : goal.loop-index-preserved
loop-index-preserved c = (
  written_next c.args.to c.loop-index.index (parts c.args.value) c.loop-index.block c.set.new.self _ _
      (parts_next c.args.value c.loop-index.index c.loop-index-test.true)
      (c.set.ensures ∙ ap (λ (j : ℕ). slice_set c.loop-index.block (c.args.to + j) (Part c.args.value c.loop-index.index)) c.from.ensures)
      c.loop-index.invariant.0,
  ap length c.set.ensures ∙ (length-set _ _ _ ∙ c.loop-index.invariant.1),
)
