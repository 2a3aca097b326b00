use Rattle.std.proofs.Common.{◌∙◌, ap, ◌++◌, ◌∷◌, [], slice_set}
use Rattle.il_ast.specs.declared.value.Cell.TheVariants.{Blank}
use Rattle.il_mem.proofs.JoinedLemmas.{set_last}
use Rattle.il_mem.proofs.block.Block.push.Goals as goal

pub returns : goal.returns
returns c =
    c.set.ensures
    ∙ (ap (λ cells. slice_set cells c.len-at.result c.args.cell) c.in_ok-push_blank.ensures
    ∙ (ap (λ at. slice_set (c.args.self.now ++ Blank ∷ []) at c.args.cell) c.len-at.ensures ∙ set_last c.args.self.now Blank c.args.cell))
