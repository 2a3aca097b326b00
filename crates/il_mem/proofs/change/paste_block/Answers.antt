use Rattle.std.proofs.Common.{◌∙◌, sym, ap, Some}
use Rattle.il_ast.specs.Prelude.{span}
use Rattle.il_mem.specs.Changed.{cells_put}
use Rattle.il_mem.proofs.Putting.{inside_of, pasted, changes}
use Rattle.il_mem.proofs.change.paste_block.Goals as goal

pub returns : goal.returns
returns c =
    changes (cells_put c.args.at (span c.args.from c.args.count c.args.source.now)) c.args.block.now c.copy_across.new.block
    (pasted c.args.at c.args.from c.args.count c.args.source.now c.args.block.now
    (inside_of _ _ _ c.has_span.ensures c.if-not-has_span.false)
    (inside_of _ _ _ c.has_span-2.ensures c.if-not-has_span-2.false)
    ∙ ap (λ xs. Some xs) (sym c.copy_across.ensures))
