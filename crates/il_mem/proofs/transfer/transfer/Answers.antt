use Rattle.std.proofs.Common.{◌∙◌, ap, refl, length-set, slice_set}
use Rattle.il_mem.proofs.FoundLemmas.{pasted_across}
use Rattle.il_mem.proofs.transfer.transfer.Goals as goal

pub returns-clause-changes : goal.returns-clause-changes
returns-clause-changes c =
    pasted_across c.args.live.now.items (slice_set c.args.live.now.items c.args.source c.replace-cells.new.dest) _ _ c.args.source c.args.target c.args.at c.args.from c.args.count
    c.replace-cells.result c.index_mut.result.now c.index_mut-2.result.now c.paste_block-pasted.new.block c.paste_block-pasted.result
    c.requires.source c.requires.target c.requires.apart c.index_mut.ensures.value c.replace-cells.ensures.value
    (ap (λ x. slice_set c.args.live.now.items c.args.source x) (c.replace-cells.ensures.after ∙ c.empty.ensures))
    c.index_mut-2.ensures.value refl refl c.paste_block-pasted.ensures

pub returns-clause-many : goal.returns-clause-many
returns-clause-many c = length-set _ _ _ ∙ (length-set _ _ _ ∙ length-set _ _ _)
