use Rattle.std.proofs.Common.{ap, ◌∙◌, ◌≡◌, List, ℕ, replicate}
use Rattle.il_mem.specs.declared.block.Mark.{Mark}
use Rattle.il_mem.specs.declared.block.Mark.TheVariants.{Blank}
use Rattle.il_mem.specs.Joined.{joined, overlaid}
use Rattle.il_mem.proofs.JoinedLemmas.{joined-blank}
use Rattle.il_mem.proofs.block.Block.blank.Goals as goal

pub returns : goal.returns
returns c =
    let marks : c.in_ok-marks.marks.items ≡ replicate c.args.size Blank = c.in_ok-marks.ensures.items_if_clones_equal (λ y e. e) in
    ap (λ (bs : List ℕ). overlaid bs (joined c.in_ok-marks.marks.items c.in_ok-values.values.items)) c.in_ok-bytes.ensures.items
    ∙ (ap (λ (ms : List Mark). joined ms c.in_ok-values.values.items) marks ∙ joined-blank c.args.size c.in_ok-values.values.items)
