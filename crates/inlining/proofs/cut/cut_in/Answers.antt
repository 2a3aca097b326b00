use Rattle.std.proofs.Common.{◌+◌, not, List, drop, ℕ, sym, ap, ◌∙◌, arith}
use Rattle.std.specs.List.{list_any}
use Rattle.vcode.specs.declared.line.Line.{Line}
use Rattle.vcode.specs.Prelude.{is_alloc}
use Rattle.inlining.proofs.Listing.{none_later}
use Rattle.inlining.proofs.cut.cut_in.Goals as goal

pub cut_at-requires-clause-plain : goal.cut_at-requires-clause-plain
cut_at-requires-clause-plain c =
    let start = c.up_to_allocs-start.result in
    let number = c.loop-number.number in
    let low = c.if-start-number.true in
    let none = ap (λ (ls : List (Line ℕ)). list_any is_alloc (drop start ls)) (sym c.as_slice-lines.ensures) ∙ c.up_to_allocs-start.ensures in
    ap not (none_later is_alloc start (number + 1) c.args.block.now.lines (omega (arith, low)) none)
