use Rattle.std.proofs.Common.{◌≡◌, ◌∙◌, ◌+◌, true, sym, ap, subst, List, ℕ, arith, nat_le, length}
use Rattle.il_ast.specs.declared.limits.TheConstants.{FUNCTION_WEIGHT}
use Rattle.rv_isa.specs.Prelude.{IsLabelled, longest_size}
use Rattle.vcode.specs.Prelude.{code_weight}
use Rattle.abi_frames.proofs.Shared.{Item, Location, Block, leb-true}
use Rattle.abi_frames.specs.Functions.{price, marked_code, IsFrameOf}
use Rattle.abi_frames.proofs.Promising.{code_of, marked_are_labelled, marked_perform}
use Rattle.abi_frames.proofs.frame.marked_within.Goals as goal

pub new-requires : goal.new-requires
new-requires c =
    let l = c.args.function.now.located in
    let g = c.args.marked.now.code in
    let marks = c.args.marked.now.marks.items in
    let test : nat_le (longest_size (marked_code g l.slots marks)) (price l.code) ≡ true =
    sym (ap (λ (is : List Item). nat_le (longest_size is) (price l.code)) (c.as_slice.ensures.value ∙ c.in_ok-items.ensures))
    ∙ (ap (λ (n : ℕ). nat_le (longest_size c.as_slice.result.now) n) (sym c.price-most.ensures) ∙ (sym c.is_within.ensures ∙ c.if-is_within.true)) in
    let size = leb-true (longest_size (marked_code g l.slots marks)) (price l.code) test in
    let light = leb-true (code_weight l.code) FUNCTION_WEIGHT l.light in
    let labels : length g.blocks + 2 ≡ length c.as_slice-blocks.result.now + 2 = ap (λ (bs : List (Block Location)). length bs + 2) (sym c.as_slice-blocks.ensures) in
    subst (λ (is : List Item). IsLabelled (record { items = is; labels = length c.as_slice-blocks.result.now + 2 })) (sym c.in_ok-items.ensures)
    (subst (λ (n : ℕ). IsLabelled (record { items = marked_code g l.slots marks; labels = n })) labels
    (marked_are_labelled g l.slots marks c.requires.made.marked (omega (arith, size, light))))

pub returns-then-is_within-clause-promise : goal.returns-then-is_within-clause-promise
returns-then-is_within-clause-promise c =
    let l = c.args.function.now.located in
    let whole = ap (λ k. k.items) c.new.ensures ∙ c.in_ok-items.ensures in
    subst (IsFrameOf l.code l.slots) (sym whole)
    (marked_perform l.code l.slots c.args.marked.now.code c.args.marked.now.marks.items (code_of l) c.requires.made c.requires.same)
