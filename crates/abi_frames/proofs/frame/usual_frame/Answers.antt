use Rattle.std.proofs.Common.{◌≡◌, ◌+◌, ◌*◌, ◌≤◌, ◌∙◌, sym, ap, subst, List, ℕ, length}
use Rattle.rv_isa.specs.Prelude.{IsLabelled, longest_size}
use Rattle.abi_frames.proofs.Shared.{Item, Location, Block}
use Rattle.vcode.specs.Prelude.{code_weight}
use Rattle.abi_frames.specs.Functions.{frame_items, IsFrameOf}
use Rattle.abi_frames.proofs.Promising.{code_of, frames_are_labelled, frames_are_small, frames_perform}
use Rattle.abi_frames.proofs.frame.usual_frame.Goals as goal

pub new-requires : goal.new-requires
new-requires c =
    let l = c.args.function.now.located in
    let labels : length l.code.blocks + 2 ≡ length c.as_slice-blocks.result.now + 2 = ap (λ (bs : List (Block Location)). length bs + 2) (sym c.as_slice-blocks.ensures) in
    subst (λ (is : List Item). IsLabelled (record { items = is; labels = length c.as_slice-blocks.result.now + 2 })) (sym c.in_ok-items.ensures)
    (subst (λ (n : ℕ). IsLabelled (record { items = frame_items l.code l.slots; labels = n })) labels (frames_are_labelled l.code l.slots (code_of l)))

pub returns-clause-promise : goal.returns-clause-promise
returns-clause-promise c =
    let l = c.args.function.now.located in
    let whole : c.new.result.items ≡ frame_items l.code l.slots = ap (λ k. k.items) c.new.ensures ∙ c.in_ok-items.ensures in
    subst (IsFrameOf l.code l.slots) (sym whole) (frames_perform l.code l.slots (code_of l))

pub returns-clause-size : goal.returns-clause-size
returns-clause-size c =
    let l = c.args.function.now.located in
    let whole : c.new.result.items ≡ frame_items l.code l.slots = ap (λ k. k.items) c.new.ensures ∙ c.in_ok-items.ensures in
    subst (λ (is : List Item). longest_size is ≤ 32 * code_weight l.code + 256) (sym whole)
    (frames_are_small l.code l.slots (code_of l))
