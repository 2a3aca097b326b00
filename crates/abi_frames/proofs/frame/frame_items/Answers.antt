use Rattle.std.proofs.Common.{◌≤◌, sym, subst, List, ℕ, length}
use Rattle.abi_frames.proofs.Joining.{items_are}
use Rattle.abi_frames.proofs.Saving.{few_saved_registers}
use Rattle.abi_frames.proofs.frame.frame_items.Goals as goal

pub push_function-requires-clause-few_saved : goal.push_function-requires-clause-few_saved
push_function-requires-clause-few_saved c =
    subst (λ (rs : List ℕ). length rs ≤ 13) (sym c.requires.registers) (few_saved_registers c.args.function.now.located.code)

pub returns : goal.returns
returns c =
    items_are _ _ _ _ _ _ _ _ _ _ c.in_ok-push_function.ensures c.new-items.ensures.items c.requires.plan c.requires.registers c.as_slice.ensures c.as_slice-2.ensures
