use Rattle.std.proofs.Common.{◌≡◌, ℕ, List, [], ◌++◌, ◌∙◌, ap}
use Rattle.abi_frames.proofs.Shared.{Location, Code}
use Rattle.abi_frames.specs.Performs.{written_of, callee_saved, return_address, saved_registers}
use Rattle.abi_frames.proofs.saved.saved_registers.Goals as goal

-- the return address, and the registers that are written
put_after : (f : Code Location) (o p q : List ℕ) → o ≡ [] → p ≡ o ++ return_address f → q ≡ p ++ written_of f callee_saved → q ≡ saved_registers f
unfolding saved_registers
put_after f o p q e h k =
    k ∙ (ap (λ l. l ++ written_of f callee_saved) h ∙ ap (λ l. (l ++ return_address f) ++ written_of f callee_saved) e)

pub returns : goal.returns
returns c = put_after c.args.code.now _ _ _ c.new-saved.ensures.items c.in_ok-push_return_address.ensures c.in_ok-push_written.ensures
