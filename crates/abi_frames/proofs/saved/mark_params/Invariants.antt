use Rattle.std.proofs.Common.{◌≡◌, ◌<◌, ◌||◌, ℕ, drop, length}
use Rattle.std.specs.List.{list_any}
use Rattle.abi_frames.specs.Performs.{is_register, is_marked}
use Rattle.abi_frames.proofs.saved.mark_params.Given as goal

abbrev pub invariant-loop-parameter : goal.invariant-loop-parameter
invariant-loop-parameter l =
    (length l.marks ≡ length l.fn.marks)
    × ((n : ℕ) → n < length l.fn.marks
    → (is_marked l.marks n || list_any (λ d. is_register n d.place) (drop l.parameter-index l.params)) ≡ (is_marked l.fn.marks n || list_any (λ d. is_register n d.place) l.fn.params))
