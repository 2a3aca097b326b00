use Rattle.std.proofs.Common.{◌≡◌, ◌<◌, ◌||◌, ℕ, drop, length}
use Rattle.std.specs.List.{list_any}
use Rattle.abi_frames.specs.Performs.{writes, is_marked}
use Rattle.abi_frames.proofs.saved.mark_lines.Given as goal

abbrev pub invariant-loop-line : goal.invariant-loop-line
invariant-loop-line l =
    (length l.marks ≡ length l.fn.marks)
    × ((n : ℕ) → n < length l.fn.marks
    → (is_marked l.marks n || list_any (writes n) (drop l.line-index l.lines)) ≡ (is_marked l.fn.marks n || list_any (writes n) l.fn.lines))
