use Rattle.std.proofs.Common.{◌≡◌, ℕ, length}
use Rattle.rv_machine.specs.Pages.{page_in}
use Rattle.rv_machine.proofs.pages.extend_to.Given as goal

abbrev pub invariant-loop-made : goal.invariant-loop-made
invariant-loop-made l = (length l.pages.items ≡ l.made) × ((k : ℕ) → page_in l.pages.items k ≡ page_in l.fn.pages.items k)
