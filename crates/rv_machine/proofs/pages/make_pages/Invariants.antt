use Rattle.std.proofs.Common.{◌≡◌, ◌<◌, ◌≤◌, ℕ, IsSome}
use Rattle.rv_machine.specs.Pages.{page_in, paged_byte, AllPermit}
use Rattle.rv_machine.proofs.pages.make_pages.Given as goal

abbrev pub invariant-loop-k : goal.invariant-loop-k
invariant-loop-k l =
    ((j : ℕ) → l.first ≤ j → j < l.k → IsSome (page_in l.pages.items j)) × (paged_byte l.regions l.pages.items ≡ paged_byte l.regions l.fn.pages.items) × AllPermit l.regions l.pages.items
