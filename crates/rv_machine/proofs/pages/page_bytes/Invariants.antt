use Rattle.std.proofs.Common.{◌≡◌, ℕ, ◌+◌, ◌*◌, ◌<◌, length, get_or}
use Rattle.rv_machine.specs.Regions.{region_byte}
use Rattle.rv_machine.proofs.pages.page_bytes.Given as goal

abbrev pub invariant-loop-j : goal.invariant-loop-j
invariant-loop-j l = (length l.bytes.items ≡ l.j) × ((i : ℕ) → i < l.j → get_or l.bytes.items i 0 ≡ region_byte l.regions (4096 * l.k + i))
