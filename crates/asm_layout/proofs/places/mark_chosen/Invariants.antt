use Rattle.std.proofs.Common.{◌≡◌, ◌+◌, ◌≤◌, drop}
use Rattle.rv_isa.specs.Prelude.{longest_size}
use Rattle.asm_layout.specs.Forms.{chosen_places}
use Rattle.asm_layout.proofs.places.mark_chosen.Given as goal

abbrev pub invariant-loop-item : goal.invariant-loop-item
invariant-loop-item l =
    (chosen_places l.far l.here l.place l.places (drop l.item-index l.items) ≡ chosen_places l.fn.far 0 0 l.fn.places l.fn.items)
    × (l.here + longest_size (drop l.item-index l.items) ≡ longest_size l.fn.items)
    × (l.place ≤ l.here)
