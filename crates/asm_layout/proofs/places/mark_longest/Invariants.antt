use Rattle.std.proofs.Common.{◌≡◌, ◌+◌, drop}
use Rattle.rv_isa.specs.Prelude.{longest_size}
use Rattle.asm_layout.specs.Forms.{longest_places}
use Rattle.asm_layout.proofs.places.mark_longest.Given as goal

abbrev pub invariant-loop-item : goal.invariant-loop-item
invariant-loop-item l =
    (longest_places l.here l.places (drop l.item-index l.items) ≡ longest_places 0 l.fn.places l.fn.items)
    × (l.here + longest_size (drop l.item-index l.items) ≡ longest_size l.fn.items)
