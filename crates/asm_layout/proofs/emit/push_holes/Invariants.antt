use Rattle.std.proofs.Common.{◌≡◌, ◌+◌, ◌≤◌, drop}
use Rattle.rv_isa.specs.Prelude.{longest_size}
use Rattle.asm_layout.specs.Forms.{holes_with}
use Rattle.asm_layout.proofs.emit.push_holes.Given as goal

abbrev pub invariant-loop-item : goal.invariant-loop-item
invariant-loop-item l =
    (holes_with l.far l.here l.place l.holes.items (drop l.item-index l.items) ≡ holes_with l.fn.far 0 0 l.fn.holes.items l.fn.items)
    × (l.here + longest_size (drop l.item-index l.items) ≡ longest_size l.fn.items)
    × (l.place ≤ l.here)
