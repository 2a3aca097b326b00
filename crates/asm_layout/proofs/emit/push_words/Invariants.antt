use Rattle.std.proofs.Common.{◌≡◌, ◌+◌, ◌≤◌, drop, length}
use Rattle.rv_isa.specs.Prelude.{longest_size}
use Rattle.asm_layout.specs.Forms.{words_with, no_address, AllFit}
use Rattle.asm_layout.proofs.emit.push_words.Given as goal

abbrev pub invariant-loop-item : goal.invariant-loop-item
invariant-loop-item l =
    (words_with l.far l.places no_address l.here l.words.items (drop l.item-index l.items)
    ≡ words_with l.fn.far l.fn.places no_address 0 l.fn.words.items l.fn.items)
    × AllFit l.far l.places l.here (length l.words.items) (drop l.item-index l.items)
    × (l.here + longest_size (drop l.item-index l.items) ≡ longest_size l.fn.items)
    × (length l.words.items ≤ l.here)
