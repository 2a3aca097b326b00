use Rattle.std.proofs.Common.{◌≡◌, ◌++◌, drop}
use Rattle.propagation.specs.Copied.{reading_lines, known_behind}
use Rattle.propagation.proofs.copies.read.lines.Given as goal

abbrev pub invariant-loop-item : goal.invariant-loop-item
invariant-loop-item l =
    record {
      made : l.made.items ++ reading_lines l.known.copies.items (drop l.item-index l.from) ≡ reading_lines l.fn.known.copies.items l.fn.from;
      known : known_behind l.known.copies.items (drop l.item-index l.from) ≡ known_behind l.fn.known.copies.items l.fn.from;
    }
