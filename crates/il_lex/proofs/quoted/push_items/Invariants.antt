use Rattle.std.proofs.Common.{◌≡◌, ◌+◌, ◌≤◌, ◌++◌, length}
use Rattle.il_lex.specs.Scan.{items}
use Rattle.il_lex.proofs.quoted.push_items.Given as goal

-- each turn has passed one item at least
abbrev pub invariant-loop : goal.invariant-loop
invariant-loop l =
    (l.out.items ++ items (length l.rest) l.rest ≡ l.fn.out.items ++ items (length l.bytes) l.bytes)
    × (l.counter + length l.rest ≤ length l.bytes)
