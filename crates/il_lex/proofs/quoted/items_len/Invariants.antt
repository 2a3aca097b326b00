use Rattle.std.proofs.Common.{◌≡◌, ◌+◌, ◌≤◌, length}
use Rattle.il_lex.specs.Scan.{items_len}
use Rattle.il_lex.proofs.quoted.items_len.Given as goal

-- each turn has passed one item at least
abbrev pub invariant-loop : goal.invariant-loop
invariant-loop l =
    (l.len + items_len (length l.rest) l.rest ≡ items_len (length l.bytes) l.bytes)
    × (l.len + length l.rest ≡ length l.bytes)
    × (l.counter ≤ l.len)
