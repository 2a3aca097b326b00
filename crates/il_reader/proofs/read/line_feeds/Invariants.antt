use Rattle.std.proofs.Common.{◌≡◌, ◌≤◌, take}
use Rattle.il_lex.specs.Next.{lines_in}
use Rattle.il_reader.proofs.read.line_feeds.Given as goal

abbrev pub invariant-loop-byte : goal.invariant-loop-byte
invariant-loop-byte l = (l.count ≡ lines_in (take l.byte-index l.bytes)) × (l.count ≤ l.byte-index)
