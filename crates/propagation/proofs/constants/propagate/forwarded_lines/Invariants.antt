use Rattle.std.proofs.Common.{◌≡◌, ◌<◌, ◌^◌, ◌+◌, ℕ, List, ◌++◌, length, drop}
use Rattle.vcode.specs.declared.line.Line.{Line}
use Rattle.vcode.specs.declared.line.Jump.{Jump}
use Rattle.propagation.specs.declared.constants.claim.Entry.{Entry}
use Rattle.propagation.specs.FactTable.{facts_of, IsTable}
use Rattle.propagation.specs.Forwarded.{AreForwarded}
use Rattle.propagation.proofs.constants.propagate.forwarded_lines.Given as goal

abbrev pub invariant-loop-line : goal.invariant-loop-line
invariant-loop-line l =
    record {
      table : IsTable l.table;
      clock : l.table.clock ≡ l.fn.table.clock + l.line-index;
      runs : l.fn.table.clock + length l.fn.lines < 2 ^ 128;
      count : length l.table.written.items ≡ length l.fn.table.written.items;
      made :
          (es : List Entry) (rest whole : List (Line ℕ)) (j k : Jump ℕ) → AreForwarded (length l.fn.table.written.items) es whole (facts_of l.table) (drop l.line-index l.lines) rest j k
          → AreForwarded (length l.fn.table.written.items) es whole (facts_of l.fn.table) l.fn.lines (l.made.items ++ rest) j k;
    }
