use Rattle.std.proofs.Common.{◌≡◌, ◌≤◌, ◌*◌, ◌^◌, ℕ, List, ◌++◌, length, drop}
use Rattle.vcode.specs.declared.code.Block.{Block}
use Rattle.propagation.specs.FactTable.{IsTable}
use Rattle.propagation.specs.Forwarded.{AllForwarded}
use Rattle.propagation.proofs.constants.propagate.forwarded_blocks.Given as goal

abbrev pub invariant-loop-number : goal.invariant-loop-number
invariant-loop-number l =
    record {
      table : IsTable l.table;
      clock : l.table.clock ≤ l.number * 2 ^ 64;
      count : length l.table.written.items ≡ length l.fn.table.written.items;
      made :
          (rest : List (Block ℕ)) → AllForwarded (length l.fn.table.written.items) l.fn.entries l.number (drop l.number l.blocks) rest
          → AllForwarded (length l.fn.table.written.items) l.fn.entries 0 l.fn.blocks (l.made.items ++ rest);
    }
