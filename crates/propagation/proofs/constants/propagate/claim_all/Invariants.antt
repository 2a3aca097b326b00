use Rattle.std.proofs.Common.{◌≡◌, ◌<◌, ◌^◌, ◌+◌, length, drop}
use Rattle.propagation.specs.FactTable.{facts_of, IsTable}
use Rattle.propagation.specs.Forwarded.{claimed}
use Rattle.propagation.proofs.constants.propagate.claim_all.Given as goal

abbrev pub invariant-loop-claim : goal.invariant-loop-claim
invariant-loop-claim l =
    record {
      table : IsTable l.table;
      clock : l.table.clock ≡ l.fn.table.clock + l.claim-index;
      runs : l.fn.table.clock + length l.fn.claims < 2 ^ 128;
      count : length l.table.written.items ≡ length l.fn.table.written.items;
      made :
          claimed (length l.fn.table.written.items) (facts_of l.table) (drop l.claim-index l.claims)
          ≡ claimed (length l.fn.table.written.items) (facts_of l.fn.table) l.fn.claims;
    }
