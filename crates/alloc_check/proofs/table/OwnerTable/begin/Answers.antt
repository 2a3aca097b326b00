use Rattle.std.proofs.Common.{arith}
use Rattle.alloc_check.proofs.Holding.{begins_known}
use Rattle.alloc_check.proofs.table.OwnerTable.begin.Goals as goal

pub returns-clause-own : goal.returns-clause-own
returns-clause-own c = begins_known c.args.self.now c.args.ground.now.registers c.args.time c.args.ground.now.everywhere.now c.requires.table

pub returns-clause-table : goal.returns-clause-table
returns-clause-table c =
    let t = c.requires.table in
    record {
      machine = t.machine;
      slots = t.slots;
      written = t.written;
      begun = omega arith;
      writes = λ r w e. omega (arith, t.writes r w e);
      cells = λ q h e. omega (arith, t.cells q h e);
      first = t.first;
    }
