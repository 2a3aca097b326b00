use Rattle.std.proofs.Common.{◌≡◌, ◌+◌, slice_get, ◌&&◌, true, nat_lt, arith, ap, sym, ◌∙◌, Some, length, subst, length-set}
use Rattle.std.proofs.lemmas.Bool.Decides.{nat_tests}
use Rattle.alloc_check.specs.declared.first.First.{First}
use Rattle.alloc_check.specs.Prelude.{Owners, where_held, own_put, in_table, own_of, IsFirst}
use Rattle.alloc_check.proofs.Holding.{put_owns, later_cells, later_writes}
use Rattle.alloc_check.proofs.table.OwnerTable.put.Goals as goal

pub returns-clause-own : goal.returns-clause-own
returns-clause-own c =
    let n = c.args.ground.now.registers in
    let own : Owners = own_put c.args.place c.args.register (own_of c.args.self.now) in
    let inside : in_table n c.args.place ≡ true = sym c.has_cell.ensures ∙ c.if-not-has_cell.false in
    let low : nat_lt c.args.register n ≡ true = grind (arith, nat_tests) in
    ap (λ (o : Owners). Some o)
    (put_owns c.args.self.now c.write.new.self n c.args.time c.args.ground.now.everywhere.now c.args.place c.args.register c.requires.table c.write.ensures c.if-register-ground.false)
    ∙ sym (ap (λ b. where_held (b && nat_lt c.args.register n) own) inside ∙ ap (λ b. where_held b own) low)

pub returns-clause-table : goal.returns-clause-table
returns-clause-table c =
    let t = c.requires.table in
    let w = c.write.ensures in
    let es = c.args.ground.now.everywhere.now in
    record {
      machine = w.machine ∙ t.machine;
      slots = w.slots ∙ t.slots;
      written = length-set c.write.new.self.written.items c.args.register (c.args.time + 1) ∙ ap length w.written ∙ t.written;
      begun = omega (arith, w.begun, t.begun);
      writes = later_writes c.write.new.self.written.items c.args.register c.args.time (λ k v e. t.writes k v (subst (λ ws. slice_get ws k ≡ Some v) w.written e));
      cells =
          later_cells c.args.self.now c.write.new.self c.args.ground.now.registers c.args.time (c.args.time + 1) es c.args.place
          (record { owner = Some c.args.register; since = c.args.time + 1 }) t w (omega arith) (omega arith);
      first = subst (λ (f : First). IsFirst c.args.ground.now.registers es f) (sym w.first) t.first;
    }
