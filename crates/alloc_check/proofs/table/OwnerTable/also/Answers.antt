use Rattle.std.proofs.Common.{◌≡◌, ◌&&◌, nat_lt, true, arith, ap, sym, ◌∙◌, Some}
use Rattle.std.proofs.lemmas.Bool.Decides.{nat_tests}
use Rattle.alloc_check.specs.Prelude.{Owners, where_held, own_also, in_table, own_of}
use Rattle.alloc_check.proofs.Holding.{also_owns, stays_table}
use Rattle.alloc_check.proofs.table.OwnerTable.also.Goals as goal

pub returns-clause-own : goal.returns-clause-own
returns-clause-own c =
    let n = c.args.ground.now.registers in
    let e = c.args.equality in
    let own : Owners = own_also e (own_of c.args.self.now) in
    let inside : in_table n e.place ≡ true = sym c.has_cell.ensures ∙ c.if-not-has_cell.false in
    let low : nat_lt e.register n ≡ true = grind (arith, nat_tests) in
    ap (λ (o : Owners). Some o)
    (also_owns c.args.self.now c.write.new.self n c.args.time c.args.ground.now.everywhere.now e.place e.register c.requires.table c.write.ensures c.if-register-ground.false)
    ∙ sym (ap (λ b. where_held (b && nat_lt e.register n) own) inside ∙ ap (λ b. where_held b own) low)

pub returns-clause-table : goal.returns-clause-table
returns-clause-table c =
    stays_table c.args.self.now c.write.new.self c.args.ground.now.registers c.args.time c.args.ground.now.everywhere.now c.args.equality.place
    (record { owner = Some c.args.equality.register; since = c.args.time }) c.requires.table c.write.ensures (omega arith)
