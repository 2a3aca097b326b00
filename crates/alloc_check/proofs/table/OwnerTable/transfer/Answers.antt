use Rattle.std.proofs.Common.{◌≡◌, ℕ, true, arith, ap, subst, sym, ◌∙◌, Some, Option}
use Rattle.alloc_check.specs.declared.table.OwnerTable.{OwnerTable}
use Rattle.alloc_check.specs.Prelude.{Owners, where_held, own_move, in_table, own_of, Rewrites}
use Rattle.alloc_check.proofs.Holding.{move_owns, stays_table}
use Rattle.alloc_check.proofs.table.OwnerTable.transfer.Goals as goal

pub returns-clause-own : goal.returns-clause-own
returns-clause-own c =
    let n = c.args.ground.now.registers in
    let m = c.args.transfer in
    let t : OwnerTable = c.args.self.now in
    let own : Owners = own_move m (own_of t) in
    let inside : in_table n m.to ≡ true = sym c.has_cell.ensures ∙ c.if-not-has_cell.false in
    let rewrites : Rewrites m.to (record { owner = own_of t m.from; since = c.args.time }) t c.write.new.self =
    subst (λ (o : Option ℕ). Rewrites m.to (record { owner = o; since = c.args.time }) t c.write.new.self) c.owner.ensures c.write.ensures in
    ap (λ (o : Owners). Some o) (move_owns t c.write.new.self n c.args.time c.args.ground.now.everywhere.now m c.requires.table rewrites)
    ∙ sym (ap (λ b. where_held b own) inside)

pub returns-clause-table : goal.returns-clause-table
returns-clause-table c =
    stays_table c.args.self.now c.write.new.self c.args.ground.now.registers c.args.time c.args.ground.now.everywhere.now c.args.transfer.to
    (record { owner = c.owner.result; since = c.args.time }) c.requires.table c.write.ensures (omega arith)
