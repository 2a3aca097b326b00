use Rattle.std.proofs.Common.{refl, ◌≡◌, None}
use Rattle.vcode.specs.declared.place.Location.{Location}
use Rattle.vcode.specs.declared.place.Location.TheVariants.{Register, Slot}
use Rattle.alloc_check.specs.declared.table.OwnerTable.{OwnerTable}
use Rattle.alloc_check.specs.Prelude.{cell_at}
use Rattle.alloc_check.proofs.Holding.{new_known}
use Rattle.alloc_check.proofs.table.OwnerTable.new.Goals as goal

pub returns-clause-own : goal.returns-clause-own
returns-clause-own c =
    let t : OwnerTable =
    record { machine = c.in_ok-machine.machine; slots = c.in_ok-slots.slots; written = c.in_ok-written.written; begun = 0; first = c.in_ok-first.first }
    in
    new_known t c.args.ground.now.registers c.args.ground.now.everywhere.now c.in_ok-first.ensures c.in_ok-written.ensures.count c.in_ok-written.ensures.zero refl
    (λ q. elim q as (λ (p : Location). cell_at t p ≡ None) [
      | Register k ↦ c.in_ok-machine.ensures.empty k
      | Slot s ↦ c.in_ok-slots.ensures.empty s
    ])
