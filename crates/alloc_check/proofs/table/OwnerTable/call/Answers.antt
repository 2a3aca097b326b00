use Rattle.std.proofs.Common.{◌≡◌, ◌≤◌, refl, ap, ◌∙◌, nat_lt, if◌then◌else◌, Option, Some, List, length}
use Rattle.std.specs.Vec.{with_items}
use Rattle.std.proofs.lemmas.List.{with_items_is}
use Rattle.vcode.specs.declared.place.Location.{Location}
use Rattle.vcode.specs.declared.place.Location.TheVariants.{Register, Slot}
use Rattle.alloc_check.specs.declared.table.Held.{Held}
use Rattle.alloc_check.specs.declared.table.OwnerTable.{OwnerTable}
use Rattle.alloc_check.specs.Prelude.{item, cell_at, forgets, Forgotten}
use Rattle.alloc_check.proofs.Holding.{call_keeps, call_cells}
use Rattle.alloc_check.proofs.table.OwnerTable.call.Goals as goal

pub returns-clause-own : goal.returns-clause-own
returns-clause-own c =
    let t = c.args.self.now in
    let same : (with_items t.machine c.forget_callers.new.cells).items ≡ c.forget_callers.new.cells =
    with_items_is t.machine c.forget_callers.new.cells (c.forget_callers.auto.cells ∙ c.as_mut_slice.ensures.len) in
    let u : OwnerTable = record { machine = with_items t.machine c.forget_callers.new.cells; slots = t.slots; written = t.written; begun = t.begun; first = t.first } in
    call_keeps t u c.args.ground.now.registers c.args.time c.args.ground.now.everywhere.now c.requires.table refl refl refl refl
    (λ k. ap (λ (cells : List (Option Held)). item cells k) same ∙ c.forget_callers.ensures k
    ∙ ap (λ (cells : List (Option Held)). if nat_lt k (length cells) then forgets c.args.time k (item cells k) else item cells k) c.as_mut_slice.ensures.value)

pub returns-clause-table : goal.returns-clause-table
returns-clause-table c =
    let t = c.args.self.now in
    let is = c.requires.table in
    let u : OwnerTable = record { machine = with_items t.machine c.forget_callers.new.cells; slots = t.slots; written = t.written; begun = t.begun; first = t.first } in
    let same : u.machine.items ≡ c.forget_callers.new.cells =
    with_items_is t.machine c.forget_callers.new.cells (c.forget_callers.auto.cells ∙ c.as_mut_slice.ensures.len) in
    let after : Forgotten c.args.time u.machine.items t.machine.items =
    λ k. ap (λ (cells : List (Option Held)). item cells k) same ∙ c.forget_callers.ensures k
    ∙ ap (λ (cells : List (Option Held)). if nat_lt k (length cells) then forgets c.args.time k (item cells k) else item cells k) c.as_mut_slice.ensures.value in
    let low : (q : Location) (h : Held) → cell_at u q ≡ Some h → h.since ≤ c.args.time =
    λ q. elim q as (λ (p : Location). (h : Held) → cell_at u p ≡ Some h → h.since ≤ c.args.time) [
      | Register k ↦ λ h e. call_cells u.machine.items t.machine.items c.args.time k h (after k) (is.cells (Register k)) e
      | Slot s ↦ is.cells (Slot s)
    ] in
    record {
      machine = ap length same ∙ c.forget_callers.auto.cells ∙ ap length c.as_mut_slice.ensures.value ∙ is.machine;
      slots = is.slots;
      written = is.written;
      begun = is.begun;
      writes = is.writes;
      cells = low;
      first = is.first;
    }
