use Rattle.std.proofs.Common.{◌≡◌, ℕ, true, sym, subst}
use Rattle.rv_isa.specs.Prelude.{each_of}
use Rattle.rv_isa.specs.declared.permission.Permission.{Permission}
use Rattle.rv_machine.specs.Mapped.{is_mapped}
use Rattle.rv_machine.proofs.machine.Machine.store_by_bytes.Goals as goal

pub set_bytes-requires-clause-mapped : goal.set_bytes-requires-clause-mapped
set_bytes-requires-clause-mapped g c =
    let P : (ℕ → Permission) → Type 0 = λ p. each_of (λ a. is_mapped (p a)) c.args.at c.store_size-size.result ≡ true in
    subst P (sym c.ready.ensures.permissions) (rw c.if-not-allowed.false at c.allowed.ensures.mapped)
