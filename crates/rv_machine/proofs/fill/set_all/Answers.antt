use Rattle.std.proofs.Common.{ℕ, ◌+◌, Bool, ◌∙◌, ap, arith}
use Rattle.rv_isa.specs.declared.permission.Permission.{Permission}
use Rattle.rv_isa.proofs.MemoryLemmas.{each_at}
use Rattle.rv_machine.specs.Mapped.{is_mapped}
use Rattle.rv_machine.proofs.fill.set_all.Goals as goal

pub set-requires-clause-mapped : goal.set-requires-clause-mapped
set-requires-clause-mapped g c =
    let at = c.args.at + c.loop-k.k in
    ap (λ (p : ℕ → Permission). is_mapped (p at)) c.loop-k.invariant.permissions
    ∙ each_at (λ a. is_mapped (g.R.Ram.permission_at c.args.ram.now a)) c.args.at _ at c.requires.mapped (omega arith) (omega arith)

pub set-requires-clause-ready : goal.set-requires-clause-ready
set-requires-clause-ready g c =
    let at = c.args.at + c.loop-k.k in
    ap (λ (p : ℕ → Bool). p at) c.loop-k.invariant.ready
    ∙ each_at (g.R.Ram.is_ready c.args.ram.now) c.args.at _ at c.requires.ready (omega arith) (omega arith)
