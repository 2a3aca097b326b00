use Rattle.std.proofs.Common.{◌≡◌, ℕ, ◌+◌, ◌-◌, ◌%◌, Bool, true, rules, sym, ◌∙◌, ap}
use Rattle.rv_isa.specs.Prelude.{each_of, updated}
use Rattle.rv_isa.specs.declared.permission.Permission.{Permission}
use Rattle.rv_machine.specs.Mapped.{is_mapped}
use Rattle.rv_machine.proofs.Spans.{each_parts, stored_first, stored_one}
use Rattle.rv_machine.proofs.access.+set_bytes.Goals as goal

pub set-requires-clause-mapped : goal.set-requires-clause-mapped
set-requires-clause-mapped g t c =
    let p : ℕ → Bool = λ a. is_mapped (g.R.Ram.permission_at c.args.ram.now a) in
    (each_parts p c.args.at c.args.n c.requires.some c.requires.mapped).0

pub set-requires-clause-ready : goal.set-requires-clause-ready
set-requires-clause-ready g t c =
    (each_parts (g.R.Ram.is_ready c.args.ram.now) c.args.at c.args.n c.requires.some c.requires.ready).0

pub set_bytes-requires : goal.set_bytes-requires
set_bytes-requires g t c κs within =
    let p : ℕ → Bool = λ a. is_mapped (g.R.Ram.permission_at c.args.ram.now a) in
    let mapped : each_of p (c.args.at + 1) (c.args.n - 1) ≡ true = (each_parts p c.args.at c.args.n c.requires.some c.requires.mapped).1 in
    let ready : each_of (g.R.Ram.is_ready c.args.ram.now) (c.args.at + 1) (c.args.n - 1) ≡ true =
    (each_parts (g.R.Ram.is_ready c.args.ram.now) c.args.at c.args.n c.requires.some c.requires.ready).1 in
    search (rules, mapped, ready)

pub set-requires-else-n-eq1-clause-mapped : goal.set-requires-else-n-eq1-clause-mapped
set-requires-else-n-eq1-clause-mapped g t c =
    let p : ℕ → Bool = λ a. is_mapped (g.R.Ram.permission_at c.args.ram.now a) in
    ap (λ (f : ℕ → Permission). is_mapped (f c.args.at)) c.set_bytes.ensures.permissions
    ∙ (each_parts p c.args.at c.args.n c.requires.some c.requires.mapped).0

pub set-requires-else-n-eq1-clause-ready : goal.set-requires-else-n-eq1-clause-ready
set-requires-else-n-eq1-clause-ready g t c =
    ap (λ (f : ℕ → Bool). f c.args.at) c.set_bytes.ensures.stays_ready
    ∙ (each_parts (g.R.Ram.is_ready c.args.ram.now) c.args.at c.args.n c.requires.some c.requires.ready).0

pub returns-then-n-eq1-clause-bytes : goal.returns-then-n-eq1-clause-bytes
returns-then-n-eq1-clause-bytes g t c =
    c.set.ensures.bytes ∙ sym (stored_one (g.R.Ram.byte_at c.args.ram.now) c.args.at c.args.n c.args.value c.if-n-eq1.true)

pub returns-else-n-eq1-clause-bytes : goal.returns-else-n-eq1-clause-bytes
returns-else-n-eq1-clause-bytes g t c =
    c.set-else-n-eq1.ensures.bytes ∙ ap (λ (f : ℕ → ℕ). updated f c.args.at (c.args.value % 256)) c.set_bytes.ensures.bytes
    ∙ sym (stored_first (g.R.Ram.byte_at c.args.ram.now) c.args.at c.args.n c.args.value c.requires.some)
