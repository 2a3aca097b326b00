use Rattle.std.proofs.Common.{◌≡◌, ℕ, sym, ◌∙◌, ap, subst, to_z, of_z, ℤ, w32}
use Rattle.rv_isa.specs.Prelude.{State, register, moved, load, store, act, environment_call}
use Rattle.rv_isa.specs.declared.instruction.Instr.{Instr}
use Rattle.rv_machine.specs.Entries.{view}
use Rattle.rv_machine.specs.Steps.{MayWant}
use Rattle.rv_machine.proofs.AtOnce.{narrow16, narrow32}
use Rattle.rv_machine.proofs.StepLaws.{gives_by}
use Rattle.rv_machine.proofs.machine.Machine.act.Goals as goal

pub returns-in-Ecall-clause-gives : goal.returns-in-Ecall-clause-gives
returns-in-Ecall-clause-gives g c =
    let s = view g.R.Ram c.args.self.now in
    let u = view g.R.Ram c.act_at_once.new.self in
    let same : u ≡ s = rw c.if-act_at_once.false at c.act_at_once.ensures.declined in
    let e : act c.args.instr s ≡ environment_call u = ap (λ (i : Instr). act i s) c.in-Ecall.is ∙ ap environment_call (sym same) in
    gives_by (act c.args.instr s) (environment_call u) c.environment_call.result s u (view g.R.Ram c.environment_call.new.self) e same c.environment_call.ensures.gives

pub returns-in-Ecall-clause-memory : goal.returns-in-Ecall-clause-memory
returns-in-Ecall-clause-memory g c h =
    let same : view g.R.Ram c.act_at_once.new.self ≡ view g.R.Ram c.args.self.now = rw c.if-act_at_once.false at c.act_at_once.ensures.declined in
    let P : State → Type 0 = λ x. MayWant g.R.Ram.refuses Instr.Ecall x in
    let Q : Instr → Type 0 = λ i. MayWant g.R.Ram.refuses i (view g.R.Ram c.args.self.now) in
    subst Q (sym c.in-Ecall.is) (subst P same (c.environment_call.ensures.memory h))

pub returns-in-Load-clause-gives : goal.returns-in-Load-clause-gives
returns-in-Load-clause-gives g c =
    let s = view g.R.Ram c.args.self.now in
    let u = view g.R.Ram c.act_at_once.new.self in
    let same : u ≡ s = rw c.if-act_at_once.false at c.act_at_once.ensures.declined in
    let z = c.in-Load.offset.value in
    let offset : to_z w32 (of_z w32 c.from.result) ≡ z =
    ap (λ (x : ℤ). to_z w32 (of_z w32 x)) (c.from.ensures ∙ narrow16 z c.in-Load.offset.in_range) ∙ narrow32 z c.in-Load.offset.in_range in
    let address : c.moved-at.result ≡ moved (register u c.in-Load.rs1) z =
    c.moved-at.ensures ∙ ap (λ (x : ℤ). moved c.register.result x) offset ∙ ap (λ (x : ℕ). moved x z) c.register.ensures in
    let e : act c.args.instr s ≡ load u c.in-Load.op c.in-Load.rd c.moved-at.result =
    ap (λ (i : Instr). act i s) c.in-Load.is ∙ ap (λ (x : State). load x c.in-Load.op c.in-Load.rd (moved (register x c.in-Load.rs1) z)) (sym same)
    ∙ ap (λ (a : ℕ). load u c.in-Load.op c.in-Load.rd a) (sym address) in
    gives_by (act c.args.instr s) (load u c.in-Load.op c.in-Load.rd c.moved-at.result) c.load_by_bytes.result s u (view g.R.Ram c.load_by_bytes.new.self) e same c.load_by_bytes.ensures.gives

pub returns-in-Store-clause-gives : goal.returns-in-Store-clause-gives
returns-in-Store-clause-gives g c =
    let s = view g.R.Ram c.args.self.now in
    let u = view g.R.Ram c.act_at_once.new.self in
    let same : u ≡ s = rw c.if-act_at_once.false at c.act_at_once.ensures.declined in
    let z = c.in-Store.offset.value in
    let offset : to_z w32 (of_z w32 c.from-in-Store.result) ≡ z =
    ap (λ (x : ℤ). to_z w32 (of_z w32 x)) (c.from-in-Store.ensures ∙ narrow16 z c.in-Store.offset.in_range) ∙ narrow32 z c.in-Store.offset.in_range in
    let address : c.moved-at-in-Store.result ≡ moved (register u c.in-Store.rs1) z =
    c.moved-at-in-Store.ensures ∙ ap (λ (x : ℤ). moved c.register-in-Store.result x) offset ∙ ap (λ (x : ℕ). moved x z) c.register-in-Store.ensures in
    let e : act c.args.instr s ≡ store u c.in-Store.op c.register-value.result c.moved-at-in-Store.result =
    ap (λ (i : Instr). act i s) c.in-Store.is
    ∙ ap (λ (x : State). store x c.in-Store.op (register x c.in-Store.rs2) (moved (register x c.in-Store.rs1) z)) (sym same)
    ∙ ap (λ (a : ℕ). store u c.in-Store.op (register u c.in-Store.rs2) a) (sym address)
    ∙ ap (λ (v : ℕ). store u c.in-Store.op v c.moved-at-in-Store.result) (sym c.register-value.ensures) in
    gives_by (act c.args.instr s) (store u c.in-Store.op c.register-value.result c.moved-at-in-Store.result) c.store_by_bytes.result s u (view g.R.Ram c.store_by_bytes.new.self) e same c.store_by_bytes.ensures.gives
