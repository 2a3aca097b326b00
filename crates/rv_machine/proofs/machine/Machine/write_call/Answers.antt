use Rattle.std.proofs.Common.{◌≡◌, ℕ, true, sym, ◌∙◌, ap, List, ◌++◌, ◌%◌, ◌^◌}
use Rattle.rv_isa.specs.Prelude.{State, register, a0, bytes_at, can_read}
use Rattle.rv_machine.specs.Entries.{view}
use Rattle.rv_machine.proofs.StepLaws.{write_done}
use Rattle.rv_machine.proofs.machine.Machine.write_call.Goals as goal

pub returns-in-Ok-clause-gives : goal.returns-in-Ok-clause-gives
returns-in-Ok-clause-gives g c =
    let s = view g.R.Ram c.args.self.now in
    let u : State = record s { output = c.put_out.new.output.items } in
    let here : register s a0 % 2 ^ 32 ≡ 1 = ap (λ (x : ℕ). x % 2 ^ 32) (sym c.register.ensures) ∙ c.if-register-ne-OUTPUT.false in
    let may : can_read s c.register-at.result c.register-count.result ≡ true = sym c.allowed.ensures.value ∙ c.if-not-allowed.false in
    let put_out : u ≡ record s { output = s.output ++ bytes_at s.bytes c.register-at.result c.register-count.result } =
    ap (λ (l : List ℕ). record s { output = l }) c.in-Ok.ensures.ok in
    write_done s (view g.R.Ram c.put-in-Ok.new.self) u c.register-at.result c.register-count.result here c.register-at.ensures c.register-count.ensures may
    put_out c.put-in-Ok.ensures
