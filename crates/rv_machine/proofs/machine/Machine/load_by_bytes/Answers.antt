use Rattle.std.proofs.Common.{◌≡◌, true, sym, ◌∙◌}
use Rattle.rv_isa.specs.Prelude.{can_read}
use Rattle.rv_machine.specs.Entries.{view}
use Rattle.rv_machine.proofs.StepLaws.{load_gives}
use Rattle.rv_machine.proofs.machine.Machine.load_by_bytes.Goals as goal

pub returns-clause-gives : goal.returns-clause-gives
returns-clause-gives g c =
    let may : can_read (view g.R.Ram c.args.self.now) c.args.at c.load_size-size.result ≡ true = sym c.allowed.ensures.value ∙ c.if-not-allowed.false in
    load_gives (view g.R.Ram c.args.self.now) (view g.R.Ram c.put.new.self) c.args.op c.args.rd c.args.at c.load_size-size.result c.number-n.result c.load_value.result
    c.load_size-size.ensures.value may c.number-n.ensures.value c.load_value.ensures c.put.ensures
