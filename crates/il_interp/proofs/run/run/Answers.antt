use Rattle.std.proofs.Common.{◌∙◌, ap₂, sym}
use Rattle.il_interp.specs.Machine.{program_of}
use Rattle.il_interp.proofs.RunLemmas.{behaves, whole_run}
use Rattle.il_interp.proofs.run.run.Goals as goal

pub returns : goal.returns
returns c =
    whole_run (program_of c.args.prepared.now) c.args.turns c.args.state c.go_on.new.state c.in_ok-end.end c.in_ok-end.ensures
    ∙ ap₂ behaves (sym c.into_bytes.ensures) (sym c.unwrap_or.ensures)
