use Rattle.shell.proofs.SinkLemmas.{stop_breaks}
use Rattle.commands.proofs.files.put_out.Goals as goal

pub returns-in-Err-clause-some : goal.returns-in-Err-clause-some
returns-in-Err-clause-some g c = stop_breaks _ _ _ _ c.in-Err.ensures.some
