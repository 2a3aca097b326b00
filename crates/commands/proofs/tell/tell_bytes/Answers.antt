use Rattle.commands.proofs.Telling.{either_at}
use Rattle.commands.proofs.tell.tell_bytes.Goals as goal

pub returns : goal.returns
returns g c = either_at _ _ _ c.write_exe.result c.write_exe.ensures.all c.write_exe.ensures.some
