use Rattle.commands.proofs.Telling.{either}
use Rattle.commands.proofs.tell.tell_parts.Goals as goal

pub returns : goal.returns
returns g c = either _ _ _ c.write_parts.result c.write_parts.ensures.all c.write_parts.ensures.some
