use Rattle.commands.proofs.Judging.{sound}
use Rattle.commands.proofs.laws.programs_are_sound.Goals as goal

pub returns : goal.returns
returns c = sound
