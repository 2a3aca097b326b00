use Rattle.obj_link.proofs.MainLemmas.{programs_export_main}
use Rattle.obj_link.proofs.laws.programs_export_main.Goals as goal

pub returns : goal.returns
returns c = programs_export_main
