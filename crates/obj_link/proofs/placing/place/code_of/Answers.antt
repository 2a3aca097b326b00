use Rattle.obj_link.specs.Prelude.{program}
use Rattle.obj_link.proofs.ImageLemmas.{ends}
use Rattle.obj_link.proofs.placing.place.code_of.Goals as goal

pub push_functions-requires-clause-fits : goal.push_functions-requires-clause-fits
push_functions-requires-clause-fits c = (ends (program c.args.linked.now) c.args.codes.now c.requires.fits).functions
