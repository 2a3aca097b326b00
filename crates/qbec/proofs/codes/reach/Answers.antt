use Rattle.std.proofs.Common.{◌∙◌}
use Rattle.std.proofs.lemmas.List.{length-map}
use Rattle.obj_link.specs.Prelude.{program, shown}
use Rattle.qbec.proofs.PromotedFunctions.{one_each}
use Rattle.qbec.proofs.FileLemmas.{fits_below}
use Rattle.qbec.proofs.codes.reach.Goals as goal

pub calls_reach-requires-clause-one_each : goal.calls_reach-requires-clause-one_each
calls_reach-requires-clause-one_each c =
    one_each (program c.args.linked.now) c.args.codes.now (program c.args.linked.now).functions c.requires.words.stand ∙ length-map c.args.linked.now.functions shown

pub calls_reach-requires-clause-fits : goal.calls_reach-requires-clause-fits
calls_reach-requires-clause-fits c = fits_below c.args.linked.now.texts.now (program c.args.linked.now) c.args.codes.now c.requires.program c.requires.words
