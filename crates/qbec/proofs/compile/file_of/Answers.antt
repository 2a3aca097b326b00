use Rattle.std.proofs.Common.{◌∙◌, subst}
use Rattle.obj_link.specs.Prelude.{IsImage, program, shown}
use Rattle.elf_file.specs.Conditions.{Loads}
use Rattle.elf_file.specs.File.{executable_of}
use Rattle.std.proofs.lemmas.List.{length-map}
use Rattle.qbec.proofs.PromotedFunctions.{one_each}
use Rattle.qbec.proofs.FileLemmas.{fits_below, is_file}
use Rattle.qbec.proofs.compile.file_of.Goals as goal

pub place-requires-clause-one_each : goal.place-requires-clause-one_each
place-requires-clause-one_each c =
    one_each (program c.args.linked.now) c.args.codes.now (program c.args.linked.now).functions c.requires.words.stand ∙ length-map c.args.linked.now.functions shown

pub place-requires-clause-fits : goal.place-requires-clause-fits
place-requires-clause-fits c = fits_below c.args.linked.now.texts.now (program c.args.linked.now) c.args.codes.now c.requires.program c.requires.words

pub returns-in_ok-bytes-in-Ok-clause-file : goal.returns-in_ok-bytes-in-Ok-clause-file
returns-in_ok-bytes-in-Ok-clause-file c =
    is_file c.args.linked.now.texts.now (program c.args.linked.now) c.args.codes.now c.in-Ok.image c.in_ok-bytes-in-Ok.bytes.items c.requires.program c.requires.words c.requires.reach
    c.in-Ok.ensures (subst IsImage c.image.view_is c.image.invariant) c.in_ok-bytes-in-Ok.ensures.loads c.in_ok-bytes-in-Ok.ensures.stands

pub returns-in_ok-bytes-in-Ok-clause-loads : goal.returns-in_ok-bytes-in-Ok-clause-loads
returns-in_ok-bytes-in-Ok-clause-loads c = subst (λ i. Loads c.in_ok-bytes-in-Ok.bytes.items (executable_of i)) c.in-Ok.ensures c.in_ok-bytes-in-Ok.ensures.loads
