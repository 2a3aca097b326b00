use Rattle.obj_link.proofs.ProgramLemmas.{refuted, one_program}
use Rattle.obj_link.specs.Prelude.{program}
use Rattle.obj_link.proofs.linking.resolve.resolve.Goals as goal

pub returns-in-Ok-clause-only : goal.returns-in-Ok-clause-only
returns-in-Ok-clause-only c = λ p h. one_program c.args.texts.now (program c.in-Ok.linked) p c.in-Ok.ensures.is_program h

pub returns-in-Err-clause-only : goal.returns-in-Err-clause-only
returns-in-Err-clause-only c = λ p h. refuted c.in-Err.error c.args.texts.now p c.in-Err.ensures h
