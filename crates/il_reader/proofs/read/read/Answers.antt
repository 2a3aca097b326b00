use Rattle.il_reader.proofs.ExactTexts.{text_sound, none_read}
use Rattle.il_reader.proofs.OneTree.{one_tree}
use Rattle.il_reader.proofs.read.read.Goals as goal

pub returns-in-Ok-clause-found : goal.returns-in-Ok-clause-found
returns-in-Ok-clause-found c = text_sound c.args.text.now c.in-Ok.tree c.in-Ok.ensures

pub returns-in-Ok-clause-only : goal.returns-in-Ok-clause-only
returns-in-Ok-clause-only c =
    λ t h. one_tree c.args.text.now c.in-Ok.tree t (text_sound c.args.text.now c.in-Ok.tree c.in-Ok.ensures) h

pub returns-in-Err-Syntax-clause-only : goal.returns-in-Err-Syntax-clause-only
returns-in-Err-Syntax-clause-only c = λ t h. absurd (none_read c.args.text.now (c.in-Err-Syntax.ensures c.in-Err-Syntax.field-0-is) t h)
