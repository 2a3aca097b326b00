use Rattle.std.proofs.Common.{◌∙◌, sym}
use Rattle.command_line.proofs.Dashes.{handed_behind, read_before}
use Rattle.command_line.proofs.split.Goals as goal

pub returns-then-at-words-clause-read : goal.returns-then-at-words-clause-read
returns-then-at-words-clause-read c = read_before c.args.words.now c.dashes_at-at.result (sym c.is_trace.ensures ∙ c.if-not-is_trace.false) c.dashes_at-at.ensures.value

pub returns-then-at-words-clause-handed : goal.returns-then-at-words-clause-handed
returns-then-at-words-clause-handed c = handed_behind c.args.words.now c.dashes_at-at.result (sym c.is_trace.ensures ∙ c.if-not-is_trace.false) c.dashes_at-at.ensures.value
