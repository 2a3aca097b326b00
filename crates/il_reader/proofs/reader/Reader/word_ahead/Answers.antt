use Rattle.std.proofs.Common.{sym, ◌∙◌, arith}
use Rattle.il_reader.proofs.LookAhead.{found_within}
use Rattle.il_reader.proofs.reader.Reader.word_ahead.Goals as goal

pub split_at-requires : goal.split_at-requires
split_at-requires c =
    let found = c.in-Found-Word-default-default in
    let w = found_within c.self.inside.rest.now found.kind found.gap found.len (sym found.is ∙ c.self.invariant.0) in
    omega (arith, w.within)

pub split_at-requires-in-Found-Word-default-default : goal.split_at-requires-in-Found-Word-default-default
split_at-requires-in-Found-Word-default-default c =
    let found = c.in-Found-Word-default-default in
    let w = found_within c.self.inside.rest.now found.kind found.gap found.len (sym found.is ∙ c.self.invariant.0) in
    omega (arith, w.within, c.split_at.ensures.back_len)
