use Rattle.std.proofs.Common.{sym, ◌∙◌, arith}
use Rattle.il_reader.proofs.LookAhead.{found_within, line_ends-bound}
use Rattle.il_reader.proofs.reader.Reader.next.Goals as goal

pub split_at-requires : goal.split_at-requires
split_at-requires c =
    let w = found_within c.self.inside.rest.now c.in-Found.kind c.in-Found.gap c.in-Found.len (sym c.in-Found.is ∙ c.self.invariant.0) in
    omega (arith, w.within)

pub split_at-requires-in-Found : goal.split_at-requires-in-Found
split_at-requires-in-Found c =
    let w = found_within c.self.inside.rest.now c.in-Found.kind c.in-Found.gap c.in-Found.len (sym c.in-Found.is ∙ c.self.invariant.0) in
    omega (arith, w.within, c.split_at.ensures.back_len)

pub invariant_of-self : goal.invariant_of-self
invariant_of-self c =
    let w = found_within c.self.inside.rest.now c.in-Found.kind c.in-Found.gap c.in-Found.len (sym c.in-Found.is ∙ c.self.invariant.0) in
    let ends = line_ends-bound c.in-Found.kind in (
      c.scan-self-inside.ensures.value,
      omega (arith, w.within, w.some, ends, c.line_ends.ensures, c.split_at.ensures.back_len, c.split_at-in-Found.ensures.back_len, c.self.invariant.1),
    )
