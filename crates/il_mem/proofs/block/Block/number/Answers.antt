use Rattle.std.proofs.Common.{◌≡◌, ◌+◌, ◌≤◌, length, refl, arith}
use Rattle.il_ast.specs.Prelude.{byte_count}
use Rattle.il_mem.specs.Joined.{joined}
use Rattle.il_mem.proofs.JoinedLemmas.{length-joined}
use Rattle.il_mem.proofs.OverlaidLemmas.{as_many, number_read}
use Rattle.il_mem.proofs.block.Block.number.Goals as goal

pub returns-then-is_within-clause-inside : goal.returns-then-is_within-clause-inside
returns-then-is_within-clause-inside c =
    let same : length c.args.self.now ≡ length c.self.inside.marks.items = as_many _ _ _ _ c.self.view_is in
    let short : length c.self.inside.bytes.items ≤ length c.self.inside.marks.items = c.self.invariant.0 in
    let inside : c.args.from + byte_count c.args.size ≤ c.len.result = c.if-is_within.ensures.0 refl in
    omega arith

pub returns-then-is_within-clause-value : goal.returns-then-is_within-clause-value
returns-then-is_within-clause-value c =
    let inside : c.args.from + byte_count c.args.size ≤ c.len.result = c.if-is_within.ensures.0 refl in
    let many : length (joined c.self.inside.marks.items c.self.inside.values.items) ≡ length c.self.inside.marks.items = length-joined _ _ in
    let short : length c.self.inside.bytes.items ≤ length c.self.inside.marks.items = c.self.invariant.0 in
    number_read c.args.from (byte_count c.args.size) c.little.result c.self.inside.bytes.items c.as_slice.result.now
    (joined c.self.inside.marks.items c.self.inside.values.items) c.args.self.now (omega arith) (omega arith) c.as_slice.ensures.value c.little.ensures c.self.view_is
