use Rattle.std.proofs.Common.{◌≡◌, ◌≤◌, ◌++◌, ◌∷◌, [], length, length-append, ap, ◌+◌, arith, true, is_ok, vec_capacity}
use Rattle.il_mem.proofs.OverlaidLemmas.{as_many, set_first, set_next, set_later}
use Rattle.il_mem.proofs.block.Block.set_byte.Goals as goal

pub invariant_of-self-then-not-self : goal.invariant_of-self-then-not-self
invariant_of-self-then-not-self c =
    let same : length c.args.self.now ≡ length c.self.inside.marks.items = as_many _ _ _ _ c.self.view_is in
    let room : length c.self.inside.marks.items ≤ vec_capacity c.self.inside.bytes = c.self.invariant.1 in
    let ok : is_ok c.push.result ≡ true = c.push.ensures.succeeds (omega arith) in
    let items : c.push.new.self.items ≡ c.self.inside.bytes.items ++ c.args.byte ∷ [] = rw ok at c.push.ensures.items in
    let long : length (c.self.inside.bytes.items ++ c.args.byte ∷ []) ≡ length c.self.inside.bytes.items + 1 = length-append c.self.inside.bytes.items (c.args.byte ∷ []) in
    let more : length c.push.new.self.items ≡ length (c.self.inside.bytes.items ++ c.args.byte ∷ []) = ap length items in
    let kept : vec_capacity c.self.inside.bytes ≤ vec_capacity c.push.new.self = c.push.ensures.capacity in (
      omega arith,
      omega arith,
      c.self.invariant.2,
    )

pub index_mut-requires-else-at-len-2 : goal.index_mut-requires-else-at-len-2
index_mut-requires-else-at-len-2 c =
    let same : length c.args.self.now ≡ length c.self.inside.marks.items = as_many _ _ _ _ c.self.view_is in omega arith

pub returns-then-at-len : goal.returns-then-at-len
returns-then-at-len c =
    set_first c.self.inside.bytes.items c.self.inside.marks.items c.self.inside.values.items c.args.self.now c.args.at c.args.byte c.self.view_is (omega arith)

pub returns-then-not-self : goal.returns-then-not-self
returns-then-not-self c =
    let same : length c.args.self.now ≡ length c.self.inside.marks.items = as_many _ _ _ _ c.self.view_is in
    let room : length c.self.inside.marks.items ≤ vec_capacity c.self.inside.bytes = c.self.invariant.1 in
    let ok : is_ok c.push.result ≡ true = c.push.ensures.succeeds (omega arith) in
    let items : c.push.new.self.items ≡ c.self.inside.bytes.items ++ c.args.byte ∷ [] = rw ok at c.push.ensures.items in
    set_next c.self.inside.bytes.items c.push.new.self.items c.self.inside.marks.items c.self.inside.values.items c.args.self.now c.args.at c.args.byte
    c.self.view_is (omega arith) items

pub returns-else-at-len-2 : goal.returns-else-at-len-2
returns-else-at-len-2 c =
    set_later c.self.inside.bytes.items c.self.inside.marks.items c.self.inside.values.items c.args.self.now c.args.at c.args.byte c.self.view_is (omega arith)
