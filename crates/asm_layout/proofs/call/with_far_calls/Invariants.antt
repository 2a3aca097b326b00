use Rattle.std.proofs.Common.{◌≡◌, ◌++◌, drop}
use Rattle.asm_layout.specs.Forms.{with_far_calls}
use Rattle.asm_layout.proofs.call.with_far_calls.Given as goal

abbrev pub invariant-loop-item : goal.invariant-loop-item
invariant-loop-item l = l.all.items ++ with_far_calls (drop l.item-index l.items) ≡ with_far_calls l.items
