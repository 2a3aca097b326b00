use Rattle.std.proofs.Common.{◌≡◌, ◌++◌, take}
use Rattle.inlining.proofs.calls.push_copies.Given as goal

abbrev pub invariant-loop-block : goal.invariant-loop-block
invariant-loop-block l = l.to.items ≡ l.fn.to.items ++ take l.block-index l.blocks
