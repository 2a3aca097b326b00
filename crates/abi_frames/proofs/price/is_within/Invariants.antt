use Rattle.std.proofs.Common.{◌≡◌, ◌+◌, drop}
use Rattle.rv_isa.specs.Prelude.{longest_size}
use Rattle.abi_frames.proofs.price.is_within.Given as goal

abbrev pub invariant-loop-item : goal.invariant-loop-item
invariant-loop-item l = longest_size l.fn.items + l.left ≡ l.fn.words + longest_size (drop l.item-index l.items)
