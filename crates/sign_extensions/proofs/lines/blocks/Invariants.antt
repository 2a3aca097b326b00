use Rattle.std.proofs.Common.{◌≡◌, take, map}
use Rattle.sign_extensions.specs.Whole.{with_copies}
use Rattle.sign_extensions.proofs.lines.blocks.Given as goal

abbrev pub invariant-loop-block : goal.invariant-loop-block
invariant-loop-block l = l.made.items ≡ map (with_copies l.marks) (take l.block-index l.from)
