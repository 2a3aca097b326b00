use Rattle.std.proofs.Common.{◌≡◌, take, map}
use Rattle.sign_extensions.specs.Whole.{with_claim}
use Rattle.sign_extensions.proofs.lines.arguments.Given as goal

abbrev pub invariant-loop-argument : goal.invariant-loop-argument
invariant-loop-argument l = l.made.items ≡ map (with_claim l.marks) (take l.argument-index l.from)
