use Rattle.std.proofs.Common.{◌≡◌, ◌++◌, take, flat_map}
use Rattle.promote.specs.Uses.{arg_mentions}
use Rattle.promote.proofs.mentions.collect_args.Given as goal

abbrev pub invariant-loop-arg : goal.invariant-loop-arg
invariant-loop-arg l = l.found.items ≡ l.fn.found.items ++ flat_map arg_mentions (take l.arg-index l.args)
