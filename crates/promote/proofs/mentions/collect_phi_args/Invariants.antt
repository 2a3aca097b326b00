use Rattle.std.proofs.Common.{◌≡◌, ◌++◌, take, flat_map}
use Rattle.promote.specs.Uses.{phi_arg_mentions}
use Rattle.promote.proofs.mentions.collect_phi_args.Given as goal

abbrev pub invariant-loop-arg : goal.invariant-loop-arg
invariant-loop-arg l = l.found.items ≡ l.fn.found.items ++ flat_map phi_arg_mentions (take l.arg-index l.args)
