use Rattle.std.proofs.Common.{◌≡◌, ◌++◌, take}
use Rattle.il_types.specs.Prelude.{arg_operands}
use Rattle.il_types.proofs.operands.collect_args.Given as goal

abbrev pub invariant-loop-arg : goal.invariant-loop-arg
invariant-loop-arg l = l.found.items ≡ l.fn.found.items ++ arg_operands l.line (take l.arg-index l.args)
