use Rattle.std.proofs.Common.{◌≡◌, drop}
use Rattle.cfg_live.specs.Registers.{with_args}
use Rattle.cfg_live.proofs.uses.push_args.Given as goal

abbrev pub invariant-loop-arg : goal.invariant-loop-arg
invariant-loop-arg l = with_args l.reads (drop l.arg-index l.args) ≡ with_args l.fn.reads l.fn.args
