use Rattle.std.proofs.Common.{◌≡◌, drop, not, ◌&&◌}
use Rattle.std.specs.List.{list_all}
use Rattle.il_ast.specs.declared.block.PhiArg.{PhiArg}
use Rattle.il_types.specs.Prelude.{named, is_never, is_once}
use Rattle.il_types.proofs.phis.are_args_right.Given as goal

abbrev pub invariant-loop-arg : goal.invariant-loop-arg
invariant-loop-arg l =
    list_all (λ (a : PhiArg). is_once (named l.tally a.from) && not (is_never (named l.leading a.from))) (drop l.arg-index l.args)
    ≡ list_all (λ (a : PhiArg). is_once (named l.tally a.from) && not (is_never (named l.leading a.from))) l.args
