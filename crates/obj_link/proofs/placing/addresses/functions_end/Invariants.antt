use Rattle.std.proofs.Common.{◌≡◌, drop}
use Rattle.obj_link.specs.Prelude.{functions_end, EveryCode}
use Rattle.obj_link.proofs.placing.addresses.functions_end.Given as goal

abbrev pub invariant-loop-code : goal.invariant-loop-code
invariant-loop-code l =
    (functions_end l.at (drop l.code-index l.codes) ≡ functions_end l.fn.start l.fn.codes)
    × (EveryCode (drop l.code-index l.codes) → EveryCode l.fn.codes)
