use Rattle.std.proofs.Common.{◌≡◌, drop}
use Rattle.rv_isa.specs.Prelude.{all_reach}
use Rattle.obj_link.specs.Prelude.{name_address}
use Rattle.obj_link.proofs.placing.reach.all_reach.Given as goal

abbrev pub invariant-loop-hole : goal.invariant-loop-hole
invariant-loop-hole l =
    all_reach l.at (name_address l.addresses l.targets l.text) (drop l.hole-index l.holes)
    ≡ all_reach l.fn.at (name_address l.fn.addresses l.fn.targets l.fn.text) l.fn.holes
