use Rattle.std.proofs.Common.{◌≡◌, drop, length}
use Rattle.rv_isa.specs.Prelude.{filled}
use Rattle.obj_link.specs.Prelude.{name_address}
use Rattle.obj_link.proofs.placing.fill.fill_all.Given as goal

abbrev pub invariant-loop-hole : goal.invariant-loop-hole
invariant-loop-hole l =
    (filled l.at (name_address l.addresses l.targets l.text) l.words (drop l.hole-index l.holes)
    ≡ filled l.fn.at (name_address l.fn.addresses l.fn.targets l.fn.text) l.fn.words l.fn.holes)
    × (length l.words ≡ length l.fn.words)
